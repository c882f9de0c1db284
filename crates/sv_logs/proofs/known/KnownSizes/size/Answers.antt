use Rattle.std.proofs.Common.{◌≡◌, [], true, sym, subst, arith}
use Rattle.std.proofs.lemmas.List.{get_or_default}
use Rattle.sv_logs.specs.Sizes.{Sizes, rise}
use Rattle.sv_logs.proofs.Places.{size_found, size_gap}
use Rattle.sv_logs.proofs.known.KnownSizes.size.Goals as goal

pub returns-in-Ok : goal.returns-in-Ok
returns-in-Ok c =
    let value = size_found c.args.file.now _ _ ([], 0) (subst (λ (sizes : Sizes). rise sizes ≡ true) c.self.view_is c.self.invariant) c.in-Ok.ensures.found in
    let read = get_or_default _ c.in-Ok.at c.index.result.now ([], 0) c.in-Ok.ensures.found.below in
    grind (arith, c.self.view_is)

pub returns-in-Err : goal.returns-in-Err
returns-in-Err c = sym (size_gap _ _ _ c.in-Err.ensures.absent)
