use Rattle.std.proofs.Common.{◌≡◌, true, sym, subst, ◌∙◌, ap}
use Rattle.sv_logs.specs.Sizes.{Sizes, cleared, rise}
use Rattle.sv_logs.proofs.Places.{cleared_gap, cleared_here, cleared_rises}
use Rattle.sv_logs.proofs.known.KnownSizes.clear.Goals as goal

pub invariant_of-self : goal.invariant_of-self
invariant_of-self c =
    let here = cleared_here c.args.file.now c.self.inside.sizes.items c.in-Ok.at c.index_mut.result.now c.self.invariant (rw c.self.view_is c.in-Ok.ensures.found) c.index_mut.ensures.value in
    subst (λ (sizes : Sizes). rise sizes ≡ true) (sym here) (cleared_rises c.args.file.now c.self.inside.sizes.items c.self.invariant)

pub returns-in-Ok : goal.returns-in-Ok
returns-in-Ok c =
    cleared_here c.args.file.now c.self.inside.sizes.items c.in-Ok.at c.index_mut.result.now c.self.invariant (rw c.self.view_is c.in-Ok.ensures.found) c.index_mut.ensures.value
    ∙ ap (cleared c.args.file.now) c.self.view_is

pub returns-in_default : goal.returns-in_default
returns-in_default c = sym (cleared_gap _ _ _ c.in_default.ensures.absent)
