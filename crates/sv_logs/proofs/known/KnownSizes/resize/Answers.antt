use Rattle.std.proofs.Common.{◌≡◌, true, sym, subst, ◌∙◌, ap}
use Rattle.sv_logs.specs.Sizes.{Sizes, rise, sized}
use Rattle.sv_logs.proofs.Places.{sized_here, sized_rises}
use Rattle.sv_logs.proofs.known.KnownSizes.resize.Goals as goal

pub invariant_of-self : goal.invariant_of-self
invariant_of-self c =
    let here = sized_here c.args.file.now c.args.size c.self.inside.sizes.items c.args.at c.index_mut.result.now c.self.invariant (rw c.self.view_is c.requires) c.index_mut.ensures.value in
    subst (λ (sizes : Sizes). rise sizes ≡ true) (sym here) (sized_rises c.args.file.now c.args.size c.self.inside.sizes.items c.self.invariant)

pub returns : goal.returns
returns c =
    sized_here c.args.file.now c.args.size c.self.inside.sizes.items c.args.at c.index_mut.result.now c.self.invariant (rw c.self.view_is c.requires) c.index_mut.ensures.value
    ∙ ap (sized c.args.file.now c.args.size) c.self.view_is
