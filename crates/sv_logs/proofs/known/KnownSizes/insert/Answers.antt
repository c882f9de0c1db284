use Rattle.std.proofs.Common.{◌≡◌, true, sym, subst, ◌∙◌, ap}
use Rattle.sv_logs.specs.Places.{IsGapFor}
use Rattle.sv_logs.specs.Sizes.{Sizes, rise, sized}
use Rattle.sv_logs.proofs.Places.{sized_gap, sized_rises}
use Rattle.sv_logs.proofs.known.KnownSizes.insert.Goals as goal

pub invariant_of-self-2 : goal.invariant_of-self-2
invariant_of-self-2 c =
    let gap : IsGapFor c.args.file c.self.inside.sizes.items c.args.at = rw c.self.view_is c.requires in
    subst (λ (sizes : Sizes). rise sizes ≡ true)
    (sized_gap c.args.file c.args.size c.self.inside.sizes.items c.args.at gap ∙ sym c.in_ok-insert.ensures.items)
    (sized_rises c.args.file c.args.size c.self.inside.sizes.items c.self.invariant)

pub returns-clause-sizes : goal.returns-clause-sizes
returns-clause-sizes c =
    let gap : IsGapFor c.args.file c.self.inside.sizes.items c.args.at = rw c.self.view_is c.requires in
    c.in_ok-insert.ensures.items
    ∙ sym (sized_gap c.args.file c.args.size c.self.inside.sizes.items c.args.at gap)
    ∙ ap (sized c.args.file c.args.size) c.self.view_is
