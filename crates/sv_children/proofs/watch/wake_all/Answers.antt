use Rattle.std.proofs.Common.{List, Option, ℕ, arith, ap, length, sym, ◌∙◌}
use Rattle.std.specs.Prelude.{slice_set}
use Rattle.sv_children.proofs.Watching.{both_all, both_count, both_more, wakes_count}
use Rattle.sv_children.specs.Awake.{wakes_of}
use Rattle.sv_groups.specs.StartOrder.{pairs_of}
use Rattle.sv_children.proofs.watch.wake_all.Goals as goal

pub put-requires : goal.put-requires
put-requires c =
    let wakes = wakes_of (pairs_of c.args.roster.now) c.args.children.now in
    let same = ap length c.loop-place.invariant in
    omega (arith, same, both_count c.loop-place.place wakes c.args.agenda.now, c.requires, c.loop-place-test.true)

pub loop-place-preserved : goal.loop-place-preserved
loop-place-preserved c =
    let wakes = wakes_of (pairs_of c.args.roster.now) c.args.children.now in
    c.put.ensures
    ∙ ap (λ (xs : List (Option ℕ)). slice_set xs c.loop-place.place c.wakes_at.result) c.loop-place.invariant
    ∙ both_more c.loop-place.place wakes c.args.agenda.now c.wakes_at.result
    (omega (arith, c.requires, c.loop-place-test.true)) c.wakes_at.ensures

pub returns : goal.returns
returns c =
    let pairs = pairs_of c.args.roster.now in
    c.loop-place.invariant
    ∙ both_all c.loop-place.place (wakes_of pairs c.args.children.now) c.args.agenda.now
    (wakes_count pairs c.args.children.now ∙ sym c.requires) (omega (arith, c.requires, c.loop-place-test.false))
