use Rattle.std.proofs.Common.{drop}
use Rattle.sv_timers.proofs.NextLaws.{found, none_found, skipped}
use Rattle.sv_timers.proofs.list.first_from.Goals as goal

pub returns-then-child-from : goal.returns-then-child-from
returns-then-child-from c =
    found c.args.children.now c.args.told c.loop-place.place c.args.from _ c.loop-place-test.true c.if-child-from.true
    c.loop-place.invariant

pub returns : goal.returns
returns c =
    none_found c.args.children.now (drop c.args.told c.args.children.now) c.loop-place.place c.args.from
    c.loop-place-test.false c.loop-place.invariant

pub loop-place-preserved : goal.loop-place-preserved
loop-place-preserved c =
    skipped c.args.children.now (drop c.args.told c.args.children.now) c.loop-place.place c.args.from _
    c.loop-place-test.true c.if-child-from.false c.loop-place.invariant
