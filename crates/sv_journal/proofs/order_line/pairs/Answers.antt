use Rattle.std.proofs.Common.{◌-◌, refl}
use Rattle.sv_journal.specs.OrderReading.{pair_at, counted_at}
use Rattle.sv_journal.proofs.Counted.{items_more}
use Rattle.sv_journal.proofs.order_line.pairs.Goals as goal

pub loop-left-preserved : goal.loop-left-preserved
loop-left-preserved c =
    items_more pair_at c.loop-left.left (c.loop-left.left - 1) c.loop-left.rest.now c.in-Ok.after.now c.loop-left.pairs c.push.new.self c.in-Ok.next
    (counted_at pair_at c.args.bytes.now) c.loop-left-test.true refl c.in_ok-push-in-Ok.ensures.ok c.in-Ok.ensures c.loop-left.invariant
