use Rattle.sv_multi.proofs.PartLaws.{part_more}
use Rattle.sv_multi.proofs.parts.parts_in.Goals as goal

pub loop-value-preserved : goal.loop-value-preserved
loop-value-preserved c =
    part_more _ c.args.values.now c.loop-value.value-index c.value-item.result c.loop-value.parts.items c.push.new.self.items c.in_ok-part_in.field-0
    c.loop-value-test.true c.value-item.is c.loop-value.invariant c.in_ok-part_in.ensures.part c.in_ok-push.ensures.items
