use Rattle.std.proofs.Common.{rules}
use Rattle.sv_groups.proofs.Processes.{ids_loop, whole_loop}
use Rattle.sv_groups.proofs.order.Roster.start_order.Goals as goal

pub loop-left-preserved : goal.loop-left-preserved
loop-left-preserved c = record {
  told = ids_loop _ _ _ _ c.loop-left.left.now c.group-item.result _ c.in-len1-up.len_at_least c.group-item.is c.as_slice-members.ensures (search rules) c.loop-left.invariant.told;
  whole = whole_loop _ _ c.loop-left.left.now c.group-item.result _ c.in-len1-up.len_at_least c.group-item.is c.as_slice-members.ensures c.loop-left.invariant.whole;
}
