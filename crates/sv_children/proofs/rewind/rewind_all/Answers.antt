use Rattle.sv_children.proofs.Rewinding.{groups_end, groups_loop}
use Rattle.sv_groups.proofs.Processes.{whole_loop}
use Rattle.sv_children.proofs.rewind.rewind_all.Goals as goal

pub loop-left-preserved : goal.loop-left-preserved
loop-left-preserved c = record {
  places = whole_loop c.loop-left.next _ c.loop-left.left.now c.group-item.result c.as_slice-members.result.now c.in-len1-up.len_at_least c.group-item.is c.as_slice-members.ensures c.loop-left.invariant.places;
  goes = groups_loop c.args.at c.loop-left.next c.loop-left.left.now c.group-item.result c.as_slice-members.result.now _ _ _ c.in-len1-up.len_at_least c.group-item.is c.as_slice-members.ensures c.rewind_members.ensures c.loop-left.invariant.goes;
}

pub returns : goal.returns
returns c = groups_end c.args.at c.loop-left.next c.loop-left.left.now _ _ c.in_default.len_below c.loop-left.invariant.goes
