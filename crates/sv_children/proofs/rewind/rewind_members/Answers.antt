use Rattle.sv_children.proofs.Rewinding.{members_count, members_end, members_loop}
use Rattle.sv_children.proofs.rewind.rewind_members.Goals as goal

pub loop-left-preserved : goal.loop-left-preserved
loop-left-preserved c = record {
  places = members_count c.loop-left.next _ c.loop-left.left.now c.in-len1-up.len_at_least c.loop-left.invariant.places;
  goes = members_loop c.args.at c.loop-left.next c.loop-left.left.now c.member-item.result _ _ _ c.in-len1-up.len_at_least c.member-item.is c.rewind_one.ensures c.loop-left.invariant.goes;
}

pub returns : goal.returns
returns c = members_end c.args.at c.loop-left.next c.loop-left.left.now _ _ c.in_default.len_below c.loop-left.invariant.goes
