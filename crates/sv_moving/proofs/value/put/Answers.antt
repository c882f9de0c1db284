use Rattle.sv_moving.proofs.Feeds.{put_next, put_end}
use Rattle.sv_moving.proofs.value.put.Goals as goal

pub loop-left-preserved : goal.loop-left-preserved
loop-left-preserved c = put_next _ _ _ c.loop-left.left.now c.c-item.result c.in-len1-up.len_at_least c.c-item.is c.in_ok-push.ensures.bytes c.loop-left.invariant

pub returns : goal.returns
returns c = put_end _ _ c.loop-left.left.now c.in_default.len_below c.loop-left.invariant
