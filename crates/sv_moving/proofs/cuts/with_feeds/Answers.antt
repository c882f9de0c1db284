use Rattle.sv_moving.proofs.Feeds.{fed_next, fed_end}
use Rattle.sv_moving.proofs.cuts.with_feeds.Goals as goal

pub loop-left-preserved : goal.loop-left-preserved
loop-left-preserved c =
    fed_next _ _ _ c.loop-left.behind c.loop-left.left.now c.c-item.result c.in-len1-up.len_at_least c.c-item.is c.in_ok-put_fed.ensures
    c.loop-left.invariant

pub returns : goal.returns
returns c = fed_end _ _ c.loop-left.behind c.loop-left.left.now c.in_default.len_below c.loop-left.invariant
