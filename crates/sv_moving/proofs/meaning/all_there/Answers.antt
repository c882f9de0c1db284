use Rattle.sv_moving.specs.Differences.{said_there}
use Rattle.sv_moving.proofs.Gathering.{gathered_next, gathered_end}
use Rattle.sv_moving.proofs.meaning.all_there.Goals as goal

pub loop-left-preserved : goal.loop-left-preserved
loop-left-preserved c =
    gathered_next said_there c.loop-left.left.now c.section-item.result _ _ _ c.in-len1-up.len_at_least c.section-item.is
    c.in_ok-say_there.ensures c.loop-left.invariant

pub returns : goal.returns
returns c = gathered_end said_there c.loop-left.left.now _ _ c.in_default.len_below c.loop-left.invariant
