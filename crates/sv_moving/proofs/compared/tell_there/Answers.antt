use Rattle.sv_moving.specs.Differences.{differs_there}
use Rattle.sv_moving.proofs.Gathering.{gathered_next, gathered_end}
use Rattle.sv_moving.proofs.compared.tell_there.Goals as goal

pub loop-left-preserved : goal.loop-left-preserved
loop-left-preserved c =
    gathered_next (differs_there c.args.here.now) c.loop-left.left.now c.meaning-item.result _ _ _ c.in-len1-up.len_at_least c.meaning-item.is
    c.in_ok-tell_against.ensures c.loop-left.invariant

pub returns : goal.returns
returns c = gathered_end (differs_there c.args.here.now) c.loop-left.left.now _ _ c.in_default.len_below c.loop-left.invariant
