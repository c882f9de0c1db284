use Rattle.sv_moving.specs.Differences.{key_here}
use Rattle.sv_moving.proofs.Gathering.{mapped_next, mapped_end}
use Rattle.sv_moving.proofs.meaning.say_keys_here.Goals as goal

pub loop-left-preserved : goal.loop-left-preserved
loop-left-preserved c =
    mapped_next (key_here c.args.section.now) c.loop-left.left.now c.key-item.result _ _ _ c.in-len1-up.len_at_least c.key-item.is
    c.in_ok-say_key_here.ensures c.loop-left.invariant

pub returns : goal.returns
returns c = mapped_end (key_here c.args.section.now) c.loop-left.left.now _ _ c.in_default.len_below c.loop-left.invariant
