use Rattle.sv_moving.specs.Differences.{key_there}
use Rattle.sv_moving.proofs.Gathering.{mapped_next, mapped_end}
use Rattle.sv_moving.proofs.meaning.say_keys_there.Goals as goal

pub loop-left-preserved : goal.loop-left-preserved
loop-left-preserved c =
    mapped_next (key_there c.args.section.now) c.loop-left.left.now c.entry-item.result _ _ _ c.in-len1-up.len_at_least c.entry-item.is
    c.in_ok-say_key_there.ensures c.loop-left.invariant

pub returns : goal.returns
returns c = mapped_end (key_there c.args.section.now) c.loop-left.left.now _ _ c.in_default.len_below c.loop-left.invariant
