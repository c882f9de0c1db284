use Rattle.sv_core.proofs.Shown.{parts_taken}
use Rattle.sv_core.proofs.machine.Machine.+take_parts.Goals as goal

pub returns-in_ok-take_parts-in-len1-up-clause-takes : goal.returns-in_ok-take_parts-in-len1-up-clause-takes
returns-in_ok-take_parts-in-len1-up-clause-takes t c = λ older w s.
    parts_taken c.take_parts.new.self older c.args.owner c.args.channel c.args.parts.now w c.part-item.result c.in-len1-up.len_at_least c.part-item.is
    (c.in_ok-take_parts-in-len1-up.ensures.takes older _ (c.in_ok-take_part-in-len1-up.ensures.takes older w s))
