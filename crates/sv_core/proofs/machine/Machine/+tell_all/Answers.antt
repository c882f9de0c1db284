use Rattle.sv_core.proofs.Shown.{tokens_told}
use Rattle.sv_core.proofs.machine.Machine.+tell_all.Goals as goal

pub returns-in_ok-tell_all-in-len1-up-clause-tells : goal.returns-in_ok-tell_all-in-len1-up-clause-tells
returns-in_ok-tell_all-in-len1-up-clause-tells t c = λ older w s.
    tokens_told c.tell_all.new.self older c.args.child c.args.tokens.now w c.token-item.result c.in-len1-up.len_at_least c.token-item.is
    (c.in_ok-tell_all-in-len1-up.ensures.tells older _ (c.in_ok-tell-in-len1-up.ensures.tells older w s))
