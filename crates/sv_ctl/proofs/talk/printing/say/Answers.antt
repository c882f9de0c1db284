use Rattle.std.proofs.Common.{inl, inr, refl}
use Rattle.sv_ctl.proofs.talk.printing.say.Goals as goal

pub returns-in-Ok-clause-says : goal.returns-in-Ok-clause-says
returns-in-Ok-clause-says g c = inl (refl, c.in-Ok.ensures.ok)

pub returns-in-Err-clause-says : goal.returns-in-Err-clause-says
returns-in-Err-clause-says g c = inr (refl, c.in-Err.ensures.err)
