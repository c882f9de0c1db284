use Rattle.sv_listener.proofs.Written.{hears_front, hears_whole}
use Rattle.sv_listener.proofs.laws.a_written_event_is_heard.Goals as goal

pub returns-clause-whole : goal.returns-clause-whole
returns-clause-whole c = hears_whole

pub returns-clause-part : goal.returns-clause-part
returns-clause-part c = hears_front
