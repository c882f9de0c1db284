use Rattle.sv_listener_laws.proofs.Together.{in_step}
use Rattle.sv_listener_laws.proofs.laws.both_ends_keep_in_step.Goals as goal

pub returns : goal.returns
returns c = λ names buffer steps fit some sound. in_step names buffer steps fit sound
