use Rattle.sv_supervise.proofs.Deeds.{same_deeds, same_state}
use Rattle.sv_supervise.proofs.laws.deeds_are_the_machine_s.Goals as goal

pub returns : goal.returns
returns c = λ m inputs. record { deeds = same_deeds m inputs; state = same_state m inputs }
