use Rattle.sv_core_laws.proofs.LogHistory.{history}
use Rattle.sv_core_laws.proofs.each_log_has_a_history.Goals as goal

pub returns : goal.returns
returns c = λ config sizes host inputs. history config sizes host inputs
