use Rattle.sv_core_laws.proofs.LinkHistory.{history}
use Rattle.sv_core_laws.proofs.each_link_has_a_history.Goals as goal

pub returns : goal.returns
returns c = λ config sizes host inputs. history config sizes host inputs
