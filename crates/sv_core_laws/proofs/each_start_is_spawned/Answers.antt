use Rattle.sv_core_laws.proofs.Spawning.{each_spawned}
use Rattle.sv_core_laws.proofs.each_start_is_spawned.Goals as goal

pub returns : goal.returns
returns c = λ config sizes host inputs. each_spawned config sizes host inputs
