use Rattle.std.proofs.Common.{refl}
use Rattle.std.specs.Prelude.{length}
use Rattle.sv_core.specs.MachineState.{opening}
use Rattle.sv_cut_laws.proofs.Cut.{cut_changes_nothing}
use Rattle.sv_cut_laws.proofs.Handing.IsFollowed.{runs}
use Rattle.sv_cut_laws.proofs.HaveRuns.{new_runs}
use Rattle.sv_groups.specs.StartOrder.{processes}
use Rattle.sv_cut_laws.proofs.an_idle_cut_changes_nothing.Goals as goal

pub returns : goal.returns
returns c = λ config sizes host cut idle. cut_changes_nothing (opening config sizes host) cut refl (runs refl) (new_runs (length (processes config.groups))) idle
