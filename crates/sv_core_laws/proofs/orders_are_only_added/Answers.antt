use Rattle.sv_core_laws.proofs.Reported.{all_given}
use Rattle.sv_core_laws.proofs.orders_are_only_added.Goals as goal

pub returns : goal.returns
returns c = all_given
