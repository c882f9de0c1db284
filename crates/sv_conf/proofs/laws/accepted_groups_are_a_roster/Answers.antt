use Rattle.sv_conf.proofs.Accepted.{accepted_roster}
use Rattle.sv_conf.proofs.laws.accepted_groups_are_a_roster.Goals as goal

pub returns : goal.returns
returns c = accepted_roster
