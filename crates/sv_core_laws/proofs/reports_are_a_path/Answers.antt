use Rattle.std.proofs.Common.{ap, sym, ◌∙◌}
use Rattle.sv_base.specs.Roster.{is_roster}
use Rattle.sv_core_laws.proofs.Reported.{path}
use Rattle.sv_core_laws.proofs.reports_are_a_path.Goals as goal

pub returns : goal.returns
returns c = λ sizes host inputs.
    path c.args.config.now sizes host inputs (ap is_roster (sym c.as_slice-groups.ensures.value) ∙ c.as_slice-groups.ensures.roster)
