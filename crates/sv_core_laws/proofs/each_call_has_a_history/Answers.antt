use Rattle.std.proofs.Common.{ap, sym, ◌∙◌}
use Rattle.sv_base.specs.Roster.{is_roster}
use Rattle.sv_core_laws.proofs.CallHistory.{history}
use Rattle.sv_core_laws.proofs.each_call_has_a_history.Goals as goal

pub returns : goal.returns
returns c = λ sizes host inputs.
    history c.args.config.now sizes host inputs (ap is_roster (sym c.as_slice-groups.ensures.value) ∙ c.as_slice-groups.ensures.roster)
