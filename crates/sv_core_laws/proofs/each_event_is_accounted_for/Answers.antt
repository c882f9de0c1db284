use Rattle.std.proofs.Common.{ap, subst, sym, ◌∙◌}
use Rattle.sv_base.specs.Roster.{is_roster}
use Rattle.sv_core_laws.proofs.Account.{accounted, history}
use Rattle.sv_core_laws.specs.Account.{HoldSome}
use Rattle.sv_core_laws.proofs.each_event_is_accounted_for.Goals as goal

pub returns-clause-places : goal.returns-clause-places
returns-clause-places c = λ sizes host inputs.
    accounted c.args.config.now sizes host inputs (ap is_roster (sym c.as_slice.ensures.value) ∙ c.as_slice.ensures.roster)
    (subst HoldSome c.as_slice.ensures.value c.have_room.ensures)

pub returns-clause-history : goal.returns-clause-history
returns-clause-history c = history c.args.config.now
