use Rattle.std.proofs.Common.{◌≡◌, ℕ, List, Option, None, subst}
use Rattle.std.proofs.lemmas.Bool.{not-true}
use Rattle.sv_timers.proofs.NextLaws.{none_next}
use Rattle.sv_timers.specs.NextDue.{next_due}
use Rattle.sv_timers.proofs.agenda.Agenda.none_due.Goals as goal

pub returns : goal.returns
returns c = λ none.
    subst (λ (deadlines : List (Option ℕ)). next_due 0 c.args.now deadlines ≡ None) c.self.view_is
    (none_next 0 c.args.now c.self.inside.due c.earliest.result c.is_due.result c.earliest.ensures c.is_due.ensures (not-true c.is_due.result none))
