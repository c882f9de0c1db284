use Rattle.std.proofs.Common.{◌∙◌, sym}
use Rattle.sv_parts.proofs.RunsLemmas.Places.{was_closed}
use Rattle.sv_parts.proofs.runs.live_runs.LiveRuns.exited.Goals as goal

pub returns-clause-closed : goal.returns-clause-closed
returns-clause-closed g c = was_closed _ _ _ _ _ (sym c.in-Some.is ∙ c.place_of.ensures) c.remove-life.ensures.value c.close.ensures.posted c.close.ensures.same
