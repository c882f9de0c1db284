use Rattle.std.proofs.Common.{◌∙◌, refl, sym}
use Rattle.sv_parts.proofs.RunsLemmas.Places.{changed_at}
use Rattle.sv_parts.proofs.runs.live_runs.LiveRuns.stdin_ended.Goals as goal

pub returns-in-Some-clause-lives : goal.returns-in-Some-clause-lives
returns-in-Some-clause-lives g c = changed_at _ _ _ _ _ _ _ _ (sym c.in-Some.is ∙ c.place_of.ensures) c.index_mut.ensures.value refl refl
