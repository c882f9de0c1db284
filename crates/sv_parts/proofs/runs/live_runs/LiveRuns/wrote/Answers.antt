use Rattle.std.proofs.Common.{◌∙◌, ℕ, ap, refl, sym}
use Rattle.sv_parts.proofs.RunsLemmas.Places.{changed_at}
use Rattle.sv_parts.proofs.runs.live_runs.LiveRuns.wrote.Goals as goal

pub returns-in-Some-clause-lives : goal.returns-in-Some-clause-lives
returns-in-Some-clause-lives g c = changed_at _ _ _ _ _ _ _ _ (sym c.in-Some.is ∙ c.place_of.ensures) c.index_mut-life.ensures.value refl
    (ap (λ (n : ℕ). record c.index_mut-life.result.now { unwritten = n }) c.saturating_sub-life.ensures)
