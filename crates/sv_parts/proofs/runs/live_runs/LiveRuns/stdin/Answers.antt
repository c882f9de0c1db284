use Rattle.std.proofs.Common.{◌∙◌, ℕ, List, refl, subst, sym}
use Rattle.sv_parts.specs.Runs.Lives.{Posts}
use Rattle.sv_parts.proofs.RunsLemmas.Places.{unwritten, written}
use Rattle.sv_parts.proofs.runs.live_runs.LiveRuns.stdin.Goals as goal

pub returns-then-is_full-clause-writes : goal.returns-then-is_full-clause-writes
returns-then-is_full-clause-writes g c =
    unwritten _ _ _ _ _ _ (sym c.in-Some.is ∙ c.place_of.ensures) c.index.ensures (sym c.is_full.ensures ∙ c.if-is_full.true)

pub returns-clause-writes : goal.returns-clause-writes
returns-clause-writes g c =
    written _ _ _ _ _ _ _ _ (sym c.in-Some.is ∙ c.place_of.ensures) c.index_mut.ensures.value refl
    (subst (λ (b : List ℕ). Posts b c.index_mut.result.now c.write.new.self) c.in_ok-bytes.ensures.cases c.write.ensures)
