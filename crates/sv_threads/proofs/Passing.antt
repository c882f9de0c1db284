-- Notes that are passed over, one after the other.
use Rattle.std.proofs.Common.{◌≡◌, ℕ, true, List, [], ◌∷◌, ◌++◌, Option, ap, append_assoc, append-nil, refl, subst, sym, ◌∙◌}
use Rattle.std.proofs.lemmas.Bool.{and_from}
use Rattle.std.proofs.lemmas.List.Folds.{list_all-append}
use Rattle.sv_jobs.specs.declared.notes.Note.{Note}
use Rattle.sv_parts.specs.declared.links.live_links.LiveLinks.{LiveLinks}
use Rattle.sv_out.specs.declared.input.Input.{Input}
use Rattle.sv_parts.specs.declared.runs.live_runs.LiveRuns.{LiveRuns}
use Rattle.sv_threads.specs.Hearing.{Hears, IsTold, Refuses, SettleAll, Settles, SettlesTaken, are_quiet, is_quiet, may_refuse}

-- all that was taken so far was passed over
pub record Passed {P K : Type 0} (taken taken_after : List (ℕ × Note)) (old new : LiveRuns P) (links_old links_new : LiveLinks K) : Type 0 where
  pub quiet : List (ℕ × Note)
  pub grew : taken_after ≡ taken ++ quiet
  pub passed : are_quiet links_old.count quiet ≡ true
  pub known : SettleAll quiet old new links_old links_new

pub none_passed : (P K : Type 0) (taken : List (ℕ × Note)) (runs : LiveRuns P) (links : LiveLinks K) → Passed {P = P} {K = K} taken taken runs runs links links
none_passed P K taken runs links = record { quiet = []; grew = sym (append-nil taken); passed = refl; known = (refl, refl) }

settles_more : (P K : Type 0) (heard : List (ℕ × Note)) (seat : ℕ) (note : Note) (old between new : LiveRuns P) (first middle last : LiveLinks K)
    → SettleAll heard old between first middle → Settles note between new middle last → SettleAll (heard ++ (seat, note) ∷ []) old new first last
settles_more P K [] seat note old between new first middle last all one = (
  new,
  last,
  subst (λ (r : LiveRuns P). Settles note r new first last) all.0
      (subst (λ (l : LiveLinks K). Settles note between new l last) all.1 one),
  (refl, refl),
)
settles_more P K (x ∷ heard) seat note old between new first middle last all one =
    (all.0, all.1, all.2, settles_more P K heard seat note all.0 between new all.1 middle last all.3 one)

pub passed_more : (P K : Type 0) (taken between after : List (ℕ × Note)) (old runs new : LiveRuns P) (first links last now : LiveLinks K)
    (seat : ℕ) (note : Note) → Passed taken between old runs first links
    → after ≡ between ++ (seat, note) ∷ [] → Settles note runs new links last
    → last.count ≡ first.count → is_quiet last.count note ≡ true → now ≡ last
    → Passed taken after old new first now
passed_more P K taken between after old runs new first links last now seat note so is settles same quiet kept = record {
  quiet = so.quiet ++ (seat, note) ∷ [];
  grew = is ∙ ap (λ (t : List (ℕ × Note)). t ++ (seat, note) ∷ []) so.grew ∙ append_assoc taken so.quiet ((seat, note) ∷ []);
  passed = list_all-append (λ (x : ℕ × Note). is_quiet first.count x.1) so.quiet ((seat, note) ∷ [])
      ∙ and_from (are_quiet first.count so.quiet) (are_quiet first.count ((seat, note) ∷ [])) so.passed
      (and_from (is_quiet first.count note) true (subst (λ (n : ℕ). is_quiet n note ≡ true) same quiet) refl);
  known = subst (λ (l : LiveLinks K). SettleAll (so.quiet ++ (seat, note) ∷ []) old new first l) (sym kept)
      (settles_more P K so.quiet seat note old runs new first links last so.known settles);
}

-- the note after those that were passed over
pub taken_last : (P K : Type 0) (taken between after : List (ℕ × Note)) (old runs new : LiveRuns P) (first links settled last : LiveLinks K)
    (seat : ℕ) (note : Note) → Passed taken between old runs first links
    → after ≡ between ++ (seat, note) ∷ [] → Settles note runs new links settled
    → last.lives ≡ settled.lives → last.lost ≡ settled.lost
    → SettlesTaken taken after old new first last
taken_last P K taken between after old runs new first links settled last seat note so is settles lives lost = record {
  heard = so.quiet ++ (seat, note) ∷ [];
  settled = settled;
  grew = is ∙ ap (λ (t : List (ℕ × Note)). t ++ (seat, note) ∷ []) so.grew ∙ append_assoc taken so.quiet ((seat, note) ∷ []);
  known = settles_more P K so.quiet seat note old runs new first links settled so.known settles;
  lives = lives;
  lost = lost;
}

pub hears_after : (P K : Type 0) (next : Option ℕ) (now : ℕ) (taken between after : List (ℕ × Note)) (old runs : LiveRuns P) (first links : LiveLinks K)
    (seat : ℕ) (note : Note) (input : Input) → Passed taken between old runs first links
    → after ≡ between ++ (seat, note) ∷ [] → now ≡ first.count → IsTold note next now input
    → Hears next first.count taken after input
hears_after P K next now taken between after old runs first links seat note input so is same told = record {
  quiet = so.quiet;
  seat = seat;
  note = note;
  grew = is ∙ ap (λ (t : List (ℕ × Note)). t ++ (seat, note) ∷ []) so.grew;
  passed = so.passed;
  told = subst (λ (n : ℕ). IsTold note next n input) same told;
}

pub refuses_after : (P K : Type 0) (taken between after : List (ℕ × Note)) (old runs : LiveRuns P) (first links : LiveLinks K)
    (seat : ℕ) (note : Note) → Passed taken between old runs first links
    → after ≡ between ++ (seat, note) ∷ [] → may_refuse note ≡ true → Refuses first.count taken after
refuses_after P K taken between after old runs first links seat note so is refused = record {
  quiet = so.quiet;
  seat = seat;
  note = note;
  grew = is ∙ ap (λ (t : List (ℕ × Note)). t ++ (seat, note) ∷ []) so.grew;
  passed = so.passed;
  refused = refused;
}
