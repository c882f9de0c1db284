-- The runs after one began.
use Rattle.std.proofs.Common.{◌≡◌, ℕ, List, Some, Bool, true, false, ◌++◌, ◌∷◌, [], ◌==◌, refl, subst}
use Rattle.std.proofs.lemmas.Bool.{eqb-false, true_from_ne_false}
use Rattle.std.specs.BTreeMap.{BTreeMap, Updates, get}
use Rattle.std.specs.Ordering.{is_eq, nat_cmp}
use Rattle.sv_base.specs.declared.ids.Run.{Run}
use Rattle.sv_runs.specs.Streams.StandsFor.{IsKept, Keeps}
use Rattle.sv_runs.specs.Streams.StreamBook.{StreamRecord, begun, last_of, new_run, open_run}
use Rattle.sv_runs.specs.declared.streams.open_run.OpenRun.{OpenRun}
use Rattle.sv_runs.proofs.StreamsLemmas.Books.{last_more}
use Rattle.sv_runs.proofs.StreamsLemmas.Changes.{StandsIn, apart_numbers, same_number}

own_number : (n : ℕ) → (n == n) ≡ true
own_number n = true_from_ne_false (n == n) (λ e. eqb-false n n e refl)

pub begun_stands : (m n : BTreeMap ℕ OpenRun) (book : List StreamRecord) (run : Run) (child pid : ℕ) (redirect : Bool) (out_limit err_limit : ℕ)
    (v : OpenRun) → Updates nat_cmp m n run.0 (Some v) → ((number : ℕ) → Keeps v (new_run number child pid redirect out_limit err_limit))
    → StandsIn m book → StandsIn n (begun run child pid redirect out_limit err_limit book)
begun_stands m n book run child pid redirect out_limit err_limit v updates keeps s q = by_test (is_eq (nat_cmp run.0 q)) refl where
  fresh : StreamRecord
  fresh = new_run run.0 child pid redirect out_limit err_limit

  here : IsKept (get nat_cmp n run.0) (open_run (last_of run.0 (book ++ fresh ∷ [])))
  here = rw (updates.1, last_more run.0 book fresh, own_number run.0) (keeps run.0)

  by_test : (t : Bool) → is_eq (nat_cmp run.0 q) ≡ t → IsKept (get nat_cmp n q) (open_run (last_of q (book ++ fresh ∷ [])))
  by_test true e = subst (λ number. IsKept (get nat_cmp n number) (open_run (last_of number (book ++ fresh ∷ [])))) (same_number run.0 q e) here
  by_test false e = rw (updates.2 q e, last_more q book fresh, apart_numbers run.0 q e) (s q)
