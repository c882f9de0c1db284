-- The runs after one began.
use Rattle.std.proofs.Common.{◌≡◌, ℕ, List, Some, Bool, true, false, ◌++◌, ◌∷◌, [], ◌==◌, refl, ap, ◌∙◌, subst, slice_set}
use Rattle.std.proofs.lemmas.Bool.{eqb-false, true_from_ne_false}
use Rattle.std.specs.BTreeMap.{BTreeMap, Updates, get}
use Rattle.std.specs.Ordering.{is_eq, nat_cmp}
use Rattle.sv_base.specs.declared.ids.Run.{Run}
use Rattle.sv_runs.specs.RunBook.{RunBook, begun, last_of, new_run}
use Rattle.sv_runs.specs.StandsFor.{IsKept, Keeps, StandsFor, open_run}
use Rattle.sv_runs.specs.declared.open_run.OpenRun.{OpenRun}
use Rattle.sv_runs.specs.declared.runs.Runs.{Runs}
use Rattle.sv_runs.proofs.Books.{last_more}
use Rattle.sv_runs.proofs.Changes.{apart_numbers, same_number}

own_number : (n : ℕ) → (n == n) ≡ true
own_number n = true_from_ne_false (n == n) (λ e. eqb-false n n e refl)

pub begun_stands : (x y : Runs) (b : RunBook) (run : Run) (child pid : ℕ) (is_listener : Bool) (m : BTreeMap ℕ OpenRun) (v : OpenRun)
    → y.runs ≡ m → Updates nat_cmp x.runs m run.0 (Some v) → y.closed.items ≡ slice_set x.closed.items child false
    → ((number : ℕ) → Keeps v (new_run number child pid is_listener))
    → StandsFor x b → StandsFor y (begun run child pid is_listener b)
begun_stands x y b run child pid is_listener m v same updates closed keeps s = record {
  closed = closed ∙ ap (λ (bs : List Bool). slice_set bs child false) s.closed;
  runs = λ q. by_test q (is_eq (nat_cmp run.0 q)) refl;
} where
  here : IsKept (get nat_cmp y.runs run.0) (open_run (last_of run.0 (b.all ++ new_run run.0 child pid is_listener ∷ [])))
  here = rw (same, updates.1, last_more run.0 b.all (new_run run.0 child pid is_listener), own_number run.0) (keeps run.0)

  by_test : (q : ℕ) (t : Bool) → is_eq (nat_cmp run.0 q) ≡ t
      → IsKept (get nat_cmp y.runs q) (open_run (last_of q (b.all ++ new_run run.0 child pid is_listener ∷ [])))
  by_test q true e =
      subst (λ n. IsKept (get nat_cmp y.runs n) (open_run (last_of n (b.all ++ new_run run.0 child pid is_listener ∷ [])))) (same_number run.0 q e) here
  by_test q false e =
      rw (same, updates.2 q e, last_more q b.all (new_run run.0 child pid is_listener), apart_numbers run.0 q e) (s.runs q)
