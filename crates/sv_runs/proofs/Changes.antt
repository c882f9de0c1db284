-- The runs after a change of the one of a number.
use Rattle.std.proofs.Common.{◌≡◌, ℕ, Some, None, Bool, true, false, ◌==◌, refl, sym, ap, ◌∙◌, map, subst}
use Rattle.std.proofs.lemmas.Map.Lookups.{exact_unsigned}
use Rattle.std.proofs.lemmas.Bool.{false≢true, ne_eqb}
use Rattle.std.specs.BTreeMap.{BTreeMap, UpdatesBy, WritesThrough, get}
use Rattle.std.specs.declared.cmp.Ordering.TheVariants.{Equal}
use Rattle.std.specs.Cmp.{Equal-is, nat_cmp_is}
use Rattle.std.specs.Option.{option_map}
use Rattle.std.specs.Ordering.{is_eq, nat_cmp}
use Rattle.sv_base.specs.declared.ids.Run.{Run}
use Rattle.sv_runs.specs.RunBook.{RunBook, RunRecord, changed, changed_at, is_over, last_of, run_of}
use Rattle.sv_runs.specs.StandsFor.{IsKept, Keeps, StandsFor, open_run}
use Rattle.sv_runs.specs.declared.open_run.OpenRun.{OpenRun}
use Rattle.sv_runs.specs.declared.runs.Runs.{Runs}
use Rattle.sv_runs.proofs.Books.{KeepsNumber, last_apart, last_same}
use Rattle.sv_runs.proofs.Kept.{LeavesOpen, LeavesOver, ends_or_goes_on, goes_on, stays_away}

pub same_number : (n q : ℕ) → is_eq (nat_cmp n q) ≡ true → n ≡ q
same_number n q e = exact_unsigned n q ((Equal-is (nat_cmp n q)).0 e)

is_eq_self : (n q : ℕ) → n ≡ q → is_eq (nat_cmp n q) ≡ true
is_eq_self n q e = rw e (ap is_eq (sym (nat_cmp_is q q Equal refl)))

pub apart_numbers : (n q : ℕ) → is_eq (nat_cmp n q) ≡ false → (n == q) ≡ false
apart_numbers n q e = ne_eqb n q (λ is. false≢true (sym e ∙ is_eq_self n q is))

changed_stands : (x y : Runs) (b : RunBook) (run : Run) (f : RunRecord → RunRecord) → KeepsNumber f → StandsFor x b
    → y.closed ≡ x.closed
    → ((q : ℕ) → is_eq (nat_cmp run.0 q) ≡ false → get nat_cmp y.runs q ≡ get nat_cmp x.runs q)
    → IsKept (get nat_cmp y.runs run.0) (open_run (option_map f (run_of run.0 b)))
    → StandsFor y (changed run f b)
changed_stands x y b run f keeps s closed others kept = record {
  closed = rw closed s.closed;
  runs = λ q. by_test q (is_eq (nat_cmp run.0 q)) refl;
} where
  by_test : (q : ℕ) (t : Bool) → is_eq (nat_cmp run.0 q) ≡ t → IsKept (get nat_cmp y.runs q) (open_run (last_of q (map (changed_at run.0 f) b.all)))
  by_test q true e =
      subst (λ n. IsKept (get nat_cmp y.runs n) (open_run (last_of n (map (changed_at run.0 f) b.all)))) (same_number run.0 q e)
      (rw (last_same run.0 f keeps b.all) kept)
  by_test q false e = rw (last_apart run.0 q f keeps (apart_numbers run.0 q e) b.all, others q e) (s.runs q)

-- the run isn't kept: then nothing changes
pub away_stands : (x : Runs) (b : RunBook) (run : Run) (f : RunRecord → RunRecord) (m : BTreeMap ℕ OpenRun)
    → KeepsNumber f → LeavesOver f → m ≡ x.runs → get nat_cmp x.runs run.0 ≡ None → StandsFor x b
    → StandsFor (record { runs = m; closed = x.closed }) (changed run f b)
away_stands x b run f m number over same none s =
    changed_stands x (record { runs = m; closed = x.closed }) b run f number s refl (λ q e. rw same refl)
    (rw (same, none) (stays_away f over (run_of run.0 b) (rw none at (s.runs run.0))))

-- what is kept of it changes
pub there_stands : (x : Runs) (b : RunBook) (run : Run) (f : RunRecord → RunRecord) (m : BTreeMap ℕ OpenRun) (v w : OpenRun)
    → KeepsNumber f → LeavesOpen f → get nat_cmp x.runs run.0 ≡ Some v
    → WritesThrough nat_cmp (nat_cmp run.0) x.runs w m → ((r : RunRecord) → Keeps v r → Keeps w (f r))
    → StandsFor x b → StandsFor (record { runs = m; closed = x.closed }) (changed run f b)
there_stands x b run f m v w number stays found writes keeps s =
    let updates = writes.3 (rw found refl) in
    changed_stands x (record { runs = m; closed = x.closed }) b run f number s refl (λ q e. updates.2 q e)
    (rw updates.1 (goes_on f (run_of run.0 b) v w stays (rw found at (s.runs run.0)) keeps))

-- what is kept of it changes, and it isn't over
pub still_stands : (x : Runs) (b : RunBook) (run : Run) (f : RunRecord → RunRecord) (m : BTreeMap ℕ OpenRun) (v w : OpenRun) (over : Bool)
    → KeepsNumber f → get nat_cmp x.runs run.0 ≡ Some v
    → WritesThrough nat_cmp (nat_cmp run.0) x.runs w m → ((r : RunRecord) → Keeps v r → Keeps w (f r))
    → ((r : RunRecord) → Keeps w r → over ≡ is_over r) → over ≡ false
    → StandsFor x b → StandsFor (record { runs = m; closed = x.closed }) (changed run f b)
still_stands x b run f m v w over number found writes keeps is goes s =
    let updates = writes.3 (rw found refl) in
    changed_stands x (record { runs = m; closed = x.closed }) b run f number s refl (λ q e. updates.2 q e)
    (rw updates.1 (rw goes at (ends_or_goes_on f (run_of run.0 b) v w over (rw found at (s.runs run.0)) keeps is)))

-- what is kept of it changes, and it is over: it is taken out
pub gone_stands : (x : Runs) (b : RunBook) (run : Run) (f : RunRecord → RunRecord) (m n : BTreeMap ℕ OpenRun) (v w : OpenRun) (over : Bool)
    → KeepsNumber f → get nat_cmp x.runs run.0 ≡ Some v
    → WritesThrough nat_cmp (nat_cmp run.0) x.runs w m → UpdatesBy nat_cmp (nat_cmp run.0) m n None
    → ((r : RunRecord) → Keeps v r → Keeps w (f r))
    → ((r : RunRecord) → Keeps w r → over ≡ is_over r) → over ≡ true
    → StandsFor x b → StandsFor (record { runs = n; closed = x.closed }) (changed run f b)
gone_stands x b run f m n v w over number found writes removes keeps is ended s =
    let updates = writes.3 (rw found refl) in
    changed_stands x (record { runs = n; closed = x.closed }) b run f number s refl (λ q e. removes.2 q e ∙ updates.2 q e)
    (rw removes.1 (rw ended at (ends_or_goes_on f (run_of run.0 b) v w over (rw found at (s.runs run.0)) keeps is)))
