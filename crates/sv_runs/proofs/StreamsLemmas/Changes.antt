-- The runs after a change of the one of a number.
use Rattle.std.proofs.Common.{◌≡◌, ℕ, List, Some, None, Bool, true, false, ◌==◌, refl, sym, ap, ◌∙◌, map, subst}
use Rattle.std.proofs.lemmas.Map.Lookups.{exact_unsigned}
use Rattle.std.proofs.lemmas.Bool.{false≢true, ne_eqb}
use Rattle.std.specs.BTreeMap.{BTreeMap, UpdatesBy, WritesThrough, get}
use Rattle.std.specs.declared.cmp.Ordering.TheVariants.{Equal}
use Rattle.std.specs.Cmp.{Equal-is, nat_cmp_is}
use Rattle.std.specs.Option.{option_map}
use Rattle.std.specs.Ordering.{is_eq, nat_cmp}
use Rattle.sv_base.specs.declared.ids.Run.{Run}
use Rattle.sv_runs.specs.Streams.StandsFor.{IsKept, Keeps}
use Rattle.sv_runs.specs.Streams.StreamBook.{StreamRecord, changed, changed_at, is_over, last_of, open_run, run_of}
use Rattle.sv_runs.specs.declared.streams.open_run.OpenRun.{OpenRun}
use Rattle.sv_runs.proofs.StreamsLemmas.Books.{KeepsNumber, last_apart, last_same}
use Rattle.sv_runs.proofs.StreamsLemmas.Kept.{LeavesOpen, LeavesOver, ends_or_goes_on, goes_on, stays_away}

-- these runs are kept in the map
abbrev pub StandsIn : BTreeMap ℕ OpenRun → List StreamRecord → Type 0
StandsIn m book = (number : ℕ) → IsKept (get nat_cmp m number) (open_run (last_of number book))

pub same_number : (n q : ℕ) → is_eq (nat_cmp n q) ≡ true → n ≡ q
same_number n q e = exact_unsigned n q ((Equal-is (nat_cmp n q)).0 e)

is_eq_self : (n q : ℕ) → n ≡ q → is_eq (nat_cmp n q) ≡ true
is_eq_self n q e = rw e (ap is_eq (sym (nat_cmp_is q q Equal refl)))

pub apart_numbers : (n q : ℕ) → is_eq (nat_cmp n q) ≡ false → (n == q) ≡ false
apart_numbers n q e = ne_eqb n q (λ is. false≢true (sym e ∙ is_eq_self n q is))

changed_stands : (m n : BTreeMap ℕ OpenRun) (book : List StreamRecord) (run : Run) (f : StreamRecord → StreamRecord) → KeepsNumber f
    → StandsIn m book → ((q : ℕ) → is_eq (nat_cmp run.0 q) ≡ false → get nat_cmp n q ≡ get nat_cmp m q)
    → IsKept (get nat_cmp n run.0) (open_run (option_map f (run_of run book)))
    → StandsIn n (changed run f book)
changed_stands m n book run f keeps s others kept q = by_test (is_eq (nat_cmp run.0 q)) refl where
  by_test : (t : Bool) → is_eq (nat_cmp run.0 q) ≡ t → IsKept (get nat_cmp n q) (open_run (last_of q (map (changed_at run.0 f) book)))
  by_test true e =
      subst (λ number. IsKept (get nat_cmp n number) (open_run (last_of number (map (changed_at run.0 f) book)))) (same_number run.0 q e)
      (rw (last_same run.0 f keeps book) kept)
  by_test false e = rw (last_apart run.0 q f keeps (apart_numbers run.0 q e) book, others q e) (s q)

-- the run isn't kept: then nothing changes
pub away_stands : (m n : BTreeMap ℕ OpenRun) (book : List StreamRecord) (run : Run) (f : StreamRecord → StreamRecord)
    → KeepsNumber f → LeavesOver f → n ≡ m → get nat_cmp m run.0 ≡ None → StandsIn m book → StandsIn n (changed run f book)
away_stands m n book run f number over same none s =
    changed_stands m n book run f number s (λ q e. rw same refl)
    (rw (same, none) (stays_away f over (run_of run book) (rw none at (s run.0))))

-- what is kept of it changes
pub there_stands : (m n : BTreeMap ℕ OpenRun) (book : List StreamRecord) (run : Run) (f : StreamRecord → StreamRecord) (v w : OpenRun)
    → KeepsNumber f → LeavesOpen f → get nat_cmp m run.0 ≡ Some v → WritesThrough nat_cmp (nat_cmp run.0) m w n
    → ((s : StreamRecord) → Keeps v s → Keeps w (f s)) → StandsIn m book → StandsIn n (changed run f book)
there_stands m n book run f v w number stays found writes keeps s =
    let updates = writes.3 (rw found refl) in
    changed_stands m n book run f number s (λ q e. updates.2 q e)
    (rw updates.1 (goes_on f (run_of run book) v w stays (rw found at (s run.0)) keeps))

-- what is kept of it changes, and it isn't over
pub still_stands : (m n : BTreeMap ℕ OpenRun) (book : List StreamRecord) (run : Run) (f : StreamRecord → StreamRecord) (v w : OpenRun)
    (over : Bool) → KeepsNumber f → get nat_cmp m run.0 ≡ Some v → WritesThrough nat_cmp (nat_cmp run.0) m w n
    → ((s : StreamRecord) → Keeps v s → Keeps w (f s)) → ((s : StreamRecord) → Keeps w s → over ≡ is_over s) → over ≡ false
    → StandsIn m book → StandsIn n (changed run f book)
still_stands m n book run f v w over number found writes keeps is goes s =
    let updates = writes.3 (rw found refl) in
    changed_stands m n book run f number s (λ q e. updates.2 q e)
    (rw updates.1 (rw goes at (ends_or_goes_on f (run_of run book) v w over (rw found at (s run.0)) keeps is)))

-- what is kept of it changes, and it is over: it is taken out
pub gone_stands : (m between n : BTreeMap ℕ OpenRun) (book : List StreamRecord) (run : Run) (f : StreamRecord → StreamRecord) (v w : OpenRun)
    (over : Bool) → KeepsNumber f → get nat_cmp m run.0 ≡ Some v → WritesThrough nat_cmp (nat_cmp run.0) m w between
    → UpdatesBy nat_cmp (nat_cmp run.0) between n None → ((s : StreamRecord) → Keeps v s → Keeps w (f s))
    → ((s : StreamRecord) → Keeps w s → over ≡ is_over s) → over ≡ true
    → StandsIn m book → StandsIn n (changed run f book)
gone_stands m between n book run f v w over number found writes removes keeps is ended s =
    let updates = writes.3 (rw found refl) in
    changed_stands m n book run f number s (λ q e. removes.2 q e ∙ updates.2 q e)
    (rw removes.1 (rw ended at (ends_or_goes_on f (run_of run book) v w over (rw found at (s run.0)) keeps is)))
