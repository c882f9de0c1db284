-- The links of a map in rising number.
use Rattle.std.proofs.Common.{arith, ◌≡◌, ◌≤◌, ◌<◌, ◌+◌, ◌-◌, ◌==◌, ℕ, zero, suc, List, [], ◌∷◌, ◌++◌, append-nil, append_assoc, length, Option, Some, None, is_some, Bool, true, false, if◌then◌else◌, refl, sym, ap, ◌∙◌, subst, slice_get}
use Rattle.std.proofs.lemmas.Bool.{false≢true, eqb-true, eqb-false}
use Rattle.std.proofs.lemmas.Cmp.{ranked}
use Rattle.std.specs.BTreeMap.{BTreeMap, IsOrdered, get, is_at}
use Rattle.std.specs.List.{AllByRecursion}
use Rattle.std.specs.List.Sorted.{IsStrictlySortedBy}
use Rattle.std.specs.Map.{keys_of, lookup}
use Rattle.std.specs.Ordering.{is_eq, nat_cmp}
use Rattle.std.specs.declared.cmp.Ordering.TheVariants.{Less}
use Rattle.sv_base.specs.declared.ids.LinkId.{LinkId}
use Rattle.sv_links.proofs.Changes.{StandsIn, is_eq_self, same_number}
use Rattle.sv_links.proofs.Unchanged.{idle_over}
use Rattle.sv_links.specs.LinkBook.{LinkRecord, busy_links, holds_of, is_busy, is_open, links_from, open_links}
use Rattle.sv_links.specs.StandsFor.{IsKept, IsRead, StandsFor, busy_link}
use Rattle.sv_links.specs.declared.kept_link.KeptLink.{KeptLink}
use Rattle.sv_links.specs.declared.links.Links.{Links}
use Rattle.sv_links.specs.declared.open_link.OpenLink.{OpenLink}

-- those of these entries that pass a test
abbrev pub picked : (KeptLink → Bool) → List (ℕ × KeptLink) → List LinkId
picked test [] = []
picked test (e ∷ es) = if test e.1 then record { 0 = e.0 } ∷ picked test es else picked test es

-- the link isn't over
abbrev pub reads : KeptLink → Bool
reads x = is_some x.reading

-- it is kept
abbrev pub any : KeptLink → Bool
any x = true

-- those of these entries that are open
abbrev pub ids : List (ℕ × KeptLink) → List LinkId
ids es = picked reads es

-- all of these entries
abbrev pub numbers : List (ℕ × KeptLink) → List LinkId
numbers es = picked any es

-- the keys rise, from this number on
abbrev pub Rises : ℕ → List (ℕ × KeptLink) → Type 0
Rises n [] = Unit {0}
Rises n (e ∷ es) = (n ≤ e.0) × Rises (e.0 + 1) es

-- the key is found there
abbrev pub value_at : ℕ → List (ℕ × KeptLink) → Option KeptLink
value_at q es = lookup (is_at (nat_cmp q)) es

found_here : (q : ℕ) (e : ℕ × KeptLink) (es : List (ℕ × KeptLink)) → q ≡ e.0 → value_at q (e ∷ es) ≡ Some e.1
found_here q e es is = rw (is_eq_self q e.0 is) refl

apart_eq : (q k : ℕ) → (q ≡ k → ⊥) → is_eq (nat_cmp q k) ≡ false
apart_eq q k apart = by_test (is_eq (nat_cmp q k)) refl where
  by_test : (b : Bool) → is_eq (nat_cmp q k) ≡ b → is_eq (nat_cmp q k) ≡ false
  by_test true e = absurd (apart (same_number q k e))
  by_test false e = e

found_behind : (q : ℕ) (e : ℕ × KeptLink) (es : List (ℕ × KeptLink)) → (q ≡ e.0 → ⊥) → value_at q (e ∷ es) ≡ value_at q es
found_behind q e es apart = rw (apart_eq q e.0 apart) refl

-- a key below all of them isn't found
below_none : (q n : ℕ) (es : List (ℕ × KeptLink)) → Rises n es → q < n → value_at q es ≡ None
below_none q n [] rises below = refl
below_none q n (e ∷ es) rises below =
    let from = rises.0 in
    found_behind q e es (λ is. omega arith) ∙ below_none q (e.0 + 1) es rises.1 (omega arith)

-- a link that isn't kept isn't open
away_over : (o : Option LinkRecord) → IsKept None (busy_link o) → holds_of is_open o ≡ false
away_over None k = refl
away_over (Some r) k = by_test (is_busy r) refl k where
  by_test : (b : Bool) → is_busy r ≡ b → IsKept None (if b then Some r else None) → is_open r ≡ false
  by_test true e k = absurd k
  by_test false e k = idle_over r e

read_open : (x : Option OpenLink) (r : LinkRecord) → IsRead x r → is_some x ≡ is_open r
read_open None r k = sym k
read_open (Some x) r k = sym k.unended

kept_open : (x : KeptLink) (o : LinkRecord) → IsKept (Some x) (busy_link (Some o)) → is_some x.reading ≡ is_open o
kept_open x r k = by_test (is_busy r) k where
  by_test : (b : Bool) → IsKept (Some x) (if b then Some r else None) → is_some x.reading ≡ is_open r
  by_test true k = read_open x.reading r k.read
  by_test false k = absurd k

kept_busy : (x : KeptLink) (o : LinkRecord) → IsKept (Some x) (busy_link (Some o)) → any x ≡ is_busy o
kept_busy x r k = by_test (is_busy r) refl k where
  by_test : (b : Bool) → is_busy r ≡ b → IsKept (Some x) (if b then Some r else None) → true ≡ is_busy r
  by_test true e k = sym e
  by_test false e k = absurd k

-- a link that isn't kept isn't busy
away_idle : (o : Option LinkRecord) → IsKept None (busy_link o) → holds_of is_busy o ≡ false
away_idle None k = refl
away_idle (Some r) k = by_test (is_busy r) refl k where
  by_test : (b : Bool) → is_busy r ≡ b → IsKept None (if b then Some r else None) → is_busy r ≡ false
  by_test true e k = absurd k
  by_test false e k = e

-- a test of what is kept tells a test of the links
record Tells (test : KeptLink → Bool) (of_link : LinkRecord → Bool) : Type 0 where
  pub here : (x : KeptLink) (o : LinkRecord) → IsKept (Some x) (busy_link (Some o)) → test x ≡ of_link o
  pub away : (o : Option LinkRecord) → IsKept None (busy_link o) → holds_of of_link o ≡ false

-- the links from a number on, and the entries whose keys rise from there
listed : (test : KeptLink → Bool) (of_link : LinkRecord → Bool) → Tells test of_link → (n : ℕ) (book : List LinkRecord)
    (es : List (ℕ × KeptLink)) → Rises n es
    → ((place : ℕ) → IsKept (value_at (n + place) es) (busy_link (slice_get book place)))
    → picked test es ≡ links_from of_link n book
listed test of_link tells n [] [] rises kept = refl
listed test of_link tells n [] (e ∷ es) rises kept =
    let from = rises.0 in
    absurd (rw (found_here (n + (e.0 - n)) e es (omega arith)) at (kept (e.0 - n)))
listed test of_link tells n (r ∷ book) [] rises kept =
    rw (tells.away (Some r) (kept 0)) (listed test of_link tells (n + 1) book [] tt (λ place. kept (suc place)))
listed test of_link tells n (r ∷ book) (e ∷ es) rises kept =
    by_test (e.0 == n) refl (listed test of_link tells (n + 1) book es) (listed test of_link tells (n + 1) book (e ∷ es)) where
      moved : (place : ℕ) → n + suc place ≡ n + 1 + place
      moved place = omega arith

      here : e.0 ≡ n
          → (Rises (n + 1) es → ((place : ℕ) → IsKept (value_at (n + 1 + place) es) (busy_link (slice_get book place)))
          → picked test es ≡ links_from of_link (n + 1) book)
          → picked test (e ∷ es) ≡ links_from of_link n (r ∷ book)
      here is rest =
          let passes : test e.1 ≡ of_link r = tells.here e.1 r (rw (found_here (n + 0) e es (omega arith)) at (kept 0)) in
          let same : picked test es ≡ links_from of_link (n + 1) book
          = rest (subst (λ k. Rises (k + 1) es) is rises.1)
          (λ place. subst (λ q. IsKept (value_at q es) (busy_link (slice_get book place))) (moved place)
          (rw (found_behind (n + suc place) e es (λ same. omega arith)) at (kept (suc place)))) in
          rw (passes, is, same) refl

      above : (e.0 ≡ n → ⊥)
          → (Rises (n + 1) (e ∷ es) → ((place : ℕ) → IsKept (value_at (n + 1 + place) (e ∷ es)) (busy_link (slice_get book place)))
          → picked test (e ∷ es) ≡ links_from of_link (n + 1) book)
          → picked test (e ∷ es) ≡ links_from of_link n (r ∷ book)
      above apart rest =
          let from = rises.0 in
          let rises_on : Rises (n + 1) (e ∷ es) = (omega arith, rises.1) in
          let none : value_at (n + 0) (e ∷ es) ≡ None = below_none (n + 0) (n + 1) (e ∷ es) rises_on (omega arith) in
          rw (tells.away (Some r) (rw none at (kept 0)))
          (rest rises_on (λ place. subst (λ q. IsKept (value_at q (e ∷ es)) (busy_link (slice_get book place))) (moved place) (kept (suc place))))

      by_test : (b : Bool) → (e.0 == n) ≡ b
          → (Rises (n + 1) es → ((place : ℕ) → IsKept (value_at (n + 1 + place) es) (busy_link (slice_get book place)))
          → picked test es ≡ links_from of_link (n + 1) book)
          → (Rises (n + 1) (e ∷ es) → ((place : ℕ) → IsKept (value_at (n + 1 + place) (e ∷ es)) (busy_link (slice_get book place)))
          → picked test (e ∷ es) ≡ links_from of_link (n + 1) book)
          → picked test (e ∷ es) ≡ links_from of_link n (r ∷ book)
      by_test true is rest other = here (eqb-true e.0 n is) rest
      by_test false is rest other = above (eqb-false e.0 n is) other

-- strictly sorted keys rise
rises_after : (k : ℕ) (es : List (ℕ × KeptLink)) → AllByRecursion (λ y. nat_cmp k y ≡ Less) (keys_of es) → IsStrictlySortedBy nat_cmp (keys_of es)
    → Rises (k + 1) es
unfolding IsStrictlySortedBy
rises_after k [] above sorted = tt
rises_after k (e ∷ es) above sorted =
    let first : k < e.0 = ranked k e.0 Less (sym above.0) in (omega arith, rises_after e.0 es sorted.0 sorted.1)

-- no key is 0
rises_from_one : (es : List (ℕ × KeptLink)) → IsStrictlySortedBy nat_cmp (keys_of es) → value_at 0 es ≡ None → Rises 1 es
unfolding IsStrictlySortedBy
rises_from_one [] sorted none = tt
rises_from_one (e ∷ es) sorted none = (first e.0 refl, rises_after e.0 es sorted.0 sorted.1) where
  first : (k : ℕ) → e.0 ≡ k → 1 ≤ k
  first zero is = absurd (false≢true (ap is_some (sym none ∙ found_here 0 e es (sym is))))
  first (suc k) is = omega arith

nothing_kept : (o : Option KeptLink) → IsKept o None → o ≡ None
nothing_kept None k = refl
nothing_kept (Some x) k = absurd k

one_more : (n : ℕ) → suc n ≡ 1 + n
one_more n = omega arith

-- the links that pass a test are those of the map
picked_are : (test : KeptLink → Bool) (of_link : LinkRecord → Bool) → Tells test of_link → (m : BTreeMap ℕ KeptLink)
    (book : List LinkRecord) → IsOrdered nat_cmp m → StandsIn m book → picked test m.entries ≡ links_from of_link 1 book
picked_are test of_link tells m book ordered kept =
    listed test of_link tells 1 book m.entries (rises_from_one m.entries ordered (nothing_kept (get nat_cmp m 0) (kept 0)))
    (λ place. subst (λ (q : ℕ). IsKept (value_at q m.entries) (busy_link (slice_get book place))) (one_more place) (kept (suc place)))

opens_told : Tells reads is_open
opens_told = record { here = kept_open; away = away_over }

busy_told : Tells any is_busy
busy_told = record { here = kept_busy; away = away_idle }

-- all of them were listed
pub all_listed : (x : Links) (book : List LinkRecord) (links : List LinkId) → links ++ [] ≡ ids x.kept.entries → IsOrdered nat_cmp x.kept
    → StandsFor x book → links ≡ open_links book
all_listed x book links all ordered s =
    sym (append-nil links) ∙ all ∙ picked_are reads is_open opens_told x.kept book ordered s.kept

pub all_numbered : (x : Links) (book : List LinkRecord) (links : List LinkId) → links ++ [] ≡ numbers x.kept.entries → IsOrdered nat_cmp x.kept
    → StandsFor x book → links ≡ busy_links book
all_numbered x book links all ordered s =
    sym (append-nil links) ∙ all ∙ picked_are any is_busy busy_told x.kept book ordered s.kept

-- nothing is kept
empty_of : (es : List (ℕ × KeptLink)) → length es ≡ 0 → es ≡ []
empty_of [] e = refl
empty_of (x ∷ xs) e = cc

pub none_numbered : (x : Links) (book : List LinkRecord) → length x.kept.entries ≡ 0 → StandsFor x book → busy_links book ≡ []
unfolding IsStrictlySortedBy
none_numbered x book none s =
    let empty = empty_of x.kept.entries none in
    let ordered : IsOrdered nat_cmp x.kept = subst (λ (es : List (ℕ × KeptLink)). IsStrictlySortedBy nat_cmp (keys_of es)) (sym empty) tt in
    sym (all_numbered x book [] (sym (ap numbers empty)) ordered s)

pub numbers_more : (links : List LinkId) (e : ℕ × KeptLink) (es : List (ℕ × KeptLink))
    → (links ++ record { 0 = e.0 } ∷ []) ++ numbers es ≡ links ++ numbers (e ∷ es)
numbers_more links e es = append_assoc links (record { 0 = e.0 } ∷ []) (numbers es)

-- one is listed, or passed over
pub ids_more : (links : List LinkId) (e : ℕ × KeptLink) (es : List (ℕ × KeptLink)) → is_some e.1.reading ≡ true
    → (links ++ record { 0 = e.0 } ∷ []) ++ ids es ≡ links ++ ids (e ∷ es)
ids_more links e es opens = rw opens (append_assoc links (record { 0 = e.0 } ∷ []) (ids es))

pub ids_less : (links : List LinkId) (e : ℕ × KeptLink) (es : List (ℕ × KeptLink)) → is_some e.1.reading ≡ false
    → links ++ ids es ≡ links ++ ids (e ∷ es)
ids_less links e es over = rw over refl
