-- The links after a change of the one of a number.
use Rattle.std.proofs.Common.{◌≡◌, ◌-◌, ℕ, List, Option, Some, None, is_some, unwrap_or, Bool, true, false, if◌then◌else◌, refl, sym, ap, ◌∙◌, subst}
use Rattle.std.proofs.lemmas.Map.Lookups.{exact_unsigned}
use Rattle.std.proofs.lemmas.Bool.{false≢true}
use Rattle.std.specs.BTreeMap.{BTreeMap, Updates, WritesThrough, get}
use Rattle.std.specs.Cmp.{Equal-is, nat_cmp_is}
use Rattle.std.specs.Option.{option_map}
use Rattle.std.specs.Ordering.{is_eq, nat_cmp}
use Rattle.std.specs.declared.cmp.Ordering.TheVariants.{Equal}
use Rattle.sv_links.proofs.Books.{at_apart, at_same, changed_nothing, length_changed}
use Rattle.sv_links.proofs.Counts.{count_less, count_same}
use Rattle.sv_links.proofs.Unchanged.{LeavesIdle, LessBy, StaysBusy, StaysOpen}
use Rattle.sv_links.specs.LinkBook.{LinkRecord, changed_at, is_busy, link_at, open_count}
use Rattle.sv_links.specs.StandsFor.{IsKept, Keeps, StandsFor, busy_link}
use Rattle.sv_links.specs.declared.kept_link.KeptLink.{KeptLink}
use Rattle.sv_links.specs.declared.links.Links.{Links}

-- these links are kept in the map
abbrev pub StandsIn : BTreeMap ℕ KeptLink → List LinkRecord → Type 0
StandsIn m book = (number : ℕ) → IsKept (get nat_cmp m number) (busy_link (link_at number book))

pub same_number : (n q : ℕ) → is_eq (nat_cmp n q) ≡ true → n ≡ q
same_number n q e = exact_unsigned n q ((Equal-is (nat_cmp n q)).0 e)

pub is_eq_self : (n q : ℕ) → n ≡ q → is_eq (nat_cmp n q) ≡ true
is_eq_self n q e = rw e (ap is_eq (sym (nat_cmp_is q q Equal refl)))

pub apart_numbers : (n q : ℕ) → is_eq (nat_cmp n q) ≡ false → n ≡ q → ⊥
apart_numbers n q e is = false≢true (sym e ∙ is_eq_self n q is)

changed_in : (m n : BTreeMap ℕ KeptLink) (book : List LinkRecord) (number : ℕ) (f : LinkRecord → LinkRecord) → StandsIn m book
    → ((q : ℕ) → is_eq (nat_cmp number q) ≡ false → get nat_cmp n q ≡ get nat_cmp m q)
    → IsKept (get nat_cmp n number) (busy_link (option_map f (link_at number book))) → StandsIn n (changed_at number f book)
changed_in m n book number f s others kept q = by_test (is_eq (nat_cmp number q)) refl where
  by_test : (t : Bool) → is_eq (nat_cmp number q) ≡ t → IsKept (get nat_cmp n q) (busy_link (link_at q (changed_at number f book)))
  by_test true e =
      subst (λ k. IsKept (get nat_cmp n k) (busy_link (link_at k (changed_at number f book)))) (same_number number q e)
      (rw (at_same number f book) kept)
  by_test false e = rw (at_apart number q f book (apart_numbers number q e), others q e) (s q)

-- ---- the link isn't kept

none_idle : (o : Option LinkRecord) → IsKept None (busy_link o) → (r : LinkRecord) → o ≡ Some r → is_busy r ≡ false
none_idle None k r e = absurd (false≢true (ap is_some e))
none_idle (Some s) k r e = subst (λ (t : LinkRecord). is_busy t ≡ false) (ap (λ (p : Option LinkRecord). unwrap_or p s) e) (by_test (is_busy s) refl k) where
  by_test : (b : Bool) → is_busy s ≡ b → IsKept None (if b then Some s else None) → is_busy s ≡ false
  by_test true e k = absurd k
  by_test false e k = e

-- then it isn't busy
pub away_idle : (x : Links) (book : List LinkRecord) (number : ℕ) → get nat_cmp x.kept number ≡ None → StandsFor x book
    → (r : LinkRecord) → link_at number book ≡ Some r → is_busy r ≡ false
away_idle x book number none s r there = none_idle (link_at number book) (rw none at (s.kept number)) r there

-- and nothing changes
pub away_stands : (x y : Links) (book : List LinkRecord) (number : ℕ) (f : LinkRecord → LinkRecord) → LeavesIdle f → y.kept ≡ x.kept
    → y.open_count ≡ x.open_count → y.opened ≡ x.opened → get nat_cmp x.kept number ≡ None → StandsFor x book
    → StandsFor y (changed_at number f book)
away_stands x y book number f idle kept count opened none s =
    let same = changed_nothing number f book (λ (r : LinkRecord) (there : link_at number book ≡ Some r). idle r (away_idle x book number none s r there)) in
    rw same
    (record {
      opened = opened ∙ s.opened;
      count = count ∙ s.count;
      kept = λ q. rw kept (s.kept q);
    })

-- ---- the link is kept

-- the link for which something is kept
pub kept_is : (v : KeptLink) (o : Option LinkRecord) → IsKept (Some v) (busy_link o) → (r : LinkRecord) × (o ≡ Some r) × Keeps v r
kept_is v None k = absurd k
kept_is v (Some r) k = (r, refl, by_test (is_busy r) k) where
  by_test : (b : Bool) → IsKept (Some v) (if b then Some r else None) → Keeps v r
  by_test true k = k
  by_test false k = absurd k

goes_on : (f : LinkRecord → LinkRecord) (o : Option LinkRecord) (v w : KeptLink) → StaysBusy f → IsKept (Some v) (busy_link o)
    → ((r : LinkRecord) → Keeps v r → Keeps w (f r)) → IsKept (Some w) (busy_link (option_map f o))
goes_on f None v w busy k keeps = absurd k
goes_on f (Some r) v w busy k keeps = rw (busy r) (by_test (is_busy r) k) where
  by_test : (b : Bool) → IsKept (Some v) (if b then Some r else None) → IsKept (Some w) (if b then Some (f r) else None)
  by_test true k = keeps r k
  by_test false k = absurd k

-- and it is open and busy as before
pub there_stands : (x y : Links) (book : List LinkRecord) (number : ℕ) (f : LinkRecord → LinkRecord) (v w : KeptLink) → StaysOpen f → StaysBusy f
    → get nat_cmp x.kept number ≡ Some v → WritesThrough nat_cmp (nat_cmp number) x.kept w y.kept
    → y.open_count ≡ x.open_count → y.opened ≡ x.opened → ((r : LinkRecord) → Keeps v r → Keeps w (f r)) → StandsFor x book
    → StandsFor y (changed_at number f book)
there_stands x y book number f v w opens busy found writes count opened keeps s =
    let updates = writes.3 (rw found refl) in
    let link = kept_is v (link_at number book) (rw found at (s.kept number)) in
    record {
      opened = opened ∙ s.opened ∙ sym (length_changed number f book);
      count = count ∙ s.count ∙ sym (count_same number f book link.0 link.1 (opens link.0));
      kept = changed_in x.kept y.kept book number f s.kept (λ q e. updates.2 q e)
          (rw updates.1 (goes_on f (link_at number book) v w busy (rw found at (s.kept number)) keeps));
    }

-- ---- the link may be over after a change, and not busy

-- it is kept where it is busy
kept_busy : (w : KeptLink) (s : LinkRecord) (busy : Bool) → busy ≡ is_busy s → Keeps w s → IsKept (if busy then Some w else None) (busy_link (Some s))
kept_busy w s busy e k = rw e (by_test (is_busy s)) where
  by_test : (b : Bool) → IsKept (if b then Some w else None) (if b then Some s else None)
  by_test true = k
  by_test false = tt

counted : (number : ℕ) (f : LinkRecord → LinkRecord) (book : List LinkRecord) (r : LinkRecord) (less : Bool) (count : ℕ) → link_at number book ≡ Some r
    → LessBy less r (f r) → count ≡ (if less then open_count book - 1 else open_count book) → count ≡ open_count (changed_at number f book)
counted number f book r true count there by e = e ∙ sym (count_less number f book r there by.0 by.1)
counted number f book r false count there by e = e ∙ sym (count_same number f book r there by)

pub settles : (x y : Links) (between : BTreeMap ℕ KeptLink) (book : List LinkRecord) (number : ℕ) (f : LinkRecord → LinkRecord) (v w : KeptLink)
    (less busy : Bool) → get nat_cmp x.kept number ≡ Some v → WritesThrough nat_cmp (nat_cmp number) x.kept w between
    → ((r : LinkRecord) → Keeps v r → Keeps w (f r)) → ((r : LinkRecord) → Keeps v r → LessBy less r (f r))
    → ((r : LinkRecord) → Keeps w r → busy ≡ is_busy r)
    → y.opened ≡ x.opened → y.open_count ≡ (if less then x.open_count - 1 else x.open_count) → (busy ≡ true → y.kept ≡ between)
    → (busy ≡ false → Updates nat_cmp between y.kept number None) → StandsFor x book → StandsFor y (changed_at number f book)
settles x y between book number f v w less busy found writes keeps by is opened count here gone s =
    let link = kept_is v (link_at number book) (rw found at (s.kept number)) in
    let updates = writes.3 (rw found refl) in
    let kept : IsKept (if busy then Some w else None) (busy_link (option_map f (link_at number book)))
    = rw link.1 (kept_busy w (f link.0) busy (is (f link.0) (keeps link.0 link.2)) (keeps link.0 link.2)) in
    record {
      opened = opened ∙ s.opened ∙ sym (length_changed number f book);
      count = counted number f book link.0 less y.open_count link.1 (by link.0 link.2) (rw s.count at count);
      kept = by_test busy refl updates kept;
    } where
      by_test : (b : Bool) → busy ≡ b → Updates nat_cmp x.kept between number (Some w)
          → IsKept (if busy then Some w else None) (busy_link (option_map f (link_at number book))) → StandsIn y.kept (changed_at number f book)
      by_test true e updates kept =
          changed_in x.kept y.kept book number f s.kept (λ q apart. rw (here e) (updates.2 q apart)) (rw (here e, updates.1) (rw e at kept))
      by_test false e updates kept =
          changed_in x.kept y.kept book number f s.kept (λ q apart. (gone e).2 q apart ∙ updates.2 q apart) (rw (gone e).1 (rw e at kept))
