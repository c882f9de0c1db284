-- The links after one was opened.
use Rattle.std.proofs.Common.{arith, ◌<◌, ◌≤◌, ◌≡◌, ◌+◌, ℕ, suc, List, [], ◌∷◌, ◌++◌, Some, Bool, true, false, length, if◌then◌else◌, refl, sym, ◌∙◌, subst}
use Rattle.std.proofs.lemmas.Bool.{eqb-true, le-ltb, lt-ltb}
use Rattle.std.specs.BTreeMap.{Updates, get}
use Rattle.std.specs.Ordering.{is_eq, nat_cmp}
use Rattle.sv_base.specs.declared.ids.LinkId.{LinkId}
use Rattle.sv_http.specs.declared.guard.Guard.{Guard}
use Rattle.sv_links.proofs.Books.{at_before, at_beyond, at_last, length_more}
use Rattle.sv_links.proofs.Changes.{apart_numbers, same_number}
use Rattle.sv_links.proofs.Counts.{count_more}
use Rattle.sv_links.specs.LinkBook.{LinkRecord, has_room, is_next, is_open, link_at, new_link, opened, refused_link}
use Rattle.sv_links.specs.StandsFor.{IsKept, Keeps, StandsFor, busy_link}
use Rattle.sv_links.specs.declared.kept_link.KeptLink.{KeptLink}
use Rattle.sv_links.specs.declared.links.Links.{Links}

added : (x y : Links) (book : List LinkRecord) (r : LinkRecord) (number : ℕ) → number ≡ suc (length book) → y.opened ≡ number
    → y.open_count ≡ (if is_open r then suc x.open_count else x.open_count)
    → ((q : ℕ) → is_eq (nat_cmp number q) ≡ false → get nat_cmp y.kept q ≡ get nat_cmp x.kept q)
    → IsKept (get nat_cmp y.kept number) (busy_link (Some r)) → StandsFor x book → StandsFor y (book ++ r ∷ [])
added x y book r number next opened count others kept s = record {
  opened = opened ∙ next ∙ sym (length_more book r);
  count = (rw s.count at count) ∙ sym (count_more book r);
  kept = λ q. by_test q (is_eq (nat_cmp number q)) refl;
} where
  here : IsKept (get nat_cmp y.kept number) (busy_link (link_at number (book ++ r ∷ [])))
  here = rw next (rw (at_last book r) (rw next at kept))

  by_test : (q : ℕ) (t : Bool) → is_eq (nat_cmp number q) ≡ t → IsKept (get nat_cmp y.kept q) (busy_link (link_at q (book ++ r ∷ [])))
  by_test q true e = subst (λ k. IsKept (get nat_cmp y.kept k) (busy_link (link_at k (book ++ r ∷ [])))) (same_number number q e) here
  by_test q false e = rw (at_before q book r (λ is. apart_numbers number q e (next ∙ sym is)), others q e) (s.kept q)

next_number : (link : LinkId) (book : List LinkRecord) → is_next link book ≡ true → link.0 ≡ suc (length book)
next_number link book e = let is : link.0 ≡ 1 + length book = eqb-true link.0 (1 + length book) e in omega arith

one_more : (n : ℕ) → n + 1 ≡ suc n
one_more n = omega arith

-- it is served
pub served_stands : (x y : Links) (book : List LinkRecord) (link : LinkId) (guard : Guard) (v : KeptLink) → x.open_count < 64
    → Updates nat_cmp x.kept y.kept link.0 (Some v) → Keeps v (new_link guard) → y.open_count ≡ x.open_count + 1 → y.opened ≡ link.0
    → StandsFor x book → is_next link book ≡ true → StandsFor y (opened guard book)
served_stands x y book link guard v room updates keeps count opened s next =
    let has : has_room book ≡ true = rw s.count at (lt-ltb x.open_count 64 room) in
    rw has
    (added x y book (new_link guard) link.0 (next_number link book next) opened (count ∙ one_more x.open_count) (λ q e. updates.2 q e) (rw updates.1 keeps) s)

-- it isn't
pub refused_stands : (x y : Links) (book : List LinkRecord) (link : LinkId) (guard : Guard) → 64 ≤ x.open_count
    → y.kept ≡ x.kept → y.open_count ≡ x.open_count → y.opened ≡ link.0 → StandsFor x book → is_next link book ≡ true
    → StandsFor y (opened guard book)
refused_stands x y book link guard room kept count opened s next =
    let has : has_room book ≡ false = rw s.count at (le-ltb x.open_count 64 room) in
    let number = next_number link book next in
    rw has
    (added x y book (refused_link guard) link.0 number opened count (λ q e. rw kept refl)
    (rw kept (rw number (rw (at_beyond book) at (s.kept (suc (length book)))))) s)
