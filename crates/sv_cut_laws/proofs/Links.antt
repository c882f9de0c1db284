-- A link that gets two pieces, and More between them, is as one that got them together.
use Rattle.std.proofs.Common.{◌≡◌, ℕ, zero, suc, ◌++◌, List, [], ◌∷◌, Bool, true, false, Option, Some, None, if◌then◌else◌, ◌∙◌, refl, ap, sym, subst, append-nil, append_assoc}
use Rattle.std.specs.Prelude.{slice_get}
use Rattle.sv_base.specs.declared.ids.LinkId.{LinkId}
use Rattle.sv_core.specs.Serving.{gives_more}
use Rattle.sv_core.specs.World.{World, gives}
use Rattle.sv_links.specs.LinkBook.{Ending, LinkRecord, at_place, changed_at, fed, gets_more, hears, holds_of, is_due, link_at, longer, may_feed, more_given, more_is_due, takes_piece}
use Rattle.sv_out.specs.declared.order.Order.{Order}
use Rattle.sv_out.specs.declared.order.Order.TheVariants as order

-- ---- one link

one_link : (p q : List ℕ) (r : LinkRecord) (ending : Option Ending) (has_more : Bool)
    → let s = record r { ending = ending; has_more = has_more } in is_due (hears p s) ≡ true → may_feed s ≡ true
    → hears q (gets_more (hears p s)) ≡ hears (p ++ q) s
one_link p q r (Some e) has_more due may = absurd cc
one_link p q r None false due may = absurd cc
one_link p q r None true due may =
    let s = record r { ending = None; has_more = true } in
    ap (λ (b : Bool). hears q (if b then record (longer p s) { is_fed = false; has_more = true } else longer p s)) due
    ∙ ap (λ (stream : List ℕ). record s { stream = stream; is_fed = true }) (append_assoc r.stream p q)

at_link : (p q : List ℕ) (place : ℕ) (book : List LinkRecord) → holds_of is_due (slice_get (at_place place (hears p) book) place) ≡ true
    → holds_of may_feed (slice_get book place) ≡ true
    → at_place place (hears q) (at_place place gets_more (at_place place (hears p) book)) ≡ at_place place (hears (p ++ q)) book
at_link p q zero [] due may = refl
at_link p q (suc place) [] due may = refl
at_link p q zero (r ∷ book) due may = ap (λ (x : LinkRecord). x ∷ book) (one_link p q r r.ending r.has_more due may)
at_link p q (suc place) (r ∷ book) due may = ap (λ (rest : List LinkRecord). r ∷ rest) (at_link p q place book due may)

pub fed_twice : (link : LinkId) (p q : List ℕ) (book : List LinkRecord) → more_is_due link (fed link p book) ≡ true
    → takes_piece link book ≡ true → fed link q (more_given link (fed link p book)) ≡ fed link (p ++ q) book
fed_twice link p q book due may = by_number link.0 due may where
  by_number : (number : ℕ) → holds_of is_due (link_at number (changed_at number (hears p) book)) ≡ true
      → holds_of may_feed (link_at number book) ≡ true
      → changed_at number (hears q) (changed_at number gets_more (changed_at number (hears p) book)) ≡ changed_at number (hears (p ++ q)) book
  by_number zero due may = absurd cc
  by_number (suc place) due may = at_link p q place book due may

-- ---- More for links

-- it gets More
abbrev pub more_for : LinkId → List LinkRecord → List Order
more_for link book = if more_is_due link book then order.More link ∷ [] else []

pub more_is : (link : LinkId) (w : World)
    → gives_more link w ≡ record w { links = more_given link w.links; given = w.given ++ more_for link w.links }
more_is link w = by_due (more_is_due link w.links) where
  by_due : (b : Bool)
      → (if b then gives (order.More link) (record w { links = more_given link w.links }) else record w { links = more_given link w.links })
      ≡ record w { links = more_given link w.links; given = w.given ++ (if b then order.More link ∷ [] else []) }
  by_due true = refl
  by_due false = ap (λ (given : List Order). record w { links = more_given link w.links; given = given }) (sym (append-nil w.given))

-- links get More, one after the other
abbrev pub all_more : List LinkId → World → World
all_more [] w = w
all_more (link ∷ links) w = all_more links (gives_more link w)

abbrev pub mores : List LinkId → List LinkRecord → List Order
mores [] book = []
mores (link ∷ links) book = more_for link book ++ mores links (more_given link book)

abbrev pub all_given : List LinkId → List LinkRecord → List LinkRecord
all_given [] book = book
all_given (link ∷ links) book = all_given links (more_given link book)

pub all_more_is : (links : List LinkId) (w : World)
    → all_more links w ≡ record w { links = all_given links w.links; given = w.given ++ mores links w.links }
all_more_is [] w = ap (λ (given : List Order). record w { given = given }) (sym (append-nil w.given))
all_more_is (link ∷ links) w =
    let book = more_given link w.links in
    ap (λ (v : World). all_more links v) (more_is link w)
    ∙ all_more_is links (record w { links = book; given = w.given ++ more_for link w.links })
    ∙ ap (λ (given : List Order). record w { links = all_given links book; given = given })
    (append_assoc w.given (more_for link w.links) (mores links book))

-- ---- where none is due

stays_so : (r : LinkRecord) → is_due r ≡ false → gets_more r ≡ r
stays_so r is = ap (λ (b : Bool). if b then record r { is_fed = false; has_more = true } else r) is

none_at : (place : ℕ) (book : List LinkRecord) → holds_of is_due (slice_get book place) ≡ false → at_place place gets_more book ≡ book
none_at zero [] is = refl
none_at (suc place) [] is = refl
none_at zero (r ∷ book) is = ap (λ (x : LinkRecord). x ∷ book) (stays_so r is)
none_at (suc place) (r ∷ book) is = ap (λ (rest : List LinkRecord). r ∷ rest) (none_at place book is)

not_due : (link : LinkId) (book : List LinkRecord) → more_is_due link book ≡ false → more_given link book ≡ book
not_due link book is = by_number link.0 is where
  by_number : (number : ℕ) → holds_of is_due (link_at number book) ≡ false → changed_at number gets_more book ≡ book
  by_number zero is = refl
  by_number (suc place) is = none_at place book is

no_more : (links : List LinkId) (book : List LinkRecord) → mores links book ≡ [] → all_given links book ≡ book
no_more [] book none = refl
no_more (link ∷ links) book none = by_due (more_is_due link book) refl none (no_more links (more_given link book)) where
  by_due : (b : Bool) → more_is_due link book ≡ b → (if b then order.More link ∷ [] else []) ++ mores links (more_given link book) ≡ []
      → (mores links (more_given link book) ≡ [] → all_given links (more_given link book) ≡ more_given link book)
      → all_given links (more_given link book) ≡ book
  by_due true is none rest = absurd cc
  by_due false is none rest = rest none ∙ not_due link book is

-- the link of an order
abbrev link_of : LinkId → Order → LinkId
link_of other (order.More link) = link
link_of other o = other

abbrev first_of : Order → List Order → Order
first_of other [] = other
first_of other (o ∷ os) = o

abbrev rest_of : List Order → List Order
rest_of [] = []
rest_of (o ∷ os) = os

-- where one More is given, that is all
pub one_more_given : (links : List LinkId) (book : List LinkRecord) (link : LinkId) → mores links book ≡ order.More link ∷ []
    → (all_given links book ≡ more_given link book) × (more_is_due link book ≡ true)
one_more_given [] book link is = absurd cc
one_more_given (other ∷ links) book link is = by_due (more_is_due other book) refl is (one_more_given links (more_given other book) link) where
  by_due : (b : Bool) → more_is_due other book ≡ b
      → (if b then order.More other ∷ [] else []) ++ mores links (more_given other book) ≡ order.More link ∷ []
      → (mores links (more_given other book) ≡ order.More link ∷ []
      → (all_given links (more_given other book) ≡ more_given link (more_given other book)) × (more_is_due link (more_given other book) ≡ true))
      → (all_given links (more_given other book) ≡ more_given link book) × (more_is_due link book ≡ true)
  by_due false due is rest =
      subst (λ (b : List LinkRecord). (all_given links (more_given other book) ≡ more_given link b) × (more_is_due link b ≡ true))
      (not_due other book due) (rest is)
  by_due true due is rest =
      let same : other ≡ link = ap (λ (os : List Order). link_of other (first_of order.Halt os)) is in (
        no_more links (more_given other book) (ap rest_of is) ∙ ap (λ (l : LinkId). more_given l book) same,
        sym (ap (λ (l : LinkId). more_is_due l book) same) ∙ due,
      )
