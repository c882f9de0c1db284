-- What was replied on a link, from deed to deed.
use Rattle.std.proofs.Common.{arith, ◌≡◌, ◌≤◌, ◌<◌, ◌+◌, ◌-◌, ◌==◌, ◌&&◌, ℕ, zero, suc, List, [], ◌∷◌, ◌++◌, Option, Some, None, is_some, Bool, true, false, not, length, map, take, slice_get, if◌then◌else◌, refl, sym, ap, ◌∙◌, subst, append_assoc, append-nil, length-append}
use Rattle.std.proofs.lemmas.Bool.{false≢true, eqb-true, eqb-false}
use Rattle.std.proofs.lemmas.List.{take-append-le}
use Rattle.std.proofs.lemmas.Option.{slice_get_within}
use Rattle.std.specs.Option.{option_map}
use Rattle.sv_http.specs.declared.ask.Ask.{Ask}
use Rattle.sv_http.specs.declared.guard.Guard.{Guard}
use Rattle.sv_links.proofs.Books.{at_apart, at_before, at_beyond, at_last, at_same}
use Rattle.sv_links.proofs.Streams.{asks_grow}
use Rattle.sv_links.specs.LinkBook.{Ending, LinkRecord, answers, asks, begins, changed_at, ends, gets_more, has_room, hears, is_due, is_open, link_at, longer, new_link, next_ask, opened, refused_link, replied, sends, takes}
use Rattle.sv_links.specs.LinkDeeds.{AreInOrder, Deed, OnlyLastCloses, Reply, after, after_all, in_hand_of, links_after, replies, replies_on, reply_by, reply_of, reply_to}
use Rattle.sv_links.specs.LinkDeeds.Deed.{Answer, End, Feed, GiveMore, Open, Take}

-- none of these closes the link
abbrev pub NoneCloses : List Reply → Type 0
NoneCloses [] = Unit {0}
NoneCloses (reply ∷ more) = (reply.closes ≡ false) × NoneCloses more

none_last : (told : List Reply) → NoneCloses told → OnlyLastCloses told
none_last [] none = tt
none_last (reply ∷ []) none = tt
none_last (reply ∷ next ∷ more) none = (none.0, none_last (next ∷ more) none.1)

last_closes : (told : List Reply) (last : Reply) → NoneCloses told → OnlyLastCloses (told ++ last ∷ [])
last_closes [] last none = tt
last_closes (reply ∷ []) last none = (none.0, tt)
last_closes (reply ∷ next ∷ more) last none = (none.0, last_closes (next ∷ more) last none.1)

none_more : (told : List Reply) (last : Reply) → NoneCloses told → last.closes ≡ false → NoneCloses (told ++ last ∷ [])
none_more [] last none e = (e, tt)
none_more (reply ∷ more) last none e = (none.0, none_more more last none.1 e)

-- these replies were sent on a link
pub record Account (told : List Reply) (r : LinkRecord) : Type 0 where
  pub order : AreInOrder told r
  pub fits : length told ≤ length (asks r)
  pub begun : is_open r ≡ true → length told + in_hand_of r ≡ r.begun
  pub within : r.begun ≤ length (asks r)
  pub none : is_open r ≡ true → NoneCloses told
  pub last : OnlyLastCloses told

-- the same, where there is a link
abbrev pub AccountOf : List Reply → Option LinkRecord → Type 0
AccountOf told None = told ≡ []
AccountOf told (Some r) = Account told r

le_append : (n : ℕ) (xs ys : List Ask) → n ≤ length xs → n ≤ length (xs ++ ys)
le_append n xs ys fits = let e = length-append xs ys in omega arith

-- ---- a piece

heard : (told : List Reply) (bytes : List ℕ) (r : LinkRecord) → Account told r → Account told (longer bytes r)
heard told bytes r a =
    let more = asks_grow r.guard r.stream bytes in
    let longer_by = λ (n : ℕ) (fits : n ≤ length (asks r)).
    subst (λ (xs : List Ask). n ≤ length xs) (sym more.1) (le_append n (asks r) more.0 fits) in
    record {
      order = a.order ∙ sym (take-append-le (length told) (asks r) more.0 a.fits) ∙ ap (λ (xs : List Ask). take (length told) xs) (sym more.1);
      fits = longer_by (length told) a.fits;
      begun = a.begun;
      within = longer_by r.begun a.within;
      none = a.none;
      last = a.last;
    }

hears_account : (told : List Reply) (bytes : List ℕ) (r : LinkRecord) → Account told r → Account told (hears bytes r)
hears_account told bytes r a = by_test (is_open r) where
  by_test : (b : Bool) → Account told (if b then longer bytes r else r)
  by_test true = heard told bytes r a
  by_test false = a

-- ---- the end

over_account : (told : List Reply) (ending : Ending) (r : LinkRecord) → Account told r → Account told (record r { ending = Some ending })
over_account told ending r a = record {
  order = a.order;
  fits = a.fits;
  begun = λ e. absurd (false≢true e);
  within = a.within;
  none = λ e. absurd (false≢true e);
  last = a.last;
}

ends_account : (told : List Reply) (ending : Ending) (r : LinkRecord) → Account told r → Account told (ends ending r)
ends_account told ending r a = by_test (is_open r) where
  by_test : (b : Bool) → Account told (if b then record r { ending = Some ending } else r)
  by_test true = over_account told ending r a
  by_test false = a

-- ---- a request is begun

some_within : (xs : List Ask) (n : ℕ) → is_some (slice_get xs n) ≡ true → n < length xs
some_within xs n e = by_case (slice_get xs n) refl e where
  by_case : (o : Option Ask) → slice_get xs n ≡ o → is_some o ≡ true → n < length xs
  by_case None is e = absurd (false≢true e)
  by_case (Some x) is e = slice_get_within xs n x is

next_parts : (r : LinkRecord) → is_some (next_ask r) ≡ true → (is_open r ≡ true) × (r.in_hand ≡ false) × (r.begun < length (asks r))
next_parts r e = by_open (is_open r) refl e where
  by_hand : (b : Bool) → r.in_hand ≡ b → is_some (if not b then slice_get (asks r) r.begun else None) ≡ true → (r.in_hand ≡ false) × (r.begun < length (asks r))
  by_hand true is e = absurd (false≢true e)
  by_hand false is e = (is, some_within (asks r) r.begun e)

  by_open : (b : Bool) → is_open r ≡ b → is_some (if b && not r.in_hand then slice_get (asks r) r.begun else None) ≡ true
      → (is_open r ≡ true) × (r.in_hand ≡ false) × (r.begun < length (asks r))
  by_open true is e = let rest = by_hand r.in_hand refl e in (is, rest.0, rest.1)
  by_open false is e = absurd (false≢true e)

begins_account : (told : List Reply) (r : LinkRecord) → Account told r → is_some (next_ask r) ≡ true → Account told (begins r)
begins_account told r a e =
    let parts = next_parts r e in
    let same : length told + 0 ≡ r.begun = rw parts.1 at (a.begun parts.0) in
    record {
      order = a.order;
      fits = a.fits;
      begun = λ opens. omega arith;
      within = omega arith;
      none = a.none;
      last = a.last;
    }

takes_account : (told : List Reply) (r : LinkRecord) → Account told r → Account told (takes r)
takes_account told r a = by_test (is_some (next_ask r)) refl where
  by_test : (b : Bool) → is_some (next_ask r) ≡ b → Account told (if b then begins r else r)
  by_test true e = begins_account told r a e
  by_test false e = a

-- ---- More

more_account : (told : List Reply) (r : LinkRecord) → Account told r → Account told (gets_more r)
more_account told r a = by_test (is_due r) where
  given : Account told (record r { is_fed = false; has_more = true })
  given = record { order = a.order; fits = a.fits; begun = a.begun; within = a.within; none = a.none; last = a.last }

  by_test : (b : Bool) → Account told (if b then record r { is_fed = false; has_more = true } else r)
  by_test true = given
  by_test false = a

-- ---- an answer

ask_within : (xs : List Ask) (n : ℕ) → n < length xs → (x : Ask) × (slice_get xs n ≡ Some x) × (take (suc n) xs ≡ take n xs ++ x ∷ [])
ask_within [] n fits = absurd (omega arith)
ask_within (x ∷ xs) zero fits = (x, refl, refl)
ask_within (x ∷ xs) (suc n) fits =
    let rest = ask_within xs n (omega arith) in (rest.0, rest.1, ap (λ (more : List Ask). x ∷ more) rest.2)

asks_more : (told : List Reply) (last : Reply) → map (λ (reply : Reply). reply.ask) (told ++ last ∷ []) ≡ map (λ (reply : Reply). reply.ask) told ++ last.ask ∷ []
asks_more [] last = refl
asks_more (reply ∷ told) last = ap (λ (more : List Ask). reply.ask ∷ more) (asks_more told last)

length_told : (told : List Reply) (last : Reply) → length (told ++ last ∷ []) ≡ suc (length told)
length_told [] last = refl
length_told (reply ∷ told) last = ap suc (length_told told last)

both_true : (a b : Bool) → (a && b) ≡ true → (a ≡ true) × (b ≡ true)
both_true true b e = (refl, e)
both_true false b e = absurd (false≢true e)

-- this reply was sent after the others
one_more : (closes : Bool) (told : List Reply) (r : LinkRecord) (x : Ask) → Account told r → is_open r ≡ true → length told + 1 ≡ r.begun
    → take (suc (length told)) (asks r) ≡ take (length told) (asks r) ++ x ∷ []
    → Account (told ++ record { ask = x; closes = closes } ∷ []) (replied closes r)
one_more closes told r x a opens begun taken =
    let last : Reply = record { ask = x; closes = closes } in
    let within = a.within in
    let longer_by = length_told told last in
    record {
      order = asks_more told last ∙ ap (λ (front : List Ask). front ++ x ∷ []) a.order ∙ sym taken ∙ ap (λ n. take n (asks r)) (sym longer_by);
      fits = rw longer_by (omega arith);
      begun = λ e. rw longer_by (omega arith);
      within = within;
      none = by_closing closes;
      last = last_closes told last (a.none opens);
    } where
      by_closing : (b : Bool) → is_open (replied b r) ≡ true → NoneCloses (told ++ record { ask = x; closes = b } ∷ [])
      by_closing true e = absurd (false≢true e)
      by_closing false e = none_more told (record { ask = x; closes = false }) (a.none opens) refl

sent_account : (closes : Bool) (told : List Reply) (r : LinkRecord) → Account told r → sends r ≡ true
    → Account (told ++ reply_to closes (slice_get (asks r) (r.begun - 1))) (replied closes r)
sent_account closes told r a e =
    let parts = both_true (is_open r) r.in_hand e in
    let begun : length told + 1 ≡ r.begun = rw parts.1 at (a.begun parts.0) in
    let within = a.within in
    let next = ask_within (asks r) (length told) (omega arith) in
    let place : r.begun - 1 ≡ length told = omega arith in
    rw (place, next.1) (one_more closes told r next.0 a parts.0 begun next.2)

forgotten_account : (told : List Reply) (r : LinkRecord) → Account told r → sends r ≡ false → Account told (record r { in_hand = false })
forgotten_account told r a e = record {
  order = a.order;
  fits = a.fits;
  begun = λ opens. by_hand r.in_hand refl opens (rw opens at e);
  within = a.within;
  none = a.none;
  last = a.last;
} where
  by_hand : (b : Bool) → r.in_hand ≡ b → is_open r ≡ true → (true && r.in_hand) ≡ false → length told + 0 ≡ r.begun
  by_hand true is opens e = absurd (false≢true (sym e ∙ is))
  by_hand false is opens e = rw is at (a.begun opens)

answers_account : (closes : Bool) (told : List Reply) (r : LinkRecord) → Account told r → Account (told ++ reply_of closes (Some r)) (answers closes r)
answers_account closes told r a = by_test (sends r) refl where
  by_test : (b : Bool) → sends r ≡ b
      → Account (told ++ (if b then reply_to closes (slice_get (asks r) (r.begun - 1)) else [])) (if b then replied closes r else record r { in_hand = false })
  by_test true e = sent_account closes told r a e
  by_test false e = rw (append-nil told) (forgotten_account told r a e)

-- ---- the link of a number, among the others

mapped_account : (told : List Reply) (f : LinkRecord → LinkRecord) (o : Option LinkRecord) → ((r : LinkRecord) → Account told r → Account told (f r))
    → AccountOf told o → AccountOf told (option_map f o)
mapped_account told f None keeps a = a
mapped_account told f (Some r) keeps a = keeps r a

changed_account : (told : List Reply) (number link : ℕ) (f : LinkRecord → LinkRecord) (book : List LinkRecord)
    → ((r : LinkRecord) → Account told r → Account told (f r)) → AccountOf told (link_at number book) → AccountOf told (link_at number (changed_at link f book))
changed_account told number link f book keeps a = by_test (link == number) refl where
  by_test : (b : Bool) → (link == number) ≡ b → AccountOf told (link_at number (changed_at link f book))
  by_test true e =
      rw (eqb-true link number e)
      (rw (at_same number f book) (mapped_account told f (link_at number book) keeps a))
  by_test false e = rw (at_apart link number f book (eqb-false link number e)) a

answered_option : (told : List Reply) (closes : Bool) (o : Option LinkRecord) → AccountOf told o
    → AccountOf (told ++ reply_of closes o) (option_map (answers closes) o)
answered_option told closes None a = append-nil told ∙ a
answered_option told closes (Some r) a = answers_account closes told r a

answered_account : (told : List Reply) (number link : ℕ) (closes : Bool) (book : List LinkRecord) → AccountOf told (link_at number book)
    → AccountOf (told ++ (if link == number then reply_of closes (link_at number book) else [])) (link_at number (changed_at link (answers closes) book))
answered_account told number link closes book a = by_test (link == number) refl where
  by_test : (b : Bool) → (link == number) ≡ b
      → AccountOf (told ++ (if b then reply_of closes (link_at number book) else [])) (link_at number (changed_at link (answers closes) book))
  by_test true e =
      rw (eqb-true link number e)
      (rw (at_same number (answers closes) book) (answered_option told closes (link_at number book) a))
  by_test false e = rw (append-nil told, at_apart link number (answers closes) book (eqb-false link number e)) a

new_account : (guard : Guard) → Account [] (new_link guard)
new_account guard = record {
  order = refl;
  fits = omega arith;
  begun = λ e. refl;
  within = omega arith;
  none = λ e. tt;
  last = tt;
}

refused_account : (guard : Guard) → Account [] (refused_link guard)
refused_account guard = record {
  order = refl;
  fits = omega arith;
  begun = λ e. refl;
  within = omega arith;
  none = λ e. tt;
  last = tt;
}

opened_account : (told : List Reply) (number : ℕ) (guard : Guard) (book : List LinkRecord) → AccountOf told (link_at number book)
    → AccountOf told (link_at number (opened guard book))
opened_account told number guard book a = by_test (number == suc (length book)) refl where
  link : Bool → LinkRecord
  link room = if room then new_link guard else refused_link guard

  fresh : (room : Bool) → Account [] (link room)
  fresh true = new_account guard
  fresh false = refused_account guard

  by_test : (b : Bool) → (number == suc (length book)) ≡ b → AccountOf told (link_at number (book ++ link (has_room book) ∷ []))
  by_test true e =
      let is : number ≡ suc (length book) = eqb-true number (suc (length book)) e in
      let none : told ≡ [] = rw (at_beyond book) at (rw is at a) in
      rw (is, none, at_last book (link (has_room book))) (fresh (has_room book))
  by_test false e = rw (at_before number book (link (has_room book)) (eqb-false number (suc (length book)) e)) a

-- a deed
deed_account : (told : List Reply) (number : ℕ) (deed : Deed) (book : List LinkRecord) → AccountOf told (link_at number book)
    → AccountOf (told ++ reply_by number deed book) (link_at number (after deed book))
deed_account told number (Open guard) book a = rw (append-nil told) (opened_account told number guard book a)
deed_account told number (Feed link bytes) book a =
    rw (append-nil told) (changed_account told number link.0 (hears bytes) book (hears_account told bytes) a)
deed_account told number (End link ending) book a =
    rw (append-nil told) (changed_account told number link.0 (ends ending) book (ends_account told ending) a)
deed_account told number (Take link) book a = rw (append-nil told) (changed_account told number link.0 takes book (takes_account told) a)
deed_account told number (Answer link closes) book a = answered_account told number link.0 closes book a
deed_account told number (GiveMore link) book a = rw (append-nil told) (changed_account told number link.0 gets_more book (more_account told) a)

-- all of them
all_account : (number : ℕ) (deeds : List Deed) (told : List Reply) (book : List LinkRecord) → AccountOf told (link_at number book)
    → AccountOf (told ++ replies number deeds book) (link_at number (after_all deeds book))
all_account number [] told book a = rw (append-nil told) a
all_account number (deed ∷ deeds) told book a =
    rw (sym (append_assoc told (reply_by number deed book) (replies number deeds (after deed book))))
    (all_account number deeds (told ++ reply_by number deed book) (after deed book) (deed_account told number deed book a))

no_link : (number : ℕ) → link_at number [] ≡ None
no_link zero = refl
no_link (suc place) = refl

pub account : (number : ℕ) (deeds : List Deed) → AccountOf (replies_on number deeds) (link_at number (links_after deeds))
account number deeds = all_account number deeds [] [] (rw (no_link number) refl)

the_account : (deeds : List Deed) (number : ℕ) (r : LinkRecord) → link_at number (links_after deeds) ≡ Some r → Account (replies_on number deeds) r
the_account deeds number r there = rw there at (account number deeds)

pub in_order : (deeds : List Deed) (number : ℕ) (r : LinkRecord) → link_at number (links_after deeds) ≡ Some r → AreInOrder (replies_on number deeds) r
in_order deeds number r there = (the_account deeds number r there).order

pub all_begun : (deeds : List Deed) (number : ℕ) (r : LinkRecord) → link_at number (links_after deeds) ≡ Some r → is_open r ≡ true
    → length (replies_on number deeds) + in_hand_of r ≡ r.begun
all_begun deeds number r there = (the_account deeds number r there).begun

option_last : (told : List Reply) (o : Option LinkRecord) → AccountOf told o → OnlyLastCloses told
option_last told None a = rw a tt
option_last told (Some r) a = a.last

pub only_last : (deeds : List Deed) (number : ℕ) → OnlyLastCloses (replies_on number deeds)
only_last deeds number = option_last (replies_on number deeds) (link_at number (links_after deeds)) (account number deeds)
