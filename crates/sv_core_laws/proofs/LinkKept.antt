-- What deeds with a link leave of it and of the others: which requests are left, where it is open yet.
use Rattle.std.proofs.Common.{arith, ◌≡◌, ◌≤◌, ◌+◌, ◌==◌, ◌&&◌, ◌||◌, ◌∷◌, ℕ, zero, suc, List, [], Option, Some, None, Bool, true, false, not, length, drop, slice_get, if◌then◌else◌, refl, sym, ap, ◌∙◌, length-drop}
use Rattle.std.proofs.lemmas.Bool.{false≢true, eq-eqb, eqb-true, eqb-false}
use Rattle.std.specs.Option.{option_map}
use Rattle.std.specs.Prelude.{is_some}
use Rattle.sv_base.specs.declared.ids.LinkId.{LinkId}
use Rattle.sv_core_laws.specs.LinkHistory.{LinkEntry, deeds_of}
use Rattle.sv_core_laws.proofs.LinkTells.{all_may}
use Rattle.sv_core_laws.proofs.NextLink.{both_parts}
use Rattle.sv_core_laws.proofs.Steps.{is_loss}
use Rattle.sv_core_laws.proofs.Walk.{is_closing}
use Rattle.sv_http.specs.declared.ask.Ask.{Ask}
use Rattle.sv_links.proofs.Books.{at_apart, at_same}
use Rattle.sv_links.specs.LinkBook.{LinkRecord, answers, ask_at, ask_of, asks, begins, changed_at, ends, gets_more, is_busy, is_due, is_open, left_at, left_of, link_at, links_from, more_given, next_ask, replied, sends, takes, taken}
use Rattle.sv_links.specs.LinkBook.Ending.{Closed, Ended, Failed as Lost}
use Rattle.sv_links.specs.LinkDeeds.{Deed, after as after_deed, after_all}
use Rattle.sv_links.specs.LinkDeeds.Deed.{Open, Feed, End, Take, Answer, GiveMore}

-- ---- deeds

-- while a link is served: its requests are begun and answered, and it gets More
abbrev pub is_on : LinkId → Deed → Bool
is_on m (Take link) = link.0 == m.0
is_on m (Answer link closes) = link.0 == m.0
is_on m (GiveMore link) = link.0 == m.0
is_on m (End link Lost) = true
is_on m deed = false

-- while its request in hand is carried out
abbrev pub is_answer_on : LinkId → Deed → Bool
is_answer_on m (Answer link closes) = link.0 == m.0
is_answer_on m (End link Lost) = true
is_answer_on m deed = false

-- before the daemon halts
abbrev pub is_usual : Deed → Bool
is_usual deed = not (is_closing deed)

-- no deed at all
abbrev pub is_none : Deed → Bool
is_none deed = false

pub answers_within : (m : LinkId) (deed : Deed) → is_answer_on m deed ≡ true → is_on m deed ≡ true
answers_within m (Answer link closes) is = is
answers_within m (End link Lost) is = refl
answers_within m (End link Ended) is = absurd (false≢true is)
answers_within m (End link Closed) is = absurd (false≢true is)
answers_within m (Open guard) is = absurd (false≢true is)
answers_within m (Feed link bytes) is = absurd (false≢true is)
answers_within m (Take link) is = absurd (false≢true is)
answers_within m (GiveMore link) is = absurd (false≢true is)

pub on_within : (m : LinkId) (deed : Deed) → is_on m deed ≡ true → is_usual deed ≡ true
on_within m (Take link) is = refl
on_within m (Answer link closes) is = refl
on_within m (GiveMore link) is = refl
on_within m (End link Lost) is = refl
on_within m (End link Ended) is = refl
on_within m (End link Closed) is = absurd (false≢true is)
on_within m (Open guard) is = refl
on_within m (Feed link bytes) is = refl

pub loss_answers : (m : LinkId) (deed : Deed) → is_loss deed ≡ true → is_answer_on m deed ≡ true
loss_answers m (End link Lost) is = refl
loss_answers m (End link Ended) is = absurd (false≢true is)
loss_answers m (End link Closed) is = absurd (false≢true is)
loss_answers m (Open guard) is = absurd (false≢true is)
loss_answers m (Feed link bytes) is = absurd (false≢true is)
loss_answers m (Take link) is = absurd (false≢true is)
loss_answers m (Answer link closes) is = absurd (false≢true is)
loss_answers m (GiveMore link) is = absurd (false≢true is)

pub same_number : (m : LinkId) → (m.0 == m.0) ≡ true
same_number m = eq-eqb m.0 m.0 refl

-- ---- the link itself, while its request in hand is carried out

-- this is an open link as it was before: the same was asked, and as much was begun
pub record Was (number : ℕ) (book : List LinkRecord) (later : LinkRecord) : Type 0 where
  pub r : LinkRecord
  pub there : link_at number book ≡ Some r
  pub opens : is_open r ≡ true
  pub asked : asks r ≡ asks later
  pub begun : r.begun ≡ later.begun

-- a change that leaves what was asked and begun of a link, where it leaves it open
pub record Leaves (f : LinkRecord → LinkRecord) (r : LinkRecord) : Type 0 where
  pub opens : is_open r ≡ true
  pub asked : asks r ≡ asks (f r)
  pub begun : r.begun ≡ (f r).begun

abbrev pub LeavesAll : (LinkRecord → LinkRecord) → Type 0
LeavesAll f = (r : LinkRecord) → is_open (f r) ≡ true → Leaves f r

some_same : (x y : LinkRecord) → Some x ≡ Some y → x ≡ y
some_same x y is = cc

changed_was : (number link : ℕ) (f : LinkRecord → LinkRecord) (book : List LinkRecord) (later : LinkRecord) → LeavesAll f
    → link_at number (changed_at link f book) ≡ Some later → is_open later ≡ true → Was number book later
changed_was number link f book later leaves there opens = by_test (link == number) refl where
  by_place : (o : Option LinkRecord) → link_at number book ≡ o → option_map f o ≡ Some later → Was number book later
  by_place None at is = cc
  by_place (Some r) at is =
      let same : f r ≡ later = some_same (f r) later is in
      let l = leaves r (rw same opens) in
      record { r = r; there = at; opens = l.opens; asked = l.asked ∙ ap asks same; begun = l.begun ∙ ap (λ (x : LinkRecord). x.begun) same }

  by_test : (b : Bool) → (link == number) ≡ b → Was number book later
  by_test true e =
      by_place (link_at number book) refl
      (sym (at_same number f book) ∙ (rw (eqb-true link number e) at there))
  by_test false e =
      record {
        r = later;
        there = sym (at_apart link number f book (eqb-false link number e)) ∙ there;
        opens = opens;
        asked = refl;
        begun = refl;
      }

answers_leave : (closes : Bool) → LeavesAll (answers closes)
answers_leave closes r opens = by_test (sends r) refl opens where
  by_test : (b : Bool) → sends r ≡ b → is_open (if b then replied closes r else record r { in_hand = false }) ≡ true
      → Leaves (answers closes) r
  by_test true is opens = rw_leaves where
    rw_leaves : Leaves (answers closes) r
    rw_leaves = record { opens = (both_parts (is_open r) r.in_hand is).0; asked = rw is refl; begun = rw is refl }
  by_test false is opens = record { opens = opens; asked = rw is refl; begun = rw is refl }

loss_leaves : LeavesAll (ends Lost)
loss_leaves r opens = by_test (is_open r) refl opens where
  by_test : (b : Bool) → is_open r ≡ b → is_open (if b then record r { ending = Some Lost } else r) ≡ true → Leaves (ends Lost) r
  by_test true is opens = absurd (false≢true opens)
  by_test false is opens = absurd (false≢true (sym is ∙ opens))

deed_was : (m : LinkId) (deed : Deed) (book : List LinkRecord) (later : LinkRecord) → is_answer_on m deed ≡ true
    → link_at m.0 (after_deed deed book) ≡ Some later → is_open later ≡ true → Was m.0 book later
deed_was m (Answer link closes) book later is there opens = changed_was m.0 link.0 (answers closes) book later (answers_leave closes) there opens
deed_was m (End link Lost) book later is there opens = changed_was m.0 link.0 (ends Lost) book later loss_leaves there opens
deed_was m (End link Ended) book later is there opens = absurd (false≢true is)
deed_was m (End link Closed) book later is there opens = absurd (false≢true is)
deed_was m (Open guard) book later is there opens = absurd (false≢true is)
deed_was m (Feed link bytes) book later is there opens = absurd (false≢true is)
deed_was m (Take link) book later is there opens = absurd (false≢true is)
deed_was m (GiveMore link) book later is there opens = absurd (false≢true is)

-- and so after all of them
pub all_was : (m : LinkId) (entries : List LinkEntry) (book : List LinkRecord) (later : LinkRecord) → all_may (is_answer_on m) entries ≡ true
    → link_at m.0 (after_all (deeds_of entries) book) ≡ Some later → is_open later ≡ true → Was m.0 book later
all_was m [] book later are there opens = record { r = later; there = there; opens = opens; asked = refl; begun = refl }
all_was m (entry ∷ entries) book later are there opens =
    let parts = both_parts (is_answer_on m entry.deed) (all_may (is_answer_on m) entries) are in
    let next = all_was m entries (after_deed entry.deed book) later parts.1 there opens in
    let first = deed_was m entry.deed book next.r parts.0 next.there next.opens in
    record {
      r = first.r;
      there = first.there;
      opens = first.opens;
      asked = first.asked ∙ next.asked;
      begun = first.begun ∙ next.begun;
    }

-- ---- any other link, while one is served

apart_kept : (number link : ℕ) (m : LinkId) (f : LinkRecord → LinkRecord) (book : List LinkRecord) (later : LinkRecord) → (m.0 == number) ≡ false
    → (link == m.0) ≡ true → link_at number (changed_at link f book) ≡ Some later → link_at number book ≡ Some later
apart_kept number link m f book later other own there =
    let same : link ≡ m.0 = eqb-true link m.0 own in
    sym (at_apart m.0 number f book (eqb-false m.0 number other)) ∙ (rw same at there)

deed_kept : (number : ℕ) (m : LinkId) (deed : Deed) (book : List LinkRecord) (later : LinkRecord) → (m.0 == number) ≡ false → is_on m deed ≡ true
    → link_at number (after_deed deed book) ≡ Some later → is_open later ≡ true → link_at number book ≡ Some later
deed_kept number m (Take link) book later other is there opens = apart_kept number link.0 m takes book later other is there
deed_kept number m (Answer link closes) book later other is there opens = apart_kept number link.0 m (answers closes) book later other is there
deed_kept number m (GiveMore link) book later other is there opens = apart_kept number link.0 m gets_more book later other is there
deed_kept number m (End link Lost) book later other is there opens = by_test (link.0 == number) refl where
  by_place : (o : Option LinkRecord) → option_map (ends Lost) o ≡ Some later → link_at number book ≡ Some later
  by_place None at = cc
  by_place (Some r) at = by_open (is_open r) refl (some_same (ends Lost r) later at) where
    by_open : (b : Bool) → is_open r ≡ b → (if b then record r { ending = Some Lost } else r) ≡ later → link_at number book ≡ Some later
    by_open true is at = absurd (false≢true (ap is_open at ∙ opens))
    by_open false is at = absurd (false≢true (sym is ∙ ap is_open at ∙ opens))

  by_test : (b : Bool) → (link.0 == number) ≡ b → link_at number book ≡ Some later
  by_test true e = by_place (link_at number book) (sym (at_same number (ends Lost) book) ∙ (rw (eqb-true link.0 number e) at there))
  by_test false e = sym (at_apart link.0 number (ends Lost) book (eqb-false link.0 number e)) ∙ there
deed_kept number m (End link Ended) book later other is there opens = absurd (false≢true is)
deed_kept number m (End link Closed) book later other is there opens = absurd (false≢true is)
deed_kept number m (Open guard) book later other is there opens = absurd (false≢true is)
deed_kept number m (Feed link bytes) book later other is there opens = absurd (false≢true is)

pub all_kept : (number : ℕ) (m : LinkId) (entries : List LinkEntry) (book : List LinkRecord) (later : LinkRecord) → (m.0 == number) ≡ false
    → all_may (is_on m) entries ≡ true → link_at number (after_all (deeds_of entries) book) ≡ Some later → is_open later ≡ true
    → link_at number book ≡ Some later
all_kept number m [] book later other are there opens = there
all_kept number m (entry ∷ entries) book later other are there opens =
    let parts = both_parts (is_on m entry.deed) (all_may (is_on m) entries) are in
    deed_kept number m entry.deed book later other parts.0
    (all_kept number m entries (after_deed entry.deed book) later other parts.1 there opens) opens

-- ---- how many requests are left

-- at most so many requests of the link of a number aren't begun, unless it is over or one is in hand
abbrev pub Left : ℕ → ℕ → List LinkRecord → Type 0
Left left number book = (r : LinkRecord) → link_at number book ≡ Some r → is_open r ≡ true → r.in_hand ≡ false → length (asks r) ≤ r.begun + left

-- while another link is served nothing changes that
pub others_left : (number : ℕ) (m : LinkId) (entries : List LinkEntry) (before book : List LinkRecord) → (m.0 == number) ≡ false
    → all_may (is_on m) entries ≡ true → book ≡ after_all (deeds_of entries) before → Left 0 number before → Left 0 number book
others_left number m entries before book other are is few r there opens free =
    few r (all_kept number m entries before r other are (ap (link_at number) (sym is) ∙ there) opens) opens free

-- at first as many as it has
pub left_first : (m : LinkId) (entries : List LinkEntry) (before book : List LinkRecord) → all_may (is_answer_on m) entries ≡ true
    → book ≡ after_all (deeds_of entries) before → Left (left_at m before) m.0 book
left_first m entries before book are is later there opens free =
    let was = all_was m entries before later are (ap (link_at m.0) (sym is) ∙ there) opens in
    let left : left_at m before ≡ length (drop was.r.begun (asks was.r)) =
    ap left_of was.there ∙ ap (λ (b : Bool). length (if b then drop was.r.begun (asks was.r) else [])) was.opens in
    let count = length-drop was.r.begun (asks was.r) in
    let same : length (asks was.r) ≡ length (asks later) = ap length was.asked in
    let begun = was.begun in
    omega (arith, left, count, same, begun)

-- none is begun: there is none, or one is in hand
pub none_left : (left : ℕ) (m : LinkId) (book : List LinkRecord) → ask_at m book ≡ None → Left left m.0 (taken m book)
none_left left m book none later there opens free = by_place (link_at m.0 book) (sym (at_same m.0 takes book) ∙ there) none where
  past : (xs : List Ask) (n : ℕ) → slice_get xs n ≡ None → length xs ≤ n
  past [] n is = omega arith
  past (x ∷ xs) zero is = cc
  past (x ∷ xs) (suc n) is = let rest = past xs n is in omega (arith, rest)

  by_record : (r : LinkRecord) → next_ask r ≡ None → r ≡ later → length (asks later) ≤ later.begun + left
  by_record r none same =
      let free_too : r.in_hand ≡ false = rw same free in
      let opens_too : is_open r ≡ true = rw same opens in
      let last : slice_get (asks r) r.begun ≡ None = rw (free_too, opens_too) at none in
      let few = past (asks r) r.begun last in
      let one : asks r ≡ asks later = ap asks same in
      let size : length (asks r) ≡ length (asks later) = ap length one in
      let begun : r.begun ≡ later.begun = ap (λ (x : LinkRecord). x.begun) same in
      omega (arith, few, size, begun)

  by_place : (o : Option LinkRecord) → option_map takes o ≡ Some later → ask_of o ≡ None → length (asks later) ≤ later.begun + left
  by_place None at none = cc
  by_place (Some r) at none =
      by_record r none (sym (ap (λ (ask : Option Ask). if is_some ask then begins r else r) none) ∙ some_same (takes r) later at)

-- the next one is begun and carried out
pub some_left : (left : ℕ) (m : LinkId) (ask : Ask) (entries : List LinkEntry) (before book : List LinkRecord) → ask_at m before ≡ Some ask
    → all_may (is_answer_on m) entries ≡ true → book ≡ after_all (deeds_of entries) (taken m before) → Left (suc left) m.0 before → Left left m.0 book
some_left left m ask entries before book some are is few later there opens free =
    let was = all_was m entries (taken m before) later are (ap (link_at m.0) (sym is) ∙ there) opens in
    by_place (link_at m.0 before) refl was.r (sym (at_same m.0 takes before) ∙ was.there) some (ap length was.asked) was.begun where
      by_open : (r : LinkRecord) (b c : Bool) → is_open r ≡ b → r.in_hand ≡ c → (if b && not c then slice_get (asks r) r.begun else None) ≡ Some ask
          → (is_open r ≡ true) × (r.in_hand ≡ false)
      by_open r true false opens free some = (opens, free)
      by_open r true true opens free some = cc
      by_open r false c opens free some = cc

      by_place : (o : Option LinkRecord) → link_at m.0 before ≡ o → (now : LinkRecord) → option_map takes o ≡ Some now → ask_of o ≡ Some ask
          → length (asks now) ≡ length (asks later) → now.begun ≡ later.begun → length (asks later) ≤ later.begun + left
      by_place None at now is some size begun = cc
      by_place (Some r) at now is some size begun =
          let parts = by_open r (is_open r) r.in_hand refl refl some in
          let most = few r at parts.0 parts.1 in
          let same : begins r ≡ now = sym (ap (λ (ask : Option Ask). if is_some ask then begins r else r) some) ∙ some_same (takes r) now is in
          let one : r.begun + 1 ≡ now.begun = ap (λ (x : LinkRecord). x.begun) same in
          let all : length (asks r) ≡ length (asks now) = ap (λ (x : LinkRecord). length (asks x)) same in
          omega (arith, most, one, all, size, begun)

-- More changes nothing of it
pub more_left : (left : ℕ) (m : LinkId) (book : List LinkRecord) → Left left m.0 book → Left left m.0 (more_given m book)
more_left left m book few later there opens free = by_place (link_at m.0 book) refl (sym (at_same m.0 gets_more book) ∙ there) where
  by_due : (r : LinkRecord) (b : Bool) → link_at m.0 book ≡ Some r → (if b then record r { is_fed = false; has_more = true } else r) ≡ later
      → length (asks later) ≤ later.begun + left
  by_due r true at same = rw (sym same) (few r at (rw (sym same) at opens) (rw (sym same) at free))
  by_due r false at same = rw (sym same) (few r at (rw (sym same) at opens) (rw (sym same) at free))

  by_place : (o : Option LinkRecord) → link_at m.0 book ≡ o → option_map gets_more o ≡ Some later → length (asks later) ≤ later.begun + left
  by_place None at is = cc
  by_place (Some r) at is = by_due r (is_due r) at (some_same (gets_more r) later is)

-- ---- the links that are open

-- a link of this number stands among these
abbrev pub is_in : ℕ → List LinkId → Bool
is_in number [] = false
is_in number (link ∷ links) = if link.0 == number then true else is_in number links

-- a link that passes the test is among those that do
pub in_from : (test : LinkRecord → Bool) (number first place : ℕ) (book : List LinkRecord) (r : LinkRecord) → first + place ≡ number
    → slice_get book place ≡ Some r → test r ≡ true → is_in number (links_from test first book) ≡ true
in_from test number first place [] r at there holds = cc
in_from test number first zero (x ∷ book) r at there holds =
    let same : x ≡ r = some_same x r there in
    let own : (first == number) ≡ true = eq-eqb first number (omega (arith, at)) in
    rw (same, holds, own) refl
in_from test number first (suc place) (x ∷ book) r at there holds =
    by_test (test x) (in_from test number (first + 1) place book r (omega (arith, at)) there holds) where
      by_own : (b : Bool) (links : List LinkId) → is_in number links ≡ true → (if b then true else is_in number links) ≡ true
      by_own true links rest = refl
      by_own false links rest = rest

      by_test : (b : Bool) → is_in number (links_from test (first + 1) book) ≡ true
          → is_in number (if b then record { 0 = first } ∷ links_from test (first + 1) book else links_from test (first + 1) book) ≡ true
      by_test true rest = by_own (first == number) (links_from test (first + 1) book) rest
      by_test false rest = rest

-- one that isn't busy is over
pub busy_left : (left number : ℕ) (book : List LinkRecord) → is_in number (links_from is_busy 1 book) ≡ false → Left left number book
busy_left left zero book out r there opens free = cc
busy_left left (suc place) book out r there opens free =
    absurd (false≢true (sym out ∙ in_from is_busy (suc place) 1 place book r (omega arith) there (ap (λ (b : Bool). b || r.in_hand) opens)))
