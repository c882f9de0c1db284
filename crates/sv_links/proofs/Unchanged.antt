-- What the changes of a link leave as it was.
use Rattle.std.proofs.Common.{◌≡◌, ℕ, List, Some, None, Bool, true, false, ◌&&◌, ◌||◌, not, is_some, if◌then◌else◌, refl, sym, ap, slice_get}
use Rattle.std.proofs.lemmas.Bool.{false≢true}
use Rattle.sv_links.specs.LinkBook.{Ending, LinkRecord, answers, asks, begins, ends, gets_more, hears, is_busy, is_due, is_open, longer, next_ask, replied, sends, takes}

-- a link that isn't busy stays as it is
abbrev pub LeavesIdle : (LinkRecord → LinkRecord) → Type 0
LeavesIdle f = (r : LinkRecord) → is_busy r ≡ false → f r ≡ r

-- a link is open or over as before
abbrev pub StaysOpen : (LinkRecord → LinkRecord) → Type 0
StaysOpen f = (r : LinkRecord) → is_open (f r) ≡ is_open r

-- a link is busy or not as before
abbrev pub StaysBusy : (LinkRecord → LinkRecord) → Type 0
StaysBusy f = (r : LinkRecord) → is_busy (f r) ≡ is_busy r

-- one link less is open, or as many as before
abbrev pub LessBy : Bool → LinkRecord → LinkRecord → Type 0
LessBy true r s = (is_open r ≡ true) × (is_open s ≡ false)
LessBy false r s = is_open s ≡ is_open r

first_false : (a b : Bool) → (a || b) ≡ false → a ≡ false
first_false true b e = e
first_false false b e = refl

second_false : (a b : Bool) → (a || b) ≡ false → b ≡ false
second_false true b e = absurd (false≢true (sym e))
second_false false b e = e

-- what isn't busy is over, and has nothing in hand
pub idle_over : (r : LinkRecord) → is_busy r ≡ false → is_open r ≡ false
idle_over r e = first_false (is_open r) r.in_hand e

pub idle_free : (r : LinkRecord) → is_busy r ≡ false → r.in_hand ≡ false
idle_free r e = second_false (is_open r) r.in_hand e

-- ---- a piece

pub hears_idle : (bytes : List ℕ) → LeavesIdle (hears bytes)
hears_idle bytes r e = rw (idle_over r e) refl

pub hears_open : (bytes : List ℕ) → StaysOpen (hears bytes)
hears_open bytes r = by_test (is_open r) where
  by_test : (b : Bool) → is_open (if b then longer bytes r else r) ≡ is_open r
  by_test true = refl
  by_test false = refl

pub hears_busy : (bytes : List ℕ) → StaysBusy (hears bytes)
hears_busy bytes r = by_test (is_open r) where
  by_test : (b : Bool) → is_busy (if b then longer bytes r else r) ≡ is_busy r
  by_test true = refl
  by_test false = refl

-- ---- the end

pub ends_idle : (ending : Ending) → LeavesIdle (ends ending)
ends_idle ending r e = rw (idle_over r e) refl

pub ends_less : (ending : Ending) (r : LinkRecord) (less : Bool) → less ≡ is_open r → LessBy less r (ends ending r)
ends_less ending r less e = rw e (by_test (is_open r) refl) where
  by_test : (b : Bool) → is_open r ≡ b → LessBy b r (if b then record r { ending = Some ending } else r)
  by_test true is = (is, refl)
  by_test false is = refl

-- ---- a request is begun

-- there is a next request only of a link that is open
pub asked_open : (r : LinkRecord) → is_some (next_ask r) ≡ true → is_open r ≡ true
asked_open r e = by_test (is_open r) refl e where
  by_test : (b : Bool) → is_open r ≡ b → is_some (if b && not r.in_hand then slice_get (asks r) r.begun else None) ≡ true → is_open r ≡ true
  by_test true is e = is
  by_test false is e = absurd (false≢true e)

pub takes_idle : LeavesIdle takes
takes_idle r e = rw (idle_over r e) refl

pub takes_open : StaysOpen takes
takes_open r = by_test (is_some (next_ask r)) where
  by_test : (b : Bool) → is_open (if b then begins r else r) ≡ is_open r
  by_test true = refl
  by_test false = refl

pub takes_busy : StaysBusy takes
takes_busy r = by_test (is_some (next_ask r)) (asked_open r) where
  by_test : (b : Bool) → (b ≡ true → is_open r ≡ true) → is_busy (if b then begins r else r) ≡ is_busy r
  by_test true opens = rw (opens refl) refl
  by_test false opens = refl

-- ---- an answer

same_hand : (r : LinkRecord) → r.in_hand ≡ false → record r { in_hand = false } ≡ r
same_hand r e = ap (λ (b : Bool). record r { in_hand = b }) (sym e)

pub answers_idle : (closes : Bool) → LeavesIdle (answers closes)
answers_idle closes r e = rw (idle_over r e) (same_hand r (idle_free r e))

pub answers_less : (closes : Bool) (r : LinkRecord) (sent less : Bool) → sent ≡ sends r → less ≡ (sent && closes) → LessBy less r (answers closes r)
answers_less closes r sent less e is = rw (is, e) (by_test (sends r) refl) where
  opened : (b : Bool) → (b && r.in_hand) ≡ true → b ≡ true
  opened true e = refl
  opened false e = absurd (false≢true e)

  by_closing : (b : Bool) → is_open r ≡ true → LessBy b r (replied b r)
  by_closing true opens = (opens, refl)
  by_closing false opens = sym opens

  by_test : (b : Bool) → sends r ≡ b → LessBy (b && closes) r (if b then replied closes r else record r { in_hand = false })
  by_test true is = by_closing closes (opened (is_open r) is)
  by_test false is = refl

-- ---- More

pub more_idle : LeavesIdle gets_more
more_idle r e = rw (idle_over r e) refl

pub more_open : StaysOpen gets_more
more_open r = by_test (is_due r) where
  by_test : (b : Bool) → is_open (if b then record r { is_fed = false; has_more = true } else r) ≡ is_open r
  by_test true = refl
  by_test false = refl

pub more_busy : StaysBusy gets_more
more_busy r = by_test (is_due r) where
  by_test : (b : Bool) → is_busy (if b then record r { is_fed = false; has_more = true } else r) ≡ is_busy r
  by_test true = refl
  by_test false = refl
