-- Links: accepted connections, each with all its bytes, and what becomes of the requests in them
-- (RFC 9112, section 9.3: the requests of a connection are answered in the order in which they
-- came).
use Rattle.std.specs.Prelude.{◌+◌, ◌++◌, ◌∷◌, ◌&&◌, ◌||◌, ◌==◌, ℕ, zero, suc, List, [], Bool, true}
use Rattle.std.specs.Prelude.{false, not, drop, length, nat_le, nat_lt, slice_get, Option, None}
use Rattle.std.specs.Prelude.{Some, is_some, if◌then◌else◌}
use Rattle.std.specs.List.{filter}
use Rattle.sv_base.specs.declared.ids.LinkId.{LinkId}
use Rattle.sv_http.specs.AsksOf.{asks_of}
use Rattle.sv_http.specs.declared.ask.Ask.{Ask}
use Rattle.sv_http.specs.declared.guard.Guard.{Guard}

-- how a link ended: its client ended, an order of it failed, or it was given Close
pub data Ending : Type 0 where
  Ended : Ending
  Failed : Ending
  Closed : Ending

-- a link; a book of links is a list of these, and the number of each is its place, counted from 1
pub record LinkRecord : Type 0 where
  -- who may ask
  pub guard : Guard
  -- all bytes that came while it was open
  pub stream : List ℕ
  -- how many of its requests were begun
  pub begun : ℕ
  -- the one begun last waits for its answer
  pub in_hand : Bool
  -- how it ended, where it is over
  pub ending : Option Ending
  -- a piece came since its last More
  pub is_fed : Bool
  -- its last order is More
  pub has_more : Bool

-- the most links that are open at once
abbrev pub link_limit : ℕ
link_limit = 64

-- what its bytes ask
abbrev pub asks : LinkRecord → List Ask
asks r = asks_of r.guard r.stream

-- it isn't over
abbrev pub is_open : LinkRecord → Bool
is_open r = not (is_some r.ending)

-- it is open, or a request of it waits for its answer
abbrev pub is_busy : LinkRecord → Bool
is_busy r = is_open r || r.in_hand

-- ---- the book

-- the link of a number
abbrev pub link_at : ℕ → List LinkRecord → Option LinkRecord
link_at zero book = None
link_at (suc place) book = slice_get book place

-- how many links are open
abbrev pub open_count : List LinkRecord → ℕ
open_count book = length (filter is_open book)

-- one more may be open
abbrev pub has_room : List LinkRecord → Bool
has_room book = nat_lt (open_count book) link_limit

-- this is the number of the next link
abbrev pub is_next : LinkId → List LinkRecord → Bool
is_next link book = link.0 == 1 + length book

-- this is the number of a link
abbrev pub is_issued : LinkId → List LinkRecord → Bool
is_issued link book = nat_le 1 link.0 && nat_le link.0 (length book)

-- the link at a place is changed so
abbrev pub at_place : ℕ → (LinkRecord → LinkRecord) → List LinkRecord → List LinkRecord
at_place place change [] = []
at_place zero change (r ∷ book) = change r ∷ book
at_place (suc place) change (r ∷ book) = r ∷ at_place place change book

-- the link of a number is changed so
abbrev pub changed_at : ℕ → (LinkRecord → LinkRecord) → List LinkRecord → List LinkRecord
changed_at zero change book = book
changed_at (suc place) change book = at_place place change book

-- a test of a link, where there is one
abbrev pub holds_of : (LinkRecord → Bool) → Option LinkRecord → Bool
holds_of test None = false
holds_of test (Some r) = test r

-- ---- a link is opened

-- as it begins: it gets More
abbrev pub new_link : Guard → LinkRecord
new_link guard =
    record {
      guard = guard;
      stream = [];
      begun = 0;
      in_hand = false;
      ending = None;
      is_fed = false;
      has_more = true;
    }

-- as many are open as may be: it gets Close
abbrev pub refused_link : Guard → LinkRecord
refused_link guard = record (new_link guard) { ending = Some Closed; has_more = false }

-- one more link
abbrev pub opened : Guard → List LinkRecord → List LinkRecord
opened guard book = book ++ (if has_room book then new_link guard else refused_link guard) ∷ []

-- ---- its bytes, and its end

-- a piece may come: its last order is More, or it is over
abbrev pub may_feed : LinkRecord → Bool
may_feed r = r.has_more || not (is_open r)

-- a piece of a link may come
abbrev pub takes_piece : LinkId → List LinkRecord → Bool
takes_piece link book = holds_of may_feed (link_at link.0 book)

-- these bytes follow
abbrev pub longer : List ℕ → LinkRecord → LinkRecord
longer bytes r = record r { stream = r.stream ++ bytes; is_fed = true }

-- they are of no concern where it is over
abbrev pub hears : List ℕ → LinkRecord → LinkRecord
hears bytes r = if is_open r then longer bytes r else r

-- these bytes came on a link
abbrev pub fed : LinkId → List ℕ → List LinkRecord → List LinkRecord
fed link bytes book = changed_at link.0 (hears bytes) book

-- it is over, unless it was before
abbrev pub ends : Ending → LinkRecord → LinkRecord
ends ending r = if is_open r then record r { ending = Some ending } else r

-- a link ended so
abbrev pub ended : LinkId → Ending → List LinkRecord → List LinkRecord
ended link ending book = changed_at link.0 (ends ending) book

-- ---- its requests

-- the next request, where the link is open and none is in hand
abbrev pub next_ask : LinkRecord → Option Ask
next_ask r = if is_open r && not r.in_hand then slice_get (asks r) r.begun else None

-- its requests that aren't begun; of a link that is over there are none
abbrev pub waiting : LinkRecord → List Ask
waiting r = if is_open r then drop r.begun (asks r) else []

-- how many requests of a link aren't begun, where there is a link
abbrev pub left_of : Option LinkRecord → ℕ
left_of None = 0
left_of (Some r) = length (waiting r)

-- how many requests of the link of a number aren't begun
abbrev pub left_at : LinkId → List LinkRecord → ℕ
left_at link book = left_of (link_at link.0 book)

-- one more is begun
abbrev pub begins : LinkRecord → LinkRecord
begins r = record r { begun = r.begun + 1; in_hand = true }

-- the next one is begun, if there is one
abbrev pub takes : LinkRecord → LinkRecord
takes r = if is_some (next_ask r) then begins r else r

-- the next request of a link is begun
abbrev pub taken : LinkId → List LinkRecord → List LinkRecord
taken link book = changed_at link.0 takes book

-- the next request, where there is a link
abbrev pub ask_of : Option LinkRecord → Option Ask
ask_of None = None
ask_of (Some r) = next_ask r

-- the next request of the link of a number
abbrev pub ask_at : LinkId → List LinkRecord → Option Ask
ask_at link book = ask_of (link_at link.0 book)

-- ---- their answers

-- the answer to the request in hand is sent: the link isn't over
abbrev pub sends : LinkRecord → Bool
sends r = is_open r && r.in_hand

-- a reply was sent, and closes the link or not
abbrev pub replied : Bool → LinkRecord → LinkRecord
replied closes r =
    record r { in_hand = false; ending = if closes then Some Closed else None; has_more = false }

-- the request in hand is answered; of a link that is over the answer is forgotten
abbrev pub answers : Bool → LinkRecord → LinkRecord
answers closes r = if sends r then replied closes r else record r { in_hand = false }

-- the request in hand of a link is answered
abbrev pub answered : LinkId → Bool → List LinkRecord → List LinkRecord
answered link closes book = changed_at link.0 (answers closes) book

-- the answer to the request in hand of a link is sent
abbrev pub is_sent : LinkId → List LinkRecord → Bool
is_sent link book = holds_of sends (link_at link.0 book)

-- ---- More

-- it is to get More: bytes came since the last, and nothing is left to answer
abbrev pub is_due : LinkRecord → Bool
is_due r = is_open r && r.is_fed && not r.in_hand && not (is_some (next_ask r))

-- it gets More where it is due
abbrev pub gets_more : LinkRecord → LinkRecord
gets_more r = if is_due r then record r { is_fed = false; has_more = true } else r

-- a link gets More where it is due
abbrev pub more_given : LinkId → List LinkRecord → List LinkRecord
more_given link book = changed_at link.0 gets_more book

-- a link is to get More
abbrev pub more_is_due : LinkId → List LinkRecord → Bool
more_is_due link book = holds_of is_due (link_at link.0 book)

-- ---- the links in rising number

-- the links from this number on that pass a test
abbrev pub links_from : (LinkRecord → Bool) → ℕ → List LinkRecord → List LinkId
links_from test number [] = []
links_from test number (r ∷ book) =
    if test r then record { 0 = number } ∷ links_from test (number + 1) book
    else links_from test (number + 1) book

-- the links that are open
abbrev pub open_links : List LinkRecord → List LinkId
open_links book = links_from is_open 1 book

-- the links that are open, or have a request in hand
abbrev pub busy_links : List LinkRecord → List LinkId
busy_links book = links_from is_busy 1 book
