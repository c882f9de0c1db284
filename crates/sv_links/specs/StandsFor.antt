-- What is kept of links: of each that is open or has a request in hand, and of no other.
use Rattle.std.specs.Prelude.{◌≡◌, ◌≤◌, ◌+◌, ◌&&◌, ◌==◌, ℕ, List, Option, Some, None, Bool, true}
use Rattle.std.specs.Prelude.{false, length, drop, nat_le, if◌then◌else◌}
use Rattle.std.specs.BTreeMap.{get}
use Rattle.std.specs.Ordering.{nat_cmp}
use Rattle.sv_base.specs.declared.ids.LinkId.{LinkId}
use Rattle.sv_http.specs.ReaderPlaces.{StandsFor as HttpStandsFor, guard_of}
use Rattle.sv_links.specs.LinkBook.{LinkRecord, asks, is_busy, is_open, link_at, open_count}
use Rattle.sv_links.specs.declared.kept_link.KeptLink.{KeptLink}
use Rattle.sv_links.specs.declared.links.Links.{Links}
use Rattle.sv_links.specs.declared.open_link.OpenLink.{OpenLink}

-- what is kept of a link that is open: the undecided bytes, and the requests that aren't begun
pub record Reads (x : OpenLink) (r : LinkRecord) : Type 0 where
  pub unended : is_open r ≡ true
  pub fed : x.is_fed ≡ r.is_fed
  pub more : x.has_more ≡ r.has_more
  pub guard : guard_of x.reader ≡ r.guard
  pub reader : HttpStandsFor x.reader r.stream (asks r)
  pub waiting : x.waiting.items ≡ drop r.begun (asks r)
  pub begun : r.begun ≤ length (asks r)

-- of a link that is over nothing is read
abbrev pub IsRead : Option OpenLink → LinkRecord → Type 0
IsRead None r = is_open r ≡ false
IsRead (Some x) r = Reads x r

-- what is kept of a link
pub record Keeps (x : KeptLink) (r : LinkRecord) : Type 0 where
  pub in_hand : x.in_hand ≡ r.in_hand
  pub read : IsRead x.reading r

-- a link that is open or has a request in hand
abbrev pub busy_link : Option LinkRecord → Option LinkRecord
busy_link None = None
busy_link (Some r) = if is_busy r then Some r else None

-- it is kept while it is busy, and nothing else is
abbrev pub IsKept : Option KeptLink → Option LinkRecord → Type 0
IsKept None None = Unit {0}
IsKept (Some x) (Some r) = Keeps x r
IsKept kept link = ⊥

-- these links are kept
pub record StandsFor (x : Links) (book : List LinkRecord) : Type 0 where
  pub opened : x.opened ≡ length book
  pub count : x.open_count ≡ open_count book
  pub kept : (number : ℕ) → IsKept (get nat_cmp x.kept number) (busy_link (link_at number book))

-- ---- what is kept tells which inputs may come

-- this is the number of the next link
abbrev pub follows : Links → LinkId → Bool
follows x link = link.0 == x.opened + 1

-- a link of this number was opened
abbrev pub has_opened : Links → LinkId → Bool
has_opened x link = nat_le 1 link.0 && nat_le link.0 x.opened

-- a piece may come to what is read, or to what is over
abbrev pub may_come : Option OpenLink → Bool
may_come None = true
may_come (Some x) = x.has_more

-- a piece may come to what is kept; of a link that is over nothing is kept
abbrev pub may_come_to : Option KeptLink → Bool
may_come_to None = true
may_come_to (Some x) = may_come x.reading

-- a piece of this link may come
abbrev pub may_bring : Links → LinkId → Bool
may_bring x link = may_come_to (get nat_cmp x.kept link.0)
