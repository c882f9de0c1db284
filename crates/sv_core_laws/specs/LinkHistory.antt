-- What was done with the links of clients, and the orders to them that tell of it (RFC 9112,
-- section 9.3).
use Rattle.std.specs.Prelude.{◌≡◌, ◌+◌, ℕ, List, [], ◌∷◌, ◌++◌, Bool, true, false, filter, length}
use Rattle.std.specs.Prelude.{map, if◌then◌else◌}
use Rattle.sv_base.specs.declared.ids.LinkId.{LinkId}
use Rattle.sv_core.specs.MachineState.{Model, now}
use Rattle.sv_core.specs.Openings.{welcome}
use Rattle.sv_links.specs.LinkBook.{LinkRecord, has_room, is_sent, more_is_due}
use Rattle.sv_links.specs.LinkBook.Ending.{Closed}
use Rattle.sv_links.specs.LinkDeeds.{Deed, after, links_after}
use Rattle.sv_links.specs.LinkDeeds.Deed.{Open, Feed, End, Take, Answer, GiveMore}
use Rattle.sv_out.specs.declared.order.Order.{Order}
use Rattle.sv_out.specs.declared.order.Order.TheVariants as order

-- an order to a link
abbrev pub is_to_link : Order → Bool
is_to_link (order.Send link bytes) = true
is_to_link (order.More link) = true
is_to_link (order.Close link) = true
is_to_link other = false

-- a deed with links, and the bytes of the reply where it is an answer
pub record LinkEntry : Type 0 where
  pub deed : Deed
  pub bytes : List ℕ

-- the number of the next link
abbrev pub next_link : List LinkRecord → LinkId
next_link book = record { 0 = 1 + length book }

-- the orders of an answer that is sent: after a reply that closes its link stands Close
abbrev pub reply_orders : LinkId → (closes : Bool) → List ℕ → List Order
reply_orders link true bytes = order.Send link bytes ∷ order.Close link ∷ []
reply_orders link false bytes = order.Send link bytes ∷ []

-- the orders of a deed, among the links as they are before it: an opening gives More, or Close
-- where there is no room; an answer gives its reply, where it is sent; More is given where it is
-- due; and a link that the daemon ends gets Close
abbrev pub deed_orders : Deed → List ℕ → List LinkRecord → List Order
deed_orders (Open guard) bytes book = welcome (next_link book) (has_room book) ∷ []
deed_orders (Feed link piece) bytes book = []
deed_orders (End link Closed) bytes book = order.Close link ∷ []
deed_orders (End link ending) bytes book = []
deed_orders (Take link) bytes book = []
deed_orders (Answer link closes) bytes book =
    if is_sent link book then reply_orders link closes bytes else []
deed_orders (GiveMore link) bytes book = if more_is_due link book then order.More link ∷ [] else []

-- the same of an entry
abbrev pub entry_orders : LinkEntry → List LinkRecord → List Order
entry_orders entry book = deed_orders entry.deed entry.bytes book

-- the orders of all of them, one after the other
abbrev pub all_link_orders : List LinkEntry → List LinkRecord → List Order
all_link_orders [] book = []
all_link_orders (entry ∷ entries) book =
    entry_orders entry book ++ all_link_orders entries (after entry.deed book)

-- their deeds
abbrev pub deeds_of : List LinkEntry → List Deed
deeds_of entries = map (λ (entry : LinkEntry). entry.deed) entries

-- this was done with links, one thing after the other: the links are those after it, and the orders
-- to links are those of it, in order
pub record LinksHaveAHistory (m : Model) (given : List Order) : Type 0 where
  pub all : List LinkEntry
  pub links : (now m).links ≡ links_after (deeds_of all)
  pub orders : filter is_to_link given ≡ all_link_orders all []
