-- The orders that a deed with links gives are orders to links.
use Rattle.std.proofs.Common.{ℕ, List, [], ◌∷◌, Bool, true, false, if◌then◌else◌}
use Rattle.sv_base.specs.declared.ids.LinkId.{LinkId}
use Rattle.sv_core_laws.specs.LinkHistory.{deed_orders, next_link, reply_orders}
use Rattle.sv_core.specs.Openings.{welcome}
use Rattle.sv_links.specs.LinkBook.{LinkRecord, has_room, is_sent, more_is_due}
use Rattle.sv_links.specs.LinkBook.Ending.{Ended, Failed, Closed}
use Rattle.sv_links.specs.LinkDeeds.{Deed}
use Rattle.sv_links.specs.LinkDeeds.Deed.{Open, Feed, End, Take, Answer, GiveMore}
use Rattle.sv_out.specs.declared.order.Order.{Order}
use Rattle.sv_out.specs.declared.order.Order.TheVariants as order

-- so what holds of no orders, and with each order to a link of one more, holds of them
module _ (P : List Order → Type 0) (none : P [])
    (sends : (link : LinkId) (bytes : List ℕ) (rest : List Order) → P rest → P (order.Send link bytes ∷ rest))
    (wants : (link : LinkId) (rest : List Order) → P rest → P (order.More link ∷ rest))
    (closes : (link : LinkId) (rest : List Order) → P rest → P (order.Close link ∷ rest)) where
  of_welcome : (link : LinkId) (room : Bool) → P (welcome link room ∷ [])
  of_welcome link true = wants link [] none
  of_welcome link false = closes link [] none

  of_reply : (link : LinkId) (sent ends : Bool) (bytes : List ℕ) → P (if sent then reply_orders link ends bytes else [])
  of_reply link true true bytes = sends link bytes (order.Close link ∷ []) (closes link [] none)
  of_reply link true false bytes = sends link bytes [] none
  of_reply link false ends bytes = none

  of_more : (link : LinkId) (due : Bool) → P (if due then order.More link ∷ [] else [])
  of_more link true = wants link [] none
  of_more link false = none

  pub each_link_order : (deed : Deed) (bytes : List ℕ) (book : List LinkRecord) → P (deed_orders deed bytes book)
  each_link_order (Open guard) bytes book = of_welcome (next_link book) (has_room book)
  each_link_order (Feed link piece) bytes book = none
  each_link_order (End link Closed) bytes book = closes link [] none
  each_link_order (End link Ended) bytes book = none
  each_link_order (End link Failed) bytes book = none
  each_link_order (Take link) bytes book = none
  each_link_order (Answer link ends) bytes book = of_reply link (is_sent link book) ends bytes
  each_link_order (GiveMore link) bytes book = of_more link (more_is_due link book)
