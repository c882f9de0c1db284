-- Step 5 of a turn: the links. The call in hand of a link goes on, and its requests are answered in
-- the order in which they came (RFC 9112, section 9.3). Where a call asks a question the turn
-- stops.
use Rattle.std.specs.Prelude.{ℕ, zero, suc, List, [], ◌∷◌, Option, Some, None, if◌then◌else◌}
use Rattle.sv_calls.specs.Answers.Served.{heard}
use Rattle.sv_base.specs.declared.ids.LinkId.{LinkId}
use Rattle.sv_core.specs.Calling.{goes_on, takes_up}
use Rattle.sv_core.specs.Sweeps.{Turn}
use Rattle.sv_core.specs.World.{World, gives}
use Rattle.sv_http.specs.declared.ask.Ask.{Ask as Request}
use Rattle.sv_links.specs.LinkBook.{ask_at, busy_links, left_at, more_given, more_is_due, taken}
use Rattle.sv_out.specs.declared.order.Order.TheVariants as order

-- a request of a link is taken up, if there is one
abbrev pub serves_ask : LinkId → Option Request → World → (World → Turn) → Turn
serves_ask link None w k = k w
serves_ask link (Some ask) w k = takes_up link (heard ask) w k

-- the next request of a link is begun, if there is one and no other is in hand
abbrev pub serves_next : LinkId → World → (World → Turn) → Turn
serves_next link w k =
    serves_ask link (ask_at link w.links) (record w { links = taken link w.links }) k

-- so many requests of a link, one after the other
abbrev pub serves_asks : ℕ → LinkId → World → (World → Turn) → Turn
serves_asks zero link w k = k w
serves_asks (suc left) link w k = serves_next link w (λ v. serves_asks left link v k)

-- a link gets More where that is due
abbrev pub gives_more : LinkId → World → World
gives_more link w =
    let after = record w { links = more_given link w.links } in
    if more_is_due link w.links then gives (order.More link) after else after

-- so many requests of a link, and then its More
abbrev pub serves_left : ℕ → LinkId → World → (World → Turn) → Turn
serves_left left link w k = serves_asks left link w (λ v. k (gives_more link v))

-- the call in hand of a link goes on, and then so many requests are begun
abbrev pub serves_from : ℕ → LinkId → World → (World → Turn) → Turn
serves_from left link w k = goes_on link w (λ v. serves_left left link v k)

-- as many as aren't begun
abbrev pub serves_link : LinkId → World → (World → Turn) → Turn
serves_link link w k = serves_from (left_at link w.links) link w k

-- link by link
abbrev pub serves_all : List LinkId → World → (World → Turn) → Turn
serves_all [] w k = k w
serves_all (link ∷ links) w k = serves_link link w (λ v. serves_all links v k)

-- each link that is open or has a request in hand, in rising number
abbrev pub serves_links : World → (World → Turn) → Turn
serves_links w k = serves_all (busy_links w.links) w k
