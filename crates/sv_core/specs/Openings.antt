-- Links are opened at the servers, and all that are open are closed in the end (the manual's
-- chapter on its configuration file, the sections of the two HTTP servers).
use Rattle.std.specs.Prelude.{List, [], ◌∷◌, Option, Some, None, Bool, true, false, find}
use Rattle.std.specs.Option.{option_map}
use Rattle.sv_base.specs.declared.config.Place.{Place}
use Rattle.sv_base.specs.declared.config.Place.TheVariants as place_is
use Rattle.sv_base.specs.declared.config.ServerSpec.{ServerSpec}
use Rattle.sv_base.specs.declared.ids.LinkId.{LinkId}
use Rattle.sv_base.specs.declared.state.Side.{Side}
use Rattle.sv_base.specs.declared.state.Side.TheVariants as side_is
use Rattle.sv_core.specs.World.{World, gives}
use Rattle.sv_http.specs.declared.guard.Guard.{Guard}
use Rattle.sv_links.specs.LinkBook.{ended, has_room, open_links, opened}
use Rattle.sv_links.specs.LinkBook.Ending.{Closed}
use Rattle.sv_out.specs.declared.order.Order.{Order}
use Rattle.sv_out.specs.declared.order.Order.TheVariants as order

-- ---- a link is opened

-- a server listens at a side
abbrev pub is_at : Side → Place → Bool
is_at side_is.Inet (place_is.Inet host port) = true
is_at side_is.Unix (place_is.Unix path) = true
is_at side place = false

-- the server of a side, if there is one
abbrev pub server_of : Side → List ServerSpec → Option ServerSpec
server_of side servers = find (λ server. is_at side server.place) servers

-- who may ask a server
abbrev pub guard_of : ServerSpec → Guard
guard_of server = record { username = server.username; password = server.password }

-- who may ask at a side, where there is a server
abbrev pub guard_at : Side → List ServerSpec → Option Guard
guard_at side servers = option_map guard_of (server_of side servers)

-- what a link gets at its opening: it is served, where there is room for one more
abbrev pub welcome : LinkId → Bool → Order
welcome link true = order.More link
welcome link false = order.Close link

-- a link is opened, over which these may ask
abbrev pub opens_for : LinkId → Option Guard → World → World
opens_for link None w = w
opens_for link (Some guard) w =
    gives (welcome link (has_room w.links)) (record w { links = opened guard w.links })

-- a link is opened at a side
abbrev pub opens : LinkId → Side → World → World
opens link side w = opens_for link (guard_at side w.config.servers) w

-- ---- the end of the daemon

-- a link gets Close
abbrev pub closes : LinkId → World → World
closes link w = record (gives (order.Close link) w) { links = ended link Closed w.links }

-- these links get Close
abbrev pub closes_all : List LinkId → World → World
closes_all [] w = w
closes_all (link ∷ links) w = closes_all links (closes link w)

-- all links that are open get Close
abbrev pub closes_links : World → World
closes_links w = closes_all (open_links w.links) w
