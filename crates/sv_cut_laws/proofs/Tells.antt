-- Events that are offered, and lines that are written, change pools and sizes alone; and no order of theirs is to a link.
use Rattle.std.proofs.Common.{◌≡◌, ℕ, List, [], ◌∷◌, ◌++◌, map, Bool, true, false, ◌&&◌, Option, Some, None, append-nil, append_assoc, ◌*◌, refl, sym, ap, subst, ◌∙◌, if◌then◌else◌}
use Rattle.std.specs.List.{flat_map}
use Rattle.std.specs.Option.{option_map, option_to_list}
use Rattle.std.proofs.lemmas.Bool.{eq-eqb}
use Rattle.sv_base.specs.declared.config.FileOrder.{FileOrder}
use Rattle.sv_base.specs.declared.config.FileOrder.TheVariants as file
use Rattle.sv_base.specs.declared.kind.Kind.{Kind}
use Rattle.sv_base.specs.declared.kind.Kind.TheVariants as kind
use Rattle.sv_base.specs.declared.spec.LogSpec.{LogSpec}
use Rattle.sv_core.specs.Events.{announces, offers, offers_change, offers_if, offers_tick, ticks}
use Rattle.sv_core.specs.Logging.{drop_line, logs, logs_if, notes_if, tells_drop, tells_drops}
use Rattle.sv_core.specs.World.{World}
use Rattle.sv_events.specs.TickSlice.{slice_of, tick}
use Rattle.sv_events.specs.declared.event.Event.{Event}
use Rattle.sv_events.specs.declared.fact.Fact.{Fact}
use Rattle.sv_events.specs.declared.fact.Fact.TheVariants as fact
use Rattle.sv_logs.specs.Logging.{log_orders, logged, order_of, orders_if, plan_as}
use Rattle.sv_logs.specs.Sizes.{Sizes, size_in}
use Rattle.sv_children.specs.Lines.Written.{written}
use Rattle.sv_children.specs.declared.lines.line.Line.{Line}
use Rattle.sv_logs.specs.Rotation.{orders_of}
use Rattle.sv_out.specs.declared.order.Order.{Order}
use Rattle.sv_out.specs.declared.order.Order.TheVariants as order
use Rattle.sv_pool.specs.PoolLists.{dropped_for_room}
use Rattle.sv_pool.specs.declared.taken.Dropped.{Dropped}
use Rattle.sv_pool.specs.EventPools.{EventPool, EventPools}
use Rattle.sv_pool.specs.Offers.{drop_report, event_of, offer_reports, offered, reports_of_offer, room_reports, takes}

-- an order that isn't to a link, nor the halt
abbrev pub is_plain : Order → Bool
is_plain (order.Send link bytes) = false
is_plain (order.More link) = false
is_plain (order.Close link) = false
is_plain order.Halt = false
is_plain other = true

-- none of these is
abbrev pub are_plain : List Order → Bool
are_plain [] = true
are_plain (o ∷ os) = is_plain o && are_plain os

pub plain_both : (one other : List Order) → are_plain one ≡ true → are_plain other ≡ true → are_plain (one ++ other) ≡ true
plain_both [] other a b = b
plain_both (o ∷ os) other a b = by_test (is_plain o) a (plain_both os other) where
  by_test : (c : Bool) → (c && are_plain os) ≡ true → (are_plain os ≡ true → are_plain other ≡ true → are_plain (os ++ other) ≡ true)
      → (c && are_plain (os ++ other)) ≡ true
  by_test true is rest = rest is b
  by_test false is rest = absurd cc

-- from one world to the next, where only events were offered and lines were written
pub record Tells (w v : World) : Type 0 where
  pub pools : EventPools
  pub sizes : List (List ℕ × ℕ)
  pub more : List Order
  pub is : v ≡ record w { pools = pools; sizes = sizes; given = w.given ++ more }
  pub plain : are_plain more ≡ true

pub tells_same : (w : World) → Tells w w
tells_same w = record {
  pools = w.pools;
  sizes = w.sizes;
  more = [];
  is = ap (λ (given : List Order). record w { given = given }) (sym (append-nil w.given));
  plain = refl;
}

pub tells_follow : (u v w : World) → Tells u v → Tells v w → Tells u w
tells_follow u v w a b = record {
  pools = b.pools;
  sizes = b.sizes;
  more = a.more ++ b.more;
  is = b.is
      ∙ ap (λ (x : World). record x { pools = b.pools; sizes = b.sizes; given = x.given ++ b.more }) a.is
      ∙ ap (λ (given : List Order). record u { pools = b.pools; sizes = b.sizes; given = given }) (append_assoc u.given a.more b.more);
  plain = plain_both a.more b.more a.plain b.plain;
}

-- ---- lines

plain_file : (f : FileOrder) → is_plain (order_of f) ≡ true
plain_file (file.Append name bytes) = refl
plain_file (file.Shift from to) = refl
plain_file (file.Fresh name) = refl

plain_files : (fs : List FileOrder) → are_plain (map order_of fs) ≡ true
plain_files [] = refl
plain_files (f ∷ fs) = plain_both (order_of f ∷ []) (map order_of fs) (ap (λ (b : Bool). b && true) (plain_file f)) (plain_files fs)

plain_log : (log : LogSpec) (piece : List ℕ) (sizes : Sizes) → are_plain (log_orders log piece sizes) ≡ true
plain_log log piece sizes = by_file log.file where
  by_file : (name : Option (List ℕ)) → are_plain (orders_if name log piece sizes) ≡ true
  by_file None = refl
  by_file (Some name) = plain_files (orders_of (plan_as name (size_in name sizes) log) piece)

pub tells_log : (log : LogSpec) (piece : List ℕ) (w : World) → Tells w (logs log piece w)
tells_log log piece w = record {
  pools = w.pools;
  sizes = logged log piece w.sizes;
  more = log_orders log piece w.sizes;
  is = refl;
  plain = plain_log log piece w.sizes;
}

tells_log_if : (log : LogSpec) (bytes : Option (List ℕ)) (w : World) → Tells w (logs_if log bytes w)
tells_log_if log None w = tells_same w
tells_log_if log (Some bytes) w = tells_log log bytes w

pub tells_note : (line : Option Line) (w : World) → Tells w (notes_if line w)
tells_note None w = tells_same w
tells_note (Some line) w = tells_log_if w.config.main (written w.config.level w.moment line) w

-- ---- events

pub tells_order : (o : Order) (w : World) → is_plain o ≡ true → Tells w (record w { given = w.given ++ o ∷ [] })
tells_order o w plain = record {
  pools = w.pools;
  sizes = w.sizes;
  more = o ∷ [];
  is = refl;
  plain = ap (λ (b : Bool). b && true) plain;
}

tells_one : (o : Order) (w : World) → is_plain o ≡ true → Tells w (tells_drop o w)
tells_one o w plain =
    let told = record w { given = w.given ++ o ∷ [] } in
    tells_follow w told (tells_drop o w) (tells_order o w plain) (tells_note (drop_line o) told)

halves : (b c : Bool) → (b && c) ≡ true → (b ≡ true) × (c ≡ true)
halves true true is = (refl, refl)
halves true false is = absurd cc
halves false c is = absurd cc

pub tells_each : (os : List Order) (w : World) → are_plain os ≡ true → Tells w (tells_drops os w)
tells_each [] w plain = tells_same w
tells_each (o ∷ os) w plain =
    let parts = halves (is_plain o) (are_plain os) plain in
    let v = tells_drop o w in
    tells_follow w v (tells_drops os v) (tells_one o w parts.0) (tells_each os v parts.1)

plain_if : (b : Bool) (os : List Order) → are_plain os ≡ true → are_plain (if b then os else []) ≡ true
plain_if true os plain = plain
plain_if false os plain = refl

pub plain_report : (group : List ℕ) (dropped : Option Dropped) → are_plain (option_to_list (option_map (drop_report group) dropped)) ≡ true
plain_report group None = refl
plain_report group (Some dropped) = refl

plain_reports : (event : Event) (ps : List EventPool) → are_plain (flat_map (reports_of_offer event) ps) ≡ true
plain_reports event [] = refl
plain_reports event (p ∷ ps) =
    plain_both (reports_of_offer event p) (flat_map (reports_of_offer event) ps)
    (plain_if (takes event p) (room_reports p) (plain_report p.group (dropped_for_room p.lists))) (plain_reports event ps)

pub tells_offer : (kind : Kind) (fact : Fact) (w : World) → Tells w (offers kind fact w)
tells_offer kind fact w =
    let u = record w { pools = offered kind fact w.pools } in
    let told = tells_each (offer_reports kind fact w.pools) u (plain_reports (event_of kind fact w.pools.drawn) w.pools.each) in
    record { pools = told.pools; sizes = told.sizes; more = told.more; is = told.is; plain = told.plain }

pub tells_offer_if : (kind : Kind) (f : Option Fact) (w : World) → Tells w (offers_if kind f w)
tells_offer_if kind None w = tells_same w
tells_offer_if kind (Some f) w = tells_offer kind f w

tells_tick : (kind : Kind) (when : Option ℕ) (w : World) → Tells w (offers_tick kind when w)
tells_tick kind None w = tells_same w
tells_tick kind (Some when) w = tells_offer kind (fact.Tick when) w

-- ---- the first and the third step of a turn

-- the daemon has said that it runs
abbrev pub having_announced : World → World
having_announced w = record w { course = record w.course { announced = true } }

pub tells_announced : (w : World) → Tells (having_announced w) (announces w)
tells_announced w = by_test w.course.announced refl where
  by_test : (b : Bool) → w.course.announced ≡ b
      → Tells (having_announced w) (if b then w else offers_change kind.SupervisorStateChangeRunning (having_announced w))
  by_test true is =
      subst (λ (x : World). Tells (having_announced w) x)
      (ap (λ (b : Bool). record w { course = record w.course { announced = b } }) (sym is)) (tells_same (having_announced w))
  by_test false is = tells_offer kind.SupervisorStateChangeRunning fact.Supervisor (having_announced w)

-- it says so once
pub announced_once : (w : World) → w.course.announced ≡ true → announces w ≡ w
announced_once w is =
    ap (λ (b : Bool). if b then w else offers_change kind.SupervisorStateChangeRunning (having_announced w)) is

-- the clock was looked at
abbrev pub having_looked : World → World
having_looked w = record w { clock = w.moment }

pub tells_ticks : (w : World) → Tells (having_looked w) (ticks w)
tells_ticks w =
    let old = w.clock in
    let new = w.moment in
    let u = having_looked w in
    let v = offers_tick kind.Tick5 (tick 5 old new) u in
    let x = offers_tick kind.Tick60 (tick 60 old new) v in
    tells_follow u v (ticks w) (tells_tick kind.Tick5 (tick 5 old new) u)
    (tells_follow v x (ticks w) (tells_tick kind.Tick60 (tick 60 old new) v) (tells_tick kind.Tick3600 (tick 3600 old new) x))

no_tick : (seconds at : ℕ) → tick seconds at at ≡ None
no_tick seconds at =
    ap (λ (b : Bool). if b then None else Some (seconds * slice_of seconds at)) (eq-eqb (slice_of seconds at) (slice_of seconds at) refl)

-- there is no tick where the clock stands still
pub looked_once : (w : World) → w.clock ≡ w.moment → ticks w ≡ w
looked_once w is = ap (λ (old : ℕ). at old) is ∙ rw (no_tick 5 w.moment, no_tick 60 w.moment, no_tick 3600 w.moment) still where
  at : ℕ → World
  at old =
      let u = having_looked w in
      offers_tick kind.Tick3600 (tick 3600 old w.moment)
      (offers_tick kind.Tick60 (tick 60 old w.moment) (offers_tick kind.Tick5 (tick 5 old w.moment) u))

  still : having_looked w ≡ w
  still = ap (λ (clock : ℕ). record w { clock = clock }) (sym is)
