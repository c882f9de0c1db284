-- What happens to the pools, seen at one of them: its lists take steps, and what it drops is reported by its name.
use Rattle.std.proofs.Common.{◌≡◌, ℕ, zero, suc, ◌+◌, ◌-◌, ◌^◌, ◌<◌, ◌≤◌, List, [], ◌∷◌, ◌++◌, length, map, take, drop, Bool, true, false, ◌&&◌, Option, Some, None, append-nil, append_assoc, refl, subst, sym, ap, ◌∙◌, if◌then◌else◌}
use Rattle.std.specs.Prelude.{IfSome, slice_get, nat_le}
use Rattle.std.specs.List.{flat_map, list_any}
use Rattle.std.specs.Option.{option_map, option_to_list}
use Rattle.std.specs.Str.{bytes_eq}
use Rattle.std.proofs.lemmas.Bool.{and_parts, both_ways, not-true, or_parts}
use Rattle.std.proofs.lemmas.Grind.{flat_map-append}
use Rattle.std.proofs.lemmas.List.{length-set, map-append}
use Rattle.std.proofs.lemmas.Option.{same_Some, slice_get-map}
use Rattle.std.proofs.lemmas.Slice.Eq.{bytes_eq-Decides}
use Rattle.sv_base.specs.Order.{are_distinct}
use Rattle.sv_base.specs.Roster.{are_memberships, is_roster}
use Rattle.sv_base.specs.declared.ids.Run.{Run}
use Rattle.sv_base.specs.declared.spec.GroupSpec.{GroupSpec}
use Rattle.sv_base.specs.declared.spec.PoolSpec.{PoolSpec}
use Rattle.sv_core_laws.specs.Account.{Entry, Happening, HoldSome, all_entered, all_ordered, drop_told, drops_told, happened, ordered}
use Rattle.sv_core_laws.specs.Account.Entry.{Happens, Writes}
use Rattle.sv_core_laws.specs.Account.Happening.{Offered, Handed, Acknowledged, Rejected}
use Rattle.sv_events.specs.declared.event.Event.{Event}
use Rattle.sv_out.specs.declared.order.Order.{Order}
use Rattle.sv_pool.proofs.Places.{each_is_somewhere}
use Rattle.sv_pool.specs.Account as steps_of
use Rattle.sv_pool.specs.Account.{IsAccount, Step, after, after_all, holds_one, may_take}
use Rattle.sv_pool.specs.PoolLists.{Lists, accepted, acknowledged, has_room, opened, rejected, report, took}
use Rattle.sv_pool.specs.declared.taken.Dropped.{Dropped}
use Rattle.sv_pool.specs.declared.taken.Taken.{Taken}
use Rattle.sv_pool.specs.EventPools.{EventPool, EventPools, opened_for, pool_of, pools_from}
use Rattle.sv_pool.specs.Listeners.{acknowledged_by, front_written, handed_by, is_holding, may_get, orders_to, rejected_by, reports_of_rejection, written}
use Rattle.sv_pool.specs.Offers.{drop_report, event_of, offered_to, reports_of_offer, room_reports, takes}

-- ---- steps of one pool

all_after : (l : Lists) (one other : List Step) → after_all l (one ++ other) ≡ after_all (after_all l one) other
all_after l [] other = refl
all_after l (step ∷ one) other = all_after (after l step) one other

-- the pool after some steps, which drop these events
pub record Stepped (p q : EventPool) (drops : List Dropped) : Type 0 where
  pub group : q.group ≡ p.group
  pub steps : List Step
  pub lists : q.lists ≡ after_all p.lists steps
  pub listeners : length q.lists.held ≡ length p.lists.held
  pub buffer : q.lists.buffer ≡ p.lists.buffer
  pub dropped : map report q.lists.dropped ≡ map report p.lists.dropped ++ drops

stays : (p : EventPool) → Stepped p p []
stays p = record {
  group = refl;
  steps = [];
  lists = refl;
  listeners = refl;
  buffer = refl;
  dropped = sym (append-nil (map report p.lists.dropped));
}

stepped_on : (p q r : EventPool) (one other : List Dropped) → Stepped p q one → Stepped q r other → Stepped p r (one ++ other)
stepped_on p q r one other a b = record {
  group = b.group ∙ a.group;
  steps = a.steps ++ b.steps;
  lists = b.lists ∙ ap (λ (l : Lists). after_all l b.steps) a.lists ∙ sym (all_after p.lists a.steps b.steps);
  listeners = b.listeners ∙ a.listeners;
  buffer = b.buffer ∙ a.buffer;
  dropped = b.dropped ∙ ap (λ (drops : List Dropped). drops ++ other) a.dropped ∙ append_assoc (map report p.lists.dropped) one other;
}

-- ---- what is reported of one group

own_group : (group : List ℕ) → bytes_eq group group ≡ true
own_group group = (bytes_eq-Decides group group).1 refl

other_group : (its group : List ℕ) → (its ≡ group → ⊥) → bytes_eq its group ≡ false
other_group its group other = by_test (bytes_eq its group) (λ same. other ((bytes_eq-Decides its group).0 same)) where
  by_test : (b : Bool) → (b ≡ true → ⊥) → b ≡ false
  by_test true never = elim (never refl) [ ]
  by_test false never = refl

own_drop : (group : List ℕ) (dropped : Dropped) → drops_told group (drop_report group dropped ∷ []) ≡ dropped ∷ []
own_drop group dropped = rw (own_group group) refl

other_drop : (its group : List ℕ) (dropped : Option Dropped) → (its ≡ group → ⊥)
    → drops_told group (option_to_list (option_map (drop_report its) dropped)) ≡ []
other_drop its group None other = refl
other_drop its group (Some dropped) other = rw (other_group its group other) refl

-- the first of those that wait is dropped, and reported
front_drops : (group : List ℕ) (before waiting : List Taken)
    → map report (before ++ take 1 waiting)
    ≡ map report before ++ drops_told group (option_to_list (option_map (drop_report group) (option_map report (slice_get waiting 0))))
front_drops group before [] = ap (map report) (append-nil before) ∙ sym (append-nil (map report before))
front_drops group before (x ∷ waiting) =
    map-append report before (x ∷ []) ∙ ap (λ (drops : List Dropped). map report before ++ drops) (sym (own_drop group (report x)))

room_drops : (b : Bool) (group : List ℕ) (l : Lists)
    → map report (if b then l else record l { waiting = drop 1 l.waiting; dropped = l.dropped ++ take 1 l.waiting }).dropped
    ≡ map report l.dropped
    ++ drops_told group (option_to_list (option_map (drop_report group) (if b then None else option_map report (slice_get l.waiting 0))))
room_drops true group l = sym (append-nil (map report l.dropped))
room_drops false group l = front_drops group l.dropped l.waiting

room_held : (b : Bool) (l : Lists)
    → (if b then l else record l { waiting = drop 1 l.waiting; dropped = l.dropped ++ take 1 l.waiting }).held ≡ l.held
room_held true l = refl
room_held false l = refl

room_buffer : (b : Bool) (l : Lists)
    → (if b then l else record l { waiting = drop 1 l.waiting; dropped = l.dropped ++ take 1 l.waiting }).buffer ≡ l.buffer
room_buffer true l = refl
room_buffer false l = refl

-- ---- one pool, whatever happens

chosen : (b : Bool) (l new : Lists) → b ≡ true → new ≡ (if b then new else l)
chosen true l new is = refl
chosen false l new is = cc

right_part : (a b : Bool) → (a && b) ≡ true → b ≡ true
right_part a b both = (and_parts a b both).1

accepts_one : (event : Event) (p : EventPool) → Stepped p (record p { lists = accepted event p.lists }) (drops_told p.group (room_reports p))
accepts_one event p = record {
  group = refl;
  steps = steps_of.Step.Accept event ∷ [];
  lists = refl;
  listeners = ap length (room_held (has_room p.lists) p.lists);
  buffer = room_buffer (has_room p.lists) p.lists;
  dropped = room_drops (has_room p.lists) p.group p.lists;
}

takes_one : (place : ℕ) (p : EventPool) → may_get place p ≡ true
    → Stepped p (record p { lists = took (place - p.first) p.lists }) []
takes_one place p may = record {
  group = refl;
  steps = steps_of.Step.Take (place - p.first) ∷ [];
  lists = chosen (may_take (place - p.first) p.lists) p.lists (took (place - p.first) p.lists)
      (right_part (nat_le p.first place) (may_take (place - p.first) p.lists) may);
  listeners = length-set p.lists.held (place - p.first) (slice_get p.lists.waiting 0);
  buffer = refl;
  dropped = sym (append-nil (map report p.lists.dropped));
}

acknowledges_one : (place : ℕ) (p : EventPool) → is_holding place p ≡ true
    → Stepped p (record p { lists = acknowledged (place - p.first) p.lists }) []
acknowledges_one place p holds = record {
  group = refl;
  steps = steps_of.Step.Acknowledge (place - p.first) ∷ [];
  lists = chosen (holds_one (place - p.first) p.lists) p.lists (acknowledged (place - p.first) p.lists)
      (right_part (nat_le p.first place) (holds_one (place - p.first) p.lists) holds);
  listeners = length-set p.lists.held (place - p.first) None;
  buffer = refl;
  dropped = sym (append-nil (map report p.lists.dropped));
}

rejects_one : (place : ℕ) (p : EventPool) → is_holding place p ≡ true
    → Stepped p (record p { lists = rejected (place - p.first) p.lists }) (drops_told p.group (room_reports p))
rejects_one place p holds = record {
  group = refl;
  steps = steps_of.Step.Reject (place - p.first) ∷ [];
  lists = chosen (holds_one (place - p.first) p.lists) p.lists (rejected (place - p.first) p.lists)
      (right_part (nat_le p.first place) (holds_one (place - p.first) p.lists) holds);
  listeners = length-set p.lists.held (place - p.first) None;
  buffer = room_buffer (has_room p.lists) p.lists;
  dropped = room_drops (has_room p.lists) p.group p.lists;
}

-- if it happens to this pool
stepped_if : (b : Bool) (p q : EventPool) (orders : List Order) → (b ≡ true → Stepped p q (drops_told p.group orders))
    → Stepped p (if b then q else p) (drops_told p.group (if b then orders else []))
stepped_if true p q orders goes = goes refl
stepped_if false p q orders goes = stays p

stepped_unseen : (b : Bool) (p q : EventPool) → (b ≡ true → Stepped p q []) → Stepped p (if b then q else p) []
stepped_unseen true p q goes = goes refl
stepped_unseen false p q goes = stays p

drops_if : (b : Bool) (group : List ℕ) (orders : List Order) → drops_told group orders ≡ [] → drops_told group (if b then orders else []) ≡ []
drops_if true group orders none = none
drops_if false group orders none = refl

front_silent : (group server its : List ℕ) (run : Run) (front : Option Taken)
    → drops_told group (option_to_list (option_map (written server run its) front)) ≡ []
front_silent group server its run None = refl
front_silent group server its run (Some taken) = refl

hand_silent : (group server : List ℕ) (run : Run) (place : ℕ) (p : EventPool) → drops_told group (orders_to server run place p) ≡ []
hand_silent group server run place p =
    drops_if (may_get place p) group (front_written server run p) (front_silent group server p.group run (slice_get p.lists.waiting 0))

-- this pool after what happened, and what it gives itself; the next event has this number
abbrev pub here : Happening → ℕ → EventPool → EventPool
here (Offered kind fact) drawn p = offered_to (event_of kind fact drawn) p
here (Handed run place) drawn p = handed_by place p
here (Acknowledged place) drawn p = acknowledged_by place p
here (Rejected place) drawn p = rejected_by place p

abbrev pub told_here : List ℕ → Happening → ℕ → EventPool → List Order
told_here server (Offered kind fact) drawn p = reports_of_offer (event_of kind fact drawn) p
told_here server (Handed run place) drawn p = orders_to server run place p
told_here server (Acknowledged place) drawn p = []
told_here server (Rejected place) drawn p = reports_of_rejection place p

stepped : (server : List ℕ) (h : Happening) (drawn : ℕ) (p : EventPool)
    → Stepped p (here h drawn p) (drops_told p.group (told_here server h drawn p))
stepped server (Offered kind fact) drawn p =
    let event = event_of kind fact drawn in
    stepped_if (takes event p) p (record p { lists = accepted event p.lists }) (room_reports p) (λ is. accepts_one event p)
stepped server (Handed run place) drawn p =
    subst (λ (drops : List Dropped). Stepped p (handed_by place p) drops) (sym (hand_silent p.group server run place p))
    (stepped_unseen (may_get place p) p (record p { lists = took (place - p.first) p.lists }) (takes_one place p))
stepped server (Acknowledged place) drawn p =
    stepped_unseen (is_holding place p) p (record p { lists = acknowledged (place - p.first) p.lists }) (acknowledges_one place p)
stepped server (Rejected place) drawn p =
    stepped_if (is_holding place p) p (record p { lists = rejected (place - p.first) p.lists }) (room_reports p) (rejects_one place p)

-- a pool reports nothing of another group
others_silent : (server : List ℕ) (h : Happening) (drawn : ℕ) (group : List ℕ) (p : EventPool) → (p.group ≡ group → ⊥)
    → drops_told group (told_here server h drawn p) ≡ []
others_silent server (Offered kind fact) drawn group p other =
    drops_if (takes (event_of kind fact drawn) p) group (room_reports p) (other_drop p.group group _ other)
others_silent server (Handed run place) drawn group p other = hand_silent group server run place p
others_silent server (Acknowledged place) drawn group p other = refl
others_silent server (Rejected place) drawn group p other =
    drops_if (is_holding place p) group (room_reports p) (other_drop p.group group _ other)

-- ---- all pools, of which one has this name

-- no pool has this name
abbrev pub Others : List ℕ → List EventPool → Type 0
Others group [] = Unit {0}
Others group (p ∷ ps) = (p.group ≡ group → ⊥) × Others group ps

-- none but that of this place
abbrev pub Only : List ℕ → ℕ → List EventPool → Type 0
Only group place [] = Unit {0}
Only group zero (p ∷ ps) = Others group ps
Only group (suc place) (p ∷ ps) = (p.group ≡ group → ⊥) × Only group place ps

module _ (group : List ℕ) (f : EventPool → List Order) (silent : (p : EventPool) → (p.group ≡ group → ⊥) → drops_told group (f p) ≡ []) where
  none_told : (ps : List EventPool) → Others group ps → drops_told group (flat_map f ps) ≡ []
  none_told [] others = refl
  none_told (p ∷ ps) others =
      flat_map-append (drop_told group) (f p) (flat_map f ps)
      ∙ ap (λ (drops : List Dropped). drops ++ drops_told group (flat_map f ps)) (silent p others.0)
      ∙ none_told ps others.1

  pub one_tells : (ps : List EventPool) (place : ℕ) (p : EventPool) → slice_get ps place ≡ Some p → Only group place ps
      → drops_told group (flat_map f ps) ≡ drops_told group (f p)
  one_tells [] place p is only = cc
  one_tells (x ∷ ps) zero p is only =
      flat_map-append (drop_told group) (f x) (flat_map f ps)
      ∙ ap (λ (drops : List Dropped). drops_told group (f x) ++ drops) (none_told ps only)
      ∙ append-nil (drops_told group (f x))
      ∙ ap (λ (q : EventPool). drops_told group (f q)) (same_Some x p is)
  one_tells (x ∷ ps) (suc place) p is only =
      flat_map-append (drop_told group) (f x) (flat_map f ps)
      ∙ ap (λ (drops : List Dropped). drops ++ drops_told group (flat_map f ps)) (silent x only.0)
      ∙ one_tells ps place p is only.1

module _ (group : List ℕ) (f : EventPool → EventPool) (same : (p : EventPool) → (f p).group ≡ p.group) where
  others_after : (ps : List EventPool) → Others group ps → Others group (map f ps)
  others_after [] others = tt
  others_after (p ∷ ps) others = (λ is. others.0 (sym (same p) ∙ is), others_after ps others.1)

  pub only_after : (ps : List EventPool) (place : ℕ) → Only group place ps → Only group place (map f ps)
  only_after [] place only = tt
  only_after (p ∷ ps) zero only = others_after ps only
  only_after (p ∷ ps) (suc place) only = (λ is. only.0 (sym (same p) ∙ is), only_after ps place only.1)

all_here : (h : Happening) (ps : EventPools) → (happened h ps).each ≡ map (here h ps.drawn) ps.each
all_here (Offered kind fact) ps = refl
all_here (Handed run place) ps = refl
all_here (Acknowledged place) ps = refl
all_here (Rejected place) ps = refl

nothing_of_all : (server : List ℕ) (place drawn : ℕ) (ps : List EventPool) → flat_map (told_here server (Acknowledged place) drawn) ps ≡ []
nothing_of_all server place drawn [] = refl
nothing_of_all server place drawn (p ∷ ps) = nothing_of_all server place drawn ps

told_by_all : (server : List ℕ) (h : Happening) (ps : EventPools) → ordered server h ps ≡ flat_map (told_here server h ps.drawn) ps.each
told_by_all server (Offered kind fact) ps = refl
told_by_all server (Handed run place) ps = refl
told_by_all server (Acknowledged place) ps = sym (nothing_of_all server place ps.drawn ps.each)
told_by_all server (Rejected place) ps = refl

-- what happened, one after the other
abbrev pub all_happened : List Happening → EventPools → EventPools
all_happened [] ps = ps
all_happened (h ∷ hs) ps = all_happened hs (happened h ps)

abbrev pub happenings_ordered : List ℕ → List Happening → EventPools → List Order
happenings_ordered server [] ps = []
happenings_ordered server (h ∷ hs) ps = ordered server h ps ++ happenings_ordered server hs (happened h ps)

-- the happenings among the entries
abbrev pub happenings : List Entry → List Happening
happenings [] = []
happenings (Happens h ∷ es) = h ∷ happenings es
happenings (Writes run bytes ∷ es) = happenings es

pub entries_happened : (es : List Entry) (ps : EventPools) → all_entered es ps ≡ all_happened (happenings es) ps
entries_happened [] ps = refl
entries_happened (Happens h ∷ es) ps = entries_happened es (happened h ps)
entries_happened (Writes run bytes ∷ es) ps = entries_happened es ps

-- what clients write reports no drop
pub entries_told : (server group : List ℕ) (es : List Entry) (ps : EventPools)
    → drops_told group (all_ordered server es ps) ≡ drops_told group (happenings_ordered server (happenings es) ps)
entries_told server group [] ps = refl
entries_told server group (Happens h ∷ es) ps =
    flat_map-append (drop_told group) (ordered server h ps) (all_ordered server es (happened h ps))
    ∙ ap (λ (drops : List Dropped). drops_told group (ordered server h ps) ++ drops) (entries_told server group es (happened h ps))
    ∙ sym (flat_map-append (drop_told group) (ordered server h ps) (happenings_ordered server (happenings es) (happened h ps)))
entries_told server group (Writes run bytes ∷ es) ps = entries_told server group es ps

-- a pool is found after its steps
pub record Found (p : EventPool) (found : Option EventPool) (drops : List Dropped) : Type 0 where
  pub pool : EventPool
  pub is : found ≡ Some pool
  pub goes : Stepped p pool drops

pub found_after : (server : List ℕ) (hs : List Happening) (ps : EventPools) (place : ℕ) (p : EventPool)
    → slice_get ps.each place ≡ Some p → Only p.group place ps.each
    → Found p (slice_get (all_happened hs ps).each place) (drops_told p.group (happenings_ordered server hs ps))
found_after server [] ps place p is only = record { pool = p; is = is; goes = stays p }
found_after server (h ∷ hs) ps place p is only =
    let q = here h ps.drawn p in
    let first = stepped server h ps.drawn p in
    let there : slice_get (happened h ps).each place ≡ Some q =
    ap (λ (all : List EventPool). slice_get all place) (all_here h ps) ∙ slice_get-map (here h ps.drawn) ps.each place ∙ ap (option_map (here h ps.drawn)) is in
    let still : Only q.group place (happened h ps).each =
    subst (λ (group : List ℕ). Only group place (happened h ps).each) (sym first.group)
    (subst (λ (all : List EventPool). Only p.group place all) (sym (all_here h ps))
    (only_after p.group (here h ps.drawn) (λ x. (stepped server h ps.drawn x).group) ps.each place only)) in
    let rest = found_after server hs (happened h ps) place q there still in
    let told : drops_told p.group (ordered server h ps) ≡ drops_told p.group (told_here server h ps.drawn p) =
    ap (drops_told p.group) (told_by_all server h ps)
    ∙ one_tells p.group (told_here server h ps.drawn) (λ x other. others_silent server h ps.drawn p.group x other) ps.each place p is only in
    let all : drops_told p.group (told_here server h ps.drawn p) ++ drops_told q.group (happenings_ordered server hs (happened h ps))
    ≡ drops_told p.group (ordered server h ps ++ happenings_ordered server hs (happened h ps)) =
    ap (λ (group : List ℕ). drops_told p.group (told_here server h ps.drawn p) ++ drops_told group (happenings_ordered server hs (happened h ps))) first.group
    ∙ ap (λ (drops : List Dropped). drops ++ drops_told p.group (happenings_ordered server hs (happened h ps))) (sym told)
    ∙ sym (flat_map-append (drop_told p.group) (ordered server h ps) (happenings_ordered server hs (happened h ps))) in
    record {
      pool = rest.pool;
      is = rest.is;
      goes = subst (λ (drops : List Dropped). Stepped p rest.pool drops) all
          (stepped_on p q rest.pool (drops_told p.group (told_here server h ps.drawn p)) (drops_told q.group (happenings_ordered server hs (happened h ps))) first rest.goes);
    }

-- ---- the pools that a configuration opens

-- a pool that took no event yet
pub record Fresh (p : EventPool) : Type 0 where
  pub listeners : ℕ
  pub is : p.lists ≡ opened p.lists.buffer listeners

pub fresh_at : (first : ℕ) (groups : List GroupSpec) (place : ℕ) (p : EventPool) → slice_get (pools_from first groups) place ≡ Some p → Fresh p
fresh_at first [] place p is = cc
fresh_at first (g ∷ gs) place p is = by_pool g.pool place (λ at there. fresh_at (first + length g.members) gs at p there) is where
  behind : List EventPool
  behind = pools_from (first + length g.members) gs

  by_pool : (pool : Option PoolSpec) (at : ℕ) → ((j : ℕ) → slice_get behind j ≡ Some p → Fresh p)
      → slice_get (pool_of first g pool ++ behind) at ≡ Some p → Fresh p
  by_pool None at rest there = rest at there
  by_pool (Some pool) zero rest there =
      subst Fresh (same_Some (opened_for first g pool) p there) (record { listeners = length g.members; is = refl })
  by_pool (Some pool) (suc at) rest there = rest at there

-- each has room for an event
pub some_at : (first : ℕ) (groups : List GroupSpec) (place : ℕ) (p : EventPool) → HoldSome groups
    → slice_get (pools_from first groups) place ≡ Some p → 1 ≤ p.lists.buffer
some_at first [] place p some is = cc
some_at first (g ∷ gs) place p some is =
    by_pool g.pool place some.0 (λ at there. some_at (first + length g.members) gs at p some.1 there) is where
      behind : List EventPool
      behind = pools_from (first + length g.members) gs

      by_pool : (pool : Option PoolSpec) (at : ℕ) → IfSome pool (λ spec. 1 ≤ spec.buffer)
          → ((j : ℕ) → slice_get behind j ≡ Some p → 1 ≤ p.lists.buffer)
          → slice_get (pool_of first g pool ++ behind) at ≡ Some p → 1 ≤ p.lists.buffer
      by_pool None at own rest there = rest at there
      by_pool (Some pool) zero own rest there =
          subst (λ (q : EventPool). 1 ≤ q.lists.buffer) (same_Some (opened_for first g pool) p there) own
      by_pool (Some pool) (suc at) own rest there = rest at there

others_opened : (first : ℕ) (groups : List GroupSpec) (group : List ℕ)
    → list_any (λ (g : GroupSpec). bytes_eq g.name group) groups ≡ false → Others group (pools_from first groups)
others_opened first [] group other = tt
others_opened first (g ∷ gs) group other =
    let parts = or_parts (bytes_eq g.name group) (list_any (λ (h : GroupSpec). bytes_eq h.name group) gs) other in
    by_pool g.pool (others_opened (first + length g.members) gs group parts.1)
    (λ same. both_ways (bytes_eq g.name group) parts.0 ((bytes_eq-Decides g.name group).1 same)) where
      by_pool : (pool : Option PoolSpec) → Others group (pools_from (first + length g.members) gs) → (g.name ≡ group → ⊥)
          → Others group (pool_of first g pool ++ pools_from (first + length g.members) gs)
      by_pool None rest apart = rest
      by_pool (Some pool) rest apart = (apart, rest)

other_at : (group : List ℕ) (ps : List EventPool) (place : ℕ) (p : EventPool) → Others group ps → slice_get ps place ≡ Some p
    → p.group ≡ group → ⊥
other_at group [] place p others is same = cc
other_at group (x ∷ ps) zero p others is same = others.0 (ap (λ (q : EventPool). q.group) (same_Some x p is) ∙ same)
other_at group (x ∷ ps) (suc place) p others is same = other_at group ps place p others.1 is same

only_opened : (first : ℕ) (groups : List GroupSpec) (place : ℕ) (p : EventPool) → are_distinct (λ (g : GroupSpec). g.name) groups ≡ true
    → slice_get (pools_from first groups) place ≡ Some p → Only p.group place (pools_from first groups)
only_opened first [] place p distinct is = cc
only_opened first (g ∷ gs) place p distinct is =
    let parts = and_parts _ (are_distinct (λ (h : GroupSpec). h.name) gs) distinct in
    let others = others_opened (first + length g.members) gs g.name
    (not-true (list_any (λ (h : GroupSpec). bytes_eq h.name g.name) gs) parts.0) in
    by_pool g.pool place others (λ at there. only_opened (first + length g.members) gs at p parts.1 there) is where
      behind : List EventPool
      behind = pools_from (first + length g.members) gs

      by_pool : (pool : Option PoolSpec) (at : ℕ) → Others g.name behind
          → ((j : ℕ) → slice_get behind j ≡ Some p → Only p.group j behind)
          → slice_get (pool_of first g pool ++ behind) at ≡ Some p → Only p.group at (pool_of first g pool ++ behind)
      by_pool None at others rest there = rest at there
      by_pool (Some pool) zero others rest there =
          subst (λ (q : EventPool). Others q.group behind) (same_Some (opened_for first g pool) p there) others
      by_pool (Some pool) (suc at) others rest there =
          (λ same. other_at g.name behind at p others there (sym same), rest at there)

pub only_of_roster : (groups : List GroupSpec) (place : ℕ) (p : EventPool) → is_roster groups ≡ true
    → slice_get (pools_from 0 groups) place ≡ Some p → Only p.group place (pools_from 0 groups)
only_of_roster groups place p roster is =
    let members = and_parts _ (are_memberships groups) roster in
    let distinct = and_parts _ (are_distinct (λ (g : GroupSpec). g.name) groups) members.0 in
    only_opened 0 groups place p distinct.1 is

-- a pool that took no event before is in order after its steps
pub in_order : (p q : EventPool) (drops : List Dropped) → Fresh p → 1 ≤ p.lists.buffer → Stepped p q drops → q.lists.taken < 2 ^ 64
    → IsAccount p.lists.buffer q.lists
in_order p q drops fresh some goes few =
    let is : q.lists ≡ after_all (opened p.lists.buffer fresh.listeners) goes.steps =
    goes.lists ∙ ap (λ (l : Lists). after_all l goes.steps) fresh.is in
    subst (λ (l : Lists). IsAccount p.lists.buffer l) (sym is)
    (each_is_somewhere p.lists.buffer fresh.listeners goes.steps some (subst (λ (l : Lists). l.taken < 2 ^ 64) is few))

-- and what it dropped is what was told
pub all_dropped : (p q : EventPool) (drops : List Dropped) → Fresh p → Stepped p q drops → map report q.lists.dropped ≡ drops
all_dropped p q drops fresh goes =
    goes.dropped ∙ ap (λ (l : Lists). map report l.dropped ++ drops) fresh.is
