-- Time passes by a child that hasn't woken, and nothing is handed out where no event waits.
use Rattle.std.proofs.Common.{◌≡◌, ℕ, zero, suc, ◌+◌, ◌-◌, ◌≤◌, true, false, Bool, ◌&&◌, ◌||◌, List, [], ◌∷◌, Option, Some, None, is_none, is_some, length, arith, ap, sym, ◌∙◌, refl, subst, append-nil}
use Rattle.std.specs.List.{flat_map, list_any}
use Rattle.std.proofs.lemmas.Bool.{not-true}
use Rattle.std.specs.Prelude.{MatchOption, map, nat_le, nat_lt, slice_get, slice_set}
use Rattle.sv_base.specs.declared.ids.Run.{Run}
use Rattle.sv_base.specs.declared.spec.GroupSpec.{GroupSpec}
use Rattle.sv_base.specs.declared.spec.Spec.{Spec}
use Rattle.sv_base.specs.declared.state.Mood.{Mood}
use Rattle.sv_child.specs.ChildTable.{row}
use Rattle.sv_child.specs.ChildTable.Stimulus.{Time as Time_passes}
use Rattle.sv_child.specs.Moves.{nothing}
use Rattle.sv_child.specs.declared.child.Child.{Child}
use Rattle.sv_children.proofs.Waking.{not_awake}
use Rattle.sv_children.specs.Awake.{IsNextAwake, NoneAwake}
use Rattle.sv_children.specs.Crew.{Crew, member_at, member_of}
use Rattle.sv_children.specs.News.{deed_of, said_to, step_of, stimulus_of}
use Rattle.sv_children.specs.Wake.{is_awake}
use Rattle.sv_children.specs.declared.news.News.{News}
use Rattle.sv_children.specs.declared.news.News.TheVariants as news_is
use Rattle.sv_core.proofs.Shown.{made}
use Rattle.sv_core.specs.Frames.{Makes}
use Rattle.sv_core.specs.HandingOut.{hands_from, hands_out, ready_of, sends_to}
use Rattle.sv_core.specs.Listening.{id_of}
use Rattle.sv_core.specs.Moves.{moves}
use Rattle.sv_core.specs.Sweeps.{PassBy, Turn, does_noted, meets, passes_by}
use Rattle.sv_core.specs.StandsFor.{Shows, shown}
use Rattle.sv_core.specs.World.{World}
use Rattle.sv_core.specs.declared.machine.Machine.{Machine}
use Rattle.sv_groups.specs.StartOrder.{pairs_of}
use Rattle.sv_children.specs.Lines.EdgeLines.{how_of}
use Rattle.sv_pool.specs.PoolLists.{holding}
use Rattle.sv_pool.specs.declared.taken.Taken.{Taken}
use Rattle.sv_pool.specs.EventPools.{EventPool, EventPools}
use Rattle.sv_pool.specs.Listeners.{handed_by, has_waiting, may_get, orders_to, some_wait}
use Rattle.sv_pool.specs.StandsFor as kept

-- a child put where it stands
set_there : (xs : List Child) (i : ℕ) (x : Child) → slice_get xs i ≡ Some x → slice_set xs i x ≡ xs
set_there [] i x at = refl
set_there (y ∷ ys) zero x at = ap (λ (z : Child). z ∷ ys) (cc)
set_there (y ∷ ys) (suc i) x at = ap (λ (zs : List Child). y ∷ zs) (set_there ys i x at)

-- the table has no row for it
no_row : (spec : Spec) (child : Child) (mood : Mood) (now : ℕ) → is_awake spec child now ≡ false
    → row Time_passes child.state spec child mood now ≡ nothing child
no_row spec child mood now asleep = not_awake spec child mood now asleep

-- time passes by it
passed_there : (c : ℕ) (w : World) (k : World → Turn) (pair : Option (GroupSpec × Spec)) (found : Option Child) (news : News)
    → slice_get w.children.all c ≡ found → passes_by news (member_of pair found) w.moment ≡ true
    → let answer = said_to (stimulus_of news) (member_of pair found) w.course.mood w.moment in
    does_noted news (deed_of (step_of answer)) c (moves (how_of news) c answer w) k ≡ k w
passed_there c w k None found news_is.Time at by = refl
passed_there c w k (Some pair) None news_is.Time at by = refl
passed_there c w k (Some pair) (Some child) news_is.Time at by =
    rw (no_row pair.1 child w.course.mood w.moment (not-true (is_awake pair.1 child w.moment) by), set_there w.children.all c child at) refl
passed_there c w k pair found (news_is.Exit run how) at by = cc
passed_there c w k pair found news_is.Start at by = cc
passed_there c w k pair found news_is.Stop at by = cc

pub passed : (news : News) (c : ℕ) (w : World) (k : World → Turn) → passes_by news (member_at w.children c) w.moment ≡ true
    → meets news c w k ≡ k w
passed news c w k by =
    passed_there c w k (slice_get (pairs_of w.children.roster) c) (slice_get w.children.all c) news refl by

-- the next child that has woken is the next that time doesn't pass by
pub time_passes : (now : ℕ) (crew : Crew) (from : ℕ) (found : Option ℕ)
    → MatchOption found ((to : ℕ) → NoneAwake now crew from to) (λ place. IsNextAwake now crew from place)
    → MatchOption found ((to : ℕ) → PassBy news_is.Time now crew from to) (λ place. (from ≤ place) × PassBy news_is.Time now crew from place)
time_passes now crew from None none = λ to place after before. rw (none to place after before) refl
time_passes now crew from (Some found) next = (next.after, λ place after before. rw (next.before place after before) refl)

-- nobody is between a place and itself
pub passed_none : (news : News) (now : ℕ) (crew : Crew) (from : ℕ) → PassBy news now crew from from
passed_none news now crew from place after before = absurd (omega (arith, after, before))

-- the place found lies after those that are asked for
pub passed_before : (news : News) (now : ℕ) (crew : Crew) (from to place : ℕ) → to ≤ place → PassBy news now crew from place
    → PassBy news now crew from to
passed_before news now crew from to place order by other after before = by other after (omega (arith, order, before))

none_first : (waiting : List Taken) (free held : Bool) → is_some (slice_get waiting 0) ≡ false
    → (nat_lt 0 (length waiting) && free && held) ≡ false
none_first [] free held none = refl
none_first (taken ∷ waiting) free held none = cc

and_false : (b : Bool) → (b && false) ≡ false
and_false true = refl
and_false false = refl

neither : (a b : Bool) → (a || b) ≡ false → (a ≡ false) × (b ≡ false)
neither true b none = cc
neither false b none = (refl, none)

-- a pool where no event waits hands out none
none_got : (place : ℕ) (p : EventPool) → has_waiting p ≡ false → may_get place p ≡ false
none_got place p none =
    rw (none_first p.lists.waiting (nat_lt (place - p.first) (length p.lists.held))
    (is_none (holding (place - p.first) p.lists.held)) none) (and_false (nat_le p.first place))

none_handed : (place : ℕ) (ps : List EventPool) → list_any has_waiting ps ≡ false → map (handed_by place) ps ≡ ps
none_handed place [] none = refl
none_handed place (p ∷ ps) none =
    let both = neither (has_waiting p) (list_any has_waiting ps) none in
    rw (none_got place p both.0, none_handed place ps both.1) refl

none_told : (place : ℕ) (ps : List EventPool) → list_any has_waiting ps ≡ false → list_any (may_get place) ps ≡ false
none_told place [] none = refl
none_told place (p ∷ ps) none =
    let both = neither (has_waiting p) (list_any has_waiting ps) none in
    rw (none_got place p both.0, none_told place ps both.1) refl

none_ordered : (server : List ℕ) (run : Run) (place : ℕ) (ps : List EventPool) → list_any has_waiting ps ≡ false
    → flat_map (orders_to server run place) ps ≡ []
none_ordered server run place [] none = refl
none_ordered server run place (p ∷ ps) none =
    let both = neither (has_waiting p) (list_any has_waiting ps) none in
    rw (none_got place p both.0, none_ordered server run place ps both.1) refl

none_sent : (found : Option Run) (c : ℕ) (w : World) → some_wait w.pools ≡ false → sends_to found c w ≡ w
none_sent None c w none = refl
none_sent (Some run) c w none =
    rw (
      none_handed (id_of c) w.pools.each none,
      none_told (id_of c) w.pools.each none,
      none_ordered w.config.identifier run (id_of c) w.pools.each none,
      append-nil w.given,
    ) refl

pub none_from : (n c : ℕ) (w : World) → some_wait w.pools ≡ false → hands_from n c w ≡ w
none_from zero c w none = refl
none_from (suc n) c w none =
    ap (hands_from n (c + 1)) (none_sent (ready_of (slice_get w.children.all c) w.runs) c w none) ∙ none_from n (c + 1) w none

-- where no event waits, step 7 changes nothing
pub none_out : (x : Machine) (wait : Bool) → ((pools : EventPools) → kept.StandsFor x.pools pools → wait ≡ some_wait pools)
    → wait ≡ false → Makes hands_out x x
none_out x wait told none = made hands_out x x (λ older pools runs streams links calls kept_pools kept_runs kept_streams kept_links kept_calls.
    subst (λ (v : World). Shows x older v)
    (sym (none_from (length x.children.all - 0) 0 (shown x older pools runs streams links calls) (sym (told pools kept_pools) ∙ none)))
    (record { pools = pools; runs = runs; is = refl; pools_kept = kept_pools; runs_kept = kept_runs; streams = streams; streams_kept = kept_streams; links = links; links_kept = kept_links; calls = calls; calls_kept = kept_calls }))
