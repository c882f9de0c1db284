-- A turn in which nothing is left to do after its ticks.
use Rattle.std.proofs.Common.{◌≡◌, ◌∙◌, ℕ, zero, suc, ◌+◌, ◌-◌, true, false, [], List, None, Option, length, refl, ap, sym, subst, arith}
use Rattle.sv_base.specs.declared.ids.LinkId.{LinkId}
use Rattle.sv_child.specs.Moves.{is_running}
use Rattle.sv_children.specs.Awake.{NoneAwake}
use Rattle.sv_children.specs.Crew.{member_at}
use Rattle.sv_children.specs.declared.news.News.TheVariants as news_is
use Rattle.sv_core.proofs.Unmoved.{none_from, passed}
use Rattle.sv_core.specs.HandingOut.{hands_out}
use Rattle.sv_core.specs.Serving.{serves_all}
use Rattle.sv_core.specs.Shutdown.{follows_plan, halts}
use Rattle.sv_core.specs.StandsFor.{At, Shows, rest, shown}
use Rattle.sv_core.specs.Sweeps.{Turn, passes_by, sweeps}
use Rattle.sv_core.specs.Sweeps.Turn.{Done}
use Rattle.sv_core.specs.Turn.{after_links, after_pass, passes}
use Rattle.sv_core.specs.World.{World}
use Rattle.sv_core.specs.declared.machine.Machine.{Machine}
use Rattle.sv_core.specs.declared.place.Suspended.{Suspended}
use Rattle.sv_links.specs.LinkBook.{LinkRecord, busy_links}
use Rattle.sv_links.specs.StandsFor as kept_links
use Rattle.sv_out.specs.declared.order.Order.{Order}
use Rattle.sv_pool.specs.EventPools.{EventPools}
use Rattle.sv_pool.specs.Listeners.{some_wait}
use Rattle.sv_pool.specs.StandsFor as kept_pools

-- time passes by all
none_swept : (n c : ℕ) (w : World) (k : World → Turn) → ((place : ℕ) → passes_by news_is.Time (member_at w.children place) w.moment ≡ true)
    → sweeps news_is.Time n c w k ≡ k w
none_swept zero c w k asleep = refl
none_swept (suc n) c w k asleep =
    passed news_is.Time c w (λ v. sweeps news_is.Time n (c + 1) v k) (asleep c) ∙ none_swept n (c + 1) w k asleep

nothing_left : (w : World) → ((to : ℕ) → NoneAwake w.moment w.children 0 to) → busy_links w.links ≡ [] → is_running w.course.mood ≡ true → some_wait w.pools ≡ false
    → passes w after_pass ≡ Done w
nothing_left w asleep idle running none =
    let stays : follows_plan w ≡ w = rw running refl in
    let goes_on : halts w ≡ w = rw running refl in
    none_swept (length w.children.all - 0) 0 w after_pass (λ place. rw (asleep (place + 1) place (omega arith) (omega arith)) refl)
    ∙ ap (λ (links : List LinkId). serves_all links w after_links) idle
    ∙ ap (λ (v : World). Done (halts (hands_out v))) stays
    ∙ ap (λ (v : World). Done (halts v)) (none_from (length w.children.all - 0) 0 w none)
    ∙ ap Done goes_on

-- the machine sees that nothing is left to do
pub rests_there : (x : Machine) → is_running x.course.mood ≡ true → ((book : List LinkRecord) → kept_links.StandsFor x.links book → busy_links book ≡ [])
    → ((pools : EventPools) → kept_pools.StandsFor x.pools pools → some_wait pools ≡ false) → ((to : ℕ) → NoneAwake x.hand.moment x.children 0 to)
    → (older : List Order) (w : World) → Shows x older w → passes w after_pass ≡ Done w
rests_there x running idle none asleep older w s =
    subst (λ (v : World). passes v after_pass ≡ Done v) (sym s.is)
    (nothing_left (shown x older s.pools s.runs s.streams s.links s.calls) asleep (idle s.links s.links_kept) running (none s.pools s.pools_kept))

-- the turn is done where it rests
pub rested : (x : Machine) (older : List Order) (w : World) → x.hand.place ≡ None → passes w after_pass ≡ Done w → Shows x older w
    → At x older (passes w after_pass) (rest x.hand.place)
unfolding rest
rested x older w none done s = record { world = w; shows = s; is = done ∙ ap (λ (place : Option Suspended). rest place w) (sym none) }
