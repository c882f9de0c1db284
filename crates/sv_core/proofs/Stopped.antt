-- Stops and the stop plan, on the worlds that the machine shows.
use Rattle.std.proofs.Common.{◌≡◌, ℕ, suc, List, Option, None, ◌+◌, ◌-◌, ◌<◌, true, false, if◌then◌else◌, arith, refl, subst, sym, ap, ◌∙◌}
use Rattle.sv_child.specs.declared.step.ChildDeed.{ChildDeed}
use Rattle.sv_children.specs.News.{deed_of, step_of, stimulus_of}
use Rattle.sv_child.specs.Moves.{is_running}
use Rattle.sv_children.specs.Spans.{are_at_rest}
use Rattle.sv_children.specs.declared.news.News.TheVariants as news_is
use Rattle.sv_core.specs.Moves.{comes, says}
use Rattle.sv_core.specs.Shutdown.{tells_group, has_come_to_rest, drops_group, follows_plan, moves_on}
use Rattle.sv_core.specs.StandsFor.{Shows}
use Rattle.sv_core.specs.Stops.{signals, stops, stops_from}
use Rattle.sv_core.specs.World.{World}
use Rattle.sv_core.specs.declared.course.Course.{Course}
use Rattle.sv_core.specs.declared.machine.Machine.{Machine}
use Rattle.sv_groups.specs.StartOrder.{next_to_stop, span_of}
use Rattle.sv_out.specs.declared.order.Order.{Order}

-- what is made of a world is made of one that the machine shows
pub record Reaches (x : Machine) (older : List Order) (u : World) (f : World → World) : Type 0 where
  pub world : World
  pub shows : Shows x older world
  pub is : u ≡ f world

-- a stop came to a child, and what it asks for is signalled
pub stopped_there : (z : Machine) (older : List Order) (c : ℕ) (w : World) (deed : Option ChildDeed)
    → deed ≡ deed_of (step_of (says (stimulus_of news_is.Stop) c w))
    → Shows z older (signals deed c (comes None (stimulus_of news_is.Stop) c w))
    → Shows z older (stops c w)
stopped_there z older c w deed is shows =
    subst (λ (d : Option ChildDeed). Shows z older (signals d c (comes None (stimulus_of news_is.Stop) c w))) is shows

pub stops_next : (from left : ℕ) (w : World) → 0 < left
    → stops_from from left w ≡ stops_from from (left - 1) (stops (from + (left - 1)) w)
stops_next from left w some =
    let size : left ≡ suc (left - 1) = omega arith in ap (λ n. stops_from from n w) size

-- the last group is told, and when it is at rest the plan goes on with the one before
pub plan_next : (left last : ℕ) (w : World) → 0 < left → last ≡ next_to_stop left
    → has_come_to_rest last (tells_group last w) ≡ true
    → moves_on left w ≡ moves_on last (drops_group last (tells_group last w))
plan_next left last w some is rests =
    let size : left ≡ suc last = omega (arith, some, is) in
    ap (λ n. moves_on n w) size ∙ rw rests refl

-- else the plan waits
pub plan_waits : (left last : ℕ) (w : World) → 0 < left → last ≡ next_to_stop left
    → has_come_to_rest last (tells_group last w) ≡ false
    → moves_on left w ≡ tells_group last w
plan_waits left last w some is rests =
    let size : left ≡ suc last = omega (arith, some, is) in
    ap (λ n. moves_on n w) size ∙ rw rests refl

-- whether a group has come to rest is told by the machine's children
pub rests_there : (y : Machine) (older : List Order) (w : World) (group : ℕ) → Shows y older w
    → has_come_to_rest group w ≡ are_at_rest (span_of group y.children.roster) y.children.all
rests_there y older w group s = ap (has_come_to_rest group) s.is

-- a group is done with
pub dropped_there : (y : Machine) (older : List Order) (w : World) (left : ℕ) → Shows y older w
    → Shows (record y { course = record y.course { left = left; is_told = false } }) older (drops_group left w)
dropped_there y older w left s = record { pools = s.pools; runs = s.runs; is = ap (drops_group left) s.is; pools_kept = s.pools_kept; runs_kept = s.runs_kept; streams = s.streams; streams_kept = s.streams_kept; links = s.links; links_kept = s.links_kept; calls = s.calls; calls_kept = s.calls_kept }

-- while the daemon ends, the plan goes on
pub plan_left : (x y : Machine) (older : List Order) (w u : World) → Shows x older w → is_running x.course.mood ≡ false
    → moves_on x.course.left w ≡ u → Shows y older u → Shows y older (follows_plan w)
plan_left x y older w u s ending is shows =
    let same : follows_plan w ≡ (if is_running x.course.mood then w else moves_on x.course.left w) =
    ap (λ (course : Course). if is_running course.mood then w else moves_on course.left w) (ap (λ (v : World). v.course) s.is) in
    subst (λ (v : World). Shows y older v) (sym (same ∙ rw ending is)) shows
