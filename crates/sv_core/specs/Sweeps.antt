-- News on their way over children that are side by side, in start order. A spawn is a question, at
-- which the turn stops.
use Rattle.std.specs.Prelude.{◌≡◌, ◌≤◌, ◌<◌, ℕ, zero, suc, Option, Some, None, Bool, true, false}
use Rattle.std.specs.Prelude.{not, ◌+◌, ◌-◌, length, nat_le, if◌then◌else◌}
use Rattle.sv_base.specs.declared.ids.Run.{Run}
use Rattle.sv_child.specs.declared.step.ChildDeed.{ChildDeed}
use Rattle.sv_child.specs.declared.step.ChildDeed.TheVariants.{Spawn, Kill}
use Rattle.sv_children.specs.Awake.{is_member_awake}
use Rattle.sv_children.specs.Crew.{Crew, Member, member_at}
use Rattle.sv_children.specs.News.{deed_of, step_of, stimulus_of}
use Rattle.sv_children.specs.Orders.{spawn_at}
use Rattle.sv_children.specs.declared.news.News.{News}
use Rattle.sv_children.specs.declared.news.News.TheVariants as news_is
use Rattle.sv_core.specs.Logging.{notes_if}
use Rattle.sv_core.specs.Moves.{says, moves, kills, orders_spawn, answered, fails}
use Rattle.sv_core.specs.World.{World}
use Rattle.sv_core.specs.declared.part.Question.{Question}
use Rattle.sv_core.specs.declared.part.Question.TheVariants as question
use Rattle.sv_core.specs.declared.part.Reply.{Reply}
use Rattle.sv_groups.specs.declared.order.Span.{Span}
use Rattle.sv_children.specs.Lines.EdgeLines.{how_of, killing_at}
use Rattle.sv_out.specs.declared.order.SpawnOrder.{SpawnOrder}

-- a turn that is done, or that stopped at a question of a kind and goes on with its answer, in the
-- world as it is then
pub data Turn : Type 0 where
  Done : World → Turn
  Ask : World → Question → (World → Reply → Turn) → Turn

-- the spawn of a child as this run is asked for, and answered before anything goes on
unfoldable pub asks : ℕ → Run → World → (World → Turn) → Turn
asks c run w k = Ask w question.Spawn (λ v reply. k (answered c run reply v))

-- the process of a place is to be started as the next run, if there is one
abbrev pub spawns_as : Option SpawnOrder → ℕ → World → (World → Turn) → Turn
spawns_as None c w k = k w
spawns_as (Some spawning) c w k = asks c (record { 0 = w.next_run }) (orders_spawn spawning w) k

-- the spawn of a child is ordered, while a number is left for its run
abbrev pub spawns : ℕ → World → (World → Turn) → Turn
spawns c w k =
    if nat_le w.next_run 4294967295 then spawns_as (spawn_at w.children c w.next_run) c w k
    else k (fails c w)

-- a signal is sent, or the spawn ordered
abbrev pub carries_out : ChildDeed → ℕ → World → (World → Turn) → Turn
carries_out (Kill signal group) c w k = k (kills c signal group w)
carries_out Spawn c w k = spawns c w k

-- what is to be done for a child after its step
abbrev pub does : Option ChildDeed → ℕ → World → (World → Turn) → Turn
does None c w k = k w
does (Some deed) c w k = carries_out deed c w k

-- what is to be done, with its line in the main log before it
abbrev pub does_noted : News → Option ChildDeed → ℕ → World → (World → Turn) → Turn
does_noted news deed c w k = does deed c (notes_if (killing_at news deed w.children c) w) k

-- news come to the child of a place: it takes its step, and what is to be done is done
abbrev pub meets : News → ℕ → World → (World → Turn) → Turn
meets news c w k =
    let answer = says (stimulus_of news) c w in
    does_noted news (deed_of (step_of answer)) c (moves (how_of news) c answer w) k

-- and so over the places that are left
abbrev pub sweeps : News → ℕ → ℕ → World → (World → Turn) → Turn
sweeps news zero c w k = k w
sweeps news (suc left) c w k = meets news c w (λ v. sweeps news left (c + 1) v k)

-- over the children of a span
abbrev pub sweeps_over : News → Span → World → (World → Turn) → Turn
sweeps_over news span w k = sweeps news (span.to - span.from) span.from w k

-- over all children
abbrev pub sweeps_all : News → World → (World → Turn) → Turn
sweeps_all news w k = sweeps news (length w.children.all - 0) 0 w k

-- the news pass by a child: time does so where it hasn't woken
abbrev pub passes_by : News → Option Member → ℕ → Bool
passes_by news_is.Time member now = not (is_member_awake member now)
passes_by news member now = false

-- they pass by each child from the one place to before the other
abbrev pub PassBy : News → ℕ → Crew → ℕ → ℕ → Type 0
PassBy news now crew from to =
    (place : ℕ) → from ≤ place → place < to → passes_by news (member_at crew place) now ≡ true

-- they may not pass by the child of this place, but do so by those before it
pub record IsMet (news : News) (now : ℕ) (crew : Crew) (from to place : ℕ) : Type 0 where
  pub after : from ≤ place
  pub within : place < to
  pub before : PassBy news now crew from place
