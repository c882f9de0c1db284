-- Stopping children that are side by side, from the last of them to the first.
use Rattle.std.specs.Prelude.{ℕ, zero, suc, Option, Some, None, ◌+◌, ◌-◌}
use Rattle.sv_child.specs.declared.step.ChildDeed.{ChildDeed}
use Rattle.sv_child.specs.declared.step.ChildDeed.TheVariants.{Spawn, Kill}
use Rattle.sv_children.specs.News.{deed_of, step_of, stimulus_of}
use Rattle.sv_children.specs.declared.news.News.TheVariants as news_is
use Rattle.sv_core.specs.Moves.{says, moves, kills}
use Rattle.sv_core.specs.World.{World}
use Rattle.sv_groups.specs.declared.order.Span.{Span}

-- a stop has no deed but a signal
abbrev pub signals : Option ChildDeed → ℕ → World → World
signals (Some (Kill signal group)) c w = kills c signal group w
signals (Some Spawn) c w = w
signals None c w = w

-- the child of a place takes the step of a stop
abbrev pub stops : ℕ → World → World
stops c w =
    let answer = says (stimulus_of news_is.Stop) c w in signals (deed_of (step_of answer)) c
    (moves None c answer w)

-- so many children from this place on are stopped, the last of them first
abbrev pub stops_from : ℕ → ℕ → World → World
stops_from from zero w = w
stops_from from (suc left) w = stops_from from left (stops (from + left) w)

-- the children of a span
abbrev pub stops_all : Span → World → World
stops_all span w = stops_from span.from (span.to - span.from) w
