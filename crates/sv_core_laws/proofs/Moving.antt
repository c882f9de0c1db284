-- A step of a child with what is done for it, in one: its edges, and the signal or the spawn that it asks for.
use Rattle.std.proofs.Common.{ℕ, Bool, true, false, Option, Some, None, if◌then◌else◌}
use Rattle.std.specs.Prelude.{nat_le, codes}
use Rattle.sv_base.specs.declared.ids.LinkId.{LinkId}
use Rattle.sv_base.specs.declared.signal.Signal.{Signal}
use Rattle.sv_base.specs.declared.state.How.{How}
use Rattle.sv_child.specs.ChildTable.{Stimulus}
use Rattle.sv_child.specs.declared.step.ChildDeed.{ChildDeed}
use Rattle.sv_child.specs.declared.step.ChildDeed.TheVariants.{Spawn, Kill}
use Rattle.sv_child.specs.declared.child.Child.{Child}
use Rattle.sv_children.specs.News.{deed_of, step_of, stimulus_of}
use Rattle.sv_children.specs.Orders.{spawn_at}
use Rattle.sv_children.specs.declared.news.News.{News}
use Rattle.sv_children.specs.declared.news.News.TheVariants as news_is
use Rattle.sv_core.specs.Logging.{notes_if}
use Rattle.sv_core.specs.Moves.{comes, fails, kills, moves, orders_spawn, says}
use Rattle.sv_core.specs.World.{World}
use Rattle.sv_core.specs.declared.part.Reply.TheVariants.{Refused}
use Rattle.sv_out.specs.declared.order.SpawnOrder.{SpawnOrder}
use Rattle.sv_children.specs.Lines.EdgeLines.{how_of, killing_at}
use Rattle.sv_calls.specs.declared.setback.Setback.{Setback}
use Rattle.sv_calls.specs.declared.setback.Setback.TheVariants as setback
use Rattle.sv_core.specs.Requests.{start_fails, tells_call}
use Rattle.sv_core_laws.proofs.Answering.{Answering, kept_answered, kept_notes}

-- ---- what is done for a child after its step, up to the question of its spawn

-- a spawn is ordered
abbrev pub spawn_begun_as : Option SpawnOrder → World → World
spawn_begun_as None w = w
spawn_begun_as (Some spawning) w = orders_spawn spawning w

-- while a number is left for its run
abbrev pub spawn_begun : ℕ → World → World
spawn_begun c w = if nat_le w.next_run 4294967295 then spawn_begun_as (spawn_at w.children c w.next_run) w else fails c w

-- what is to be done is begun
abbrev pub acts : Option ChildDeed → ℕ → World → World
acts None c w = w
acts (Some (Kill signal group)) c w = kills c signal group w
acts (Some Spawn) c w = spawn_begun c w

-- news come to the child of a place
abbrev pub met : News → ℕ → World → World
met news c w =
    let answer = says (stimulus_of news) c w in
    let v = moves (how_of news) c answer w in
    acts (deed_of (step_of answer)) c (notes_if (killing_at news (deed_of (step_of answer)) v.children c) v)

-- the same of a start for the call of a link
abbrev pub call_spawn_begun : LinkId → ℕ → World → World
call_spawn_begun link c w =
    if nat_le w.next_run 4294967295 then spawn_begun_as (spawn_at w.children c w.next_run) w else start_fails link c w

abbrev pub start_acts : LinkId → Option ChildDeed → ℕ → World → World
start_acts link None c w = w
start_acts link (Some Spawn) c w = call_spawn_begun link c w
start_acts link (Some (Kill signal group)) c w = w

abbrev pub start_met : LinkId → ℕ → World → World
start_met link c w =
    let answer = says (stimulus_of news_is.Start) c w in
    start_acts link (deed_of (step_of answer)) c (moves None c answer w)

-- ---- it is kept by a relation that keeps its parts

pub record Moving (R : World → World → Type 0) : Type 0 where
  pub answering : Answering R
  pub moved : (how : Option How) (stimulus : Child → Option Stimulus) (c : ℕ) (w : World) → R w (comes how stimulus c w)
  pub killed : (c : ℕ) (signal : Signal) (group : Bool) (w : World) → R w (kills c signal group w)
  pub ordered : (spawning : SpawnOrder) (w : World) → R w (orders_spawn spawning w)
  pub set_back : (link : LinkId) (setback : Setback) (w : World) → R w (tells_call link (Some setback) w)

module _ (R : World → World → Type 0) (m : Moving R) where
  kept_begun_as : (spawning : Option SpawnOrder) (w : World) → R w (spawn_begun_as spawning w)
  kept_begun_as None w = m.answering.same w
  kept_begun_as (Some spawning) w = m.ordered spawning w

  kept_begun : (c : ℕ) (w : World) → R w (spawn_begun c w)
  kept_begun c w = by_number (nat_le w.next_run 4294967295) where
    by_number : (b : Bool) → R w (if b then spawn_begun_as (spawn_at w.children c w.next_run) w else fails c w)
    by_number true = kept_begun_as (spawn_at w.children c w.next_run) w
    by_number false = kept_answered R m.answering c (record { 0 = 0 }) (Refused (codes "failed")) w

  kept_acts : (deed : Option ChildDeed) (c : ℕ) (w : World) → R w (acts deed c w)
  kept_acts None c w = m.answering.same w
  kept_acts (Some (Kill signal group)) c w = m.killed c signal group w
  kept_acts (Some Spawn) c w = kept_begun c w

  pub kept_met : (news : News) (c : ℕ) (w : World) → R w (met news c w)
  kept_met news c w =
      let answer = says (stimulus_of news) c w in
      let deed = deed_of (step_of answer) in
      let v = moves (how_of news) c answer w in
      let u = notes_if (killing_at news deed v.children c) v in
      m.answering.follow w v (met news c w) (m.moved (how_of news) (stimulus_of news) c w)
      (m.answering.follow v u (met news c w) (kept_notes R m.answering (killing_at news deed v.children c) v) (kept_acts deed c u))

  kept_start_fails : (link : LinkId) (c : ℕ) (w : World) → R w (start_fails link c w)
  kept_start_fails link c w =
      let v = fails c w in
      m.answering.follow w v (start_fails link c w) (kept_answered R m.answering c (record { 0 = 0 }) (Refused (codes "failed")) w)
      (m.set_back link setback.NotStarted v)

  kept_call_begun : (link : LinkId) (c : ℕ) (w : World) → R w (call_spawn_begun link c w)
  kept_call_begun link c w = by_number (nat_le w.next_run 4294967295) where
    by_number : (b : Bool) → R w (if b then spawn_begun_as (spawn_at w.children c w.next_run) w else start_fails link c w)
    by_number true = kept_begun_as (spawn_at w.children c w.next_run) w
    by_number false = kept_start_fails link c w

  kept_start_acts : (link : LinkId) (deed : Option ChildDeed) (c : ℕ) (w : World) → R w (start_acts link deed c w)
  kept_start_acts link None c w = m.answering.same w
  kept_start_acts link (Some Spawn) c w = kept_call_begun link c w
  kept_start_acts link (Some (Kill signal group)) c w = m.answering.same w

  pub kept_start_met : (link : LinkId) (c : ℕ) (w : World) → R w (start_met link c w)
  kept_start_met link c w =
      let answer = says (stimulus_of news_is.Start) c w in
      let v = moves None c answer w in
      m.answering.follow w v (start_met link c w) (m.moved None (stimulus_of news_is.Start) c w)
      (kept_start_acts link (deed_of (step_of answer)) c v)
