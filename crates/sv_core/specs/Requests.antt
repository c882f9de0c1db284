-- What a method that acts asks the daemon to do: its requests are carried out one after the other
-- (the manual's chapter on its XML-RPC interface, process control). The start of a process and the
-- clearing of a file are questions, at which the turn stops; what goes wrong with one is told to
-- the call.
use Rattle.std.specs.Prelude.{ℕ, zero, suc, List, [], ◌∷◌, Option, Some, None, Bool, true, false}
use Rattle.std.specs.Prelude.{nat_le, slice_get, if◌then◌else◌}
use Rattle.sv_base.specs.declared.ids.LinkId.{LinkId}
use Rattle.sv_base.specs.declared.ids.Run.{Run}
use Rattle.sv_base.specs.declared.kind.Kind.TheVariants as kind
use Rattle.sv_calls.specs.CallBook.{request_at, request_taken, set_back}
use Rattle.sv_calls.specs.declared.setback.Setback.{Setback}
use Rattle.sv_calls.specs.declared.setback.Setback.TheVariants as setback
use Rattle.sv_child.specs.declared.child.Child.{Child}
use Rattle.sv_child.specs.declared.step.ChildDeed.{ChildDeed}
use Rattle.sv_child.specs.declared.step.ChildDeed.TheVariants.{Spawn, Kill}
use Rattle.sv_children.specs.News.{deed_of, step_of, stimulus_of}
use Rattle.sv_children.specs.Orders.{spawn_at}
use Rattle.sv_children.specs.declared.news.News.TheVariants as news_is
use Rattle.sv_core.specs.Events.{offers}
use Rattle.sv_core.specs.Moves.{answered, fails, kills, moves, orders_spawn, says}
use Rattle.sv_core.specs.Shutdown.{begins_shutdown}
use Rattle.sv_core.specs.Stops.{stops}
use Rattle.sv_core.specs.Sweeps.{Turn}
use Rattle.sv_core.specs.Sweeps.Turn.{Ask}
use Rattle.sv_core.specs.World.{World, gives}
use Rattle.sv_core.specs.declared.part.Question.TheVariants as question
use Rattle.sv_core.specs.declared.part.Reply.{Reply}
use Rattle.sv_core.specs.declared.part.Reply.TheVariants as reply_is
use Rattle.sv_events.specs.declared.fact.Fact.TheVariants as fact
use Rattle.sv_logs.specs.Sizes.{cleared}
use Rattle.sv_methods.specs.declared.planned.Request.{Request}
use Rattle.sv_methods.specs.declared.planned.Request.TheVariants as request
use Rattle.sv_out.specs.declared.order.Order.TheVariants as order
use Rattle.sv_out.specs.declared.order.SpawnOrder.{SpawnOrder}

-- what went wrong with the request in hand is told to the call of a link, if something did
abbrev pub tells_call : LinkId → Option Setback → World → World
tells_call link None w = w
tells_call link (Some setback) w = record w { calls = set_back link setback w.calls }

-- ---- starts

-- what the answer of a spawn tells the call
abbrev pub start_setback : Reply → Option Setback
start_setback (reply_is.Started pid) = None
start_setback reply_is.NoFile = Some setback.NoFile
start_setback reply_is.NotExecutable = Some setback.NotExecutable
start_setback reply = Some setback.NotStarted

-- the spawn of a child for the call of a link is answered
abbrev pub start_answered : LinkId → ℕ → Run → Reply → World → World
start_answered link c run reply w =
    tells_call link (start_setback reply) (answered c run reply w)

-- it is asked for
unfoldable pub asks_start : LinkId → ℕ → Run → World → (World → Turn) → Turn
asks_start link c run w k = Ask w question.Spawn (λ v reply. k (start_answered link c run reply v))

-- the process of a place is to be started as the next run, if there is one
abbrev pub starts_as : LinkId → Option SpawnOrder → ℕ → World → (World → Turn) → Turn
starts_as link None c w k = k w
starts_as link (Some spawning) c w k =
    asks_start link c (record { 0 = w.next_run }) (orders_spawn spawning w) k

-- no number is left for a run
abbrev pub start_fails : LinkId → ℕ → World → World
start_fails link c w = tells_call link (Some setback.NotStarted) (fails c w)

-- its spawn is ordered, while a number is left for its run
abbrev pub spawns_for : LinkId → ℕ → World → (World → Turn) → Turn
spawns_for link c w k =
    if nat_le w.next_run 4294967295 then starts_as link (spawn_at w.children c w.next_run) c w k
    else k (start_fails link c w)

-- a start has no deed but a spawn
abbrev pub starts_deed : LinkId → ChildDeed → ℕ → World → (World → Turn) → Turn
starts_deed link Spawn c w k = spawns_for link c w k
starts_deed link (Kill signal group) c w k = k w

-- if it has one
abbrev pub starts_by : LinkId → Option ChildDeed → ℕ → World → (World → Turn) → Turn
starts_by link None c w k = k w
starts_by link (Some deed) c w k = starts_deed link deed c w k

-- the child of a place takes the step of a start
abbrev pub starts : LinkId → ℕ → World → (World → Turn) → Turn
starts link c w k =
    let answer = says (stimulus_of news_is.Start) c w in
    starts_by link (deed_of (step_of answer)) c (moves None c answer w) k

-- ---- writes

-- bytes are written to a run, where there is one
abbrev pub writes_run : Option Run → List ℕ → World → World
writes_run None bytes w = w
writes_run (Some run) bytes w = gives (order.Stdin run bytes) w

-- the run of a child that is there, if it has one
abbrev pub run_of : Option Child → Option Run
run_of None = None
run_of (Some child) = child.run

-- to the run of the child of a place
abbrev pub writes : ℕ → List ℕ → World → World
writes c bytes w = writes_run (run_of (slice_get w.children.all c)) bytes w

-- ---- clears

-- a file was cleared, or wasn't there
abbrev pub is_empty : Reply → Bool
is_empty reply_is.Done = true
is_empty reply_is.Missing = true
is_empty reply = false

-- then its known size is 0; where the clear failed nothing changes
abbrev pub empties_if : List ℕ → Bool → World → World
empties_if file true w = record w { sizes = cleared file w.sizes }
empties_if file false w = w

-- what the answer of a clear tells the call
abbrev pub clear_setback : Reply → Option Setback
clear_setback reply_is.Done = None
clear_setback reply_is.Missing = Some setback.NoLog
clear_setback reply = Some setback.NotCleared

-- the clear of a file for the call of a link is answered
abbrev pub clear_answered : LinkId → List ℕ → Reply → World → World
clear_answered link file reply w =
    tells_call link (clear_setback reply) (empties_if file (is_empty reply) w)

-- the clear of a file for the call of a link was asked for
unfoldable pub asks_clear : LinkId → List ℕ → World → (World → Turn) → Turn
asks_clear link file w k = Ask w question.Clear (λ v reply. k (clear_answered link file reply v))

-- a file is to be cleared
abbrev pub clears : LinkId → List ℕ → World → (World → Turn) → Turn
clears link file w k = asks_clear link file (gives (order.ClearFile file) w) k

-- these files, one after the other, whatever becomes of those before
abbrev pub clears_all : LinkId → List (List ℕ) → World → (World → Turn) → Turn
clears_all link [] w k = k w
clears_all link (file ∷ files) w k = clears link file w (λ v. clears_all link files v k)

-- ---- all requests

-- a request is carried out; a signal goes to the process alone
abbrev pub carries_request : LinkId → Request → World → (World → Turn) → Turn
carries_request link (request.Start child) w k = starts link child.0 w k
carries_request link (request.Stop child) w k = k (stops child.0 w)
carries_request link (request.Kill child signal) w k = k (kills child.0 signal false w)
carries_request link (request.Stdin child bytes) w k = k (writes child.0 bytes w)
carries_request link (request.Remote sort bytes) w k =
    k (offers kind.RemoteCommunication (fact.Remote sort bytes) w)
carries_request link (request.Clear files) w k = clears_all link files w k
carries_request link request.Shutdown w k = k (begins_shutdown w)

-- if there is one
abbrev pub carries_if : LinkId → Option Request → World → (World → Turn) → Turn
carries_if link None w k = k w
carries_if link (Some request) w k = carries_request link request w k

-- the next request of the call of a link is begun
abbrev pub does_next : LinkId → World → (World → Turn) → Turn
does_next link w k =
    carries_if link (request_at link w.calls) (record w { calls = request_taken link w.calls }) k

-- so many of them, one after the other
abbrev pub does_all : ℕ → LinkId → World → (World → Turn) → Turn
does_all zero link w k = k w
does_all (suc left) link w k = does_next link w (λ v. does_all left link v k)
