-- What becomes of one child in a turn, and which orders that gives (the manual's chapter on
-- subprocesses).
use Rattle.std.specs.Prelude.{ℕ, List, [], ◌∷◌, ◌++◌, Option, Some, None, Bool, false, is_some, ◌+◌}
use Rattle.std.specs.Prelude.{codes}
use Rattle.sv_base.specs.declared.ids.Run.{Run}
use Rattle.sv_base.specs.declared.signal.Signal.{Signal}
use Rattle.sv_base.specs.declared.state.How.{How}
use Rattle.sv_child.specs.ChildTable.{Stimulus}
use Rattle.sv_child.specs.Moves.{Answer}
use Rattle.sv_child.specs.declared.child.Child.{Child}
use Rattle.sv_child.specs.declared.step.Edge.{Edge}
use Rattle.sv_child.specs.declared.step.Step.{Step}
use Rattle.sv_children.specs.Crew.{Member, member_at}
use Rattle.sv_children.specs.News.{moved, said_at, step_of, stimulus_told}
use Rattle.sv_children.specs.Orders.{kill_at, reports_at}
use Rattle.sv_children.specs.declared.news.Told.{Told}
use Rattle.sv_children.specs.declared.news.Told.TheVariants as told
use Rattle.sv_core.specs.Events.{offers_if}
use Rattle.sv_core.specs.Logging.{notes_if}
use Rattle.sv_core.specs.World.{World}
use Rattle.sv_core.specs.declared.part.Reply.{Reply}
use Rattle.sv_core.specs.declared.part.Reply.TheVariants.{Started, NoFile, NotExecutable, Refused}
use Rattle.sv_children.specs.EdgeFacts.{fact_at, kind_of, pid_at}
use Rattle.sv_children.specs.Lines.EdgeLines.{line_at, spawned_at}
use Rattle.sv_out.specs.declared.order.Order.TheVariants as order
use Rattle.sv_out.specs.declared.order.SpawnOrder.{SpawnOrder}
use Rattle.sv_runs.specs.RunBook.{begun}
use Rattle.sv_runs.specs.Streams.StreamBook as output

-- what the table says to the child of a place, at the moment and in the mood of the turn
abbrev pub says : (Child → Option Stimulus) → ℕ → World → Option Answer
says stimulus c w = said_at stimulus c w.course.mood w.moment w.children

-- the child is past its step
abbrev pub changed : ℕ → Option Answer → World → World
changed c answer w = record w { children = moved c answer w.children }

-- an edge that it took is reported, then its line written to the main log, and then its event
-- offered; the process ended so where an exit was the cause, and had this number before
abbrev pub goes_edge : Option How → ℕ → ℕ → Edge → World → World
goes_edge how c pid edge w =
    let told = record w { given = w.given ++ reports_at w.children c (Some edge ∷ []) } in
    offers_if (kind_of edge.to) (fact_at w.children c pid edge)
    (notes_if (line_at w.children c how edge) told)

-- if it took one
abbrev pub goes_edge_if : Option How → ℕ → ℕ → Option Edge → World → World
goes_edge_if how c pid None w = w
goes_edge_if how c pid (Some edge) w = goes_edge how c pid edge w

-- and so edge by edge
abbrev pub goes_edges : Option How → ℕ → ℕ → List (Option Edge) → World → World
goes_edges how c pid [] w = w
goes_edges how c pid (edge ∷ edges) w = goes_edges how c pid edges (goes_edge_if how c pid edge w)

-- the edges of the step that it took, if it took one
abbrev pub reported : Option How → ℕ → ℕ → Option Step → World → World
reported how c pid None w = w
reported how c pid (Some step) w = goes_edges how c pid step.edges w

-- the child is past its step, and its edges are reported, with their events
abbrev pub moves : Option How → ℕ → Option Answer → World → World
moves how c answer w = reported how c (pid_at w.children c) (step_of answer) (changed c answer w)

-- a stimulus comes to the child of a place, if it concerns it
abbrev pub comes : Option How → (Child → Option Stimulus) → ℕ → World → World
comes how stimulus c w = moves how c (says stimulus c w) w

-- the run of a child is sent a signal
abbrev pub kills : ℕ → Signal → Bool → World → World
kills c signal group w = record w { given = w.given ++ kill_at w.children c signal group }

-- a spawn is ordered, and the run numbered
abbrev pub orders_spawn : SpawnOrder → World → World
orders_spawn spawning w =
    record w { given = w.given ++ order.Spawn spawning ∷ []; next_run = w.next_run + 1 }

-- what a child is told of its spawn, with the fault text of each refusal
abbrev pub told_of : Reply → Told
told_of (Started pid) = told.Started pid
told_of NoFile = told.NotStarted (codes "can't find command")
told_of NotExecutable = told.NotStarted (codes "command is not executable")
told_of (Refused text) = told.NotStarted text
told_of reply = told.NotStarted (codes "failed")

-- the process of a place is a listener
abbrev pub is_listener_of : Option Member → Bool
is_listener_of None = false
is_listener_of (Some m) = is_some m.group.pool

-- the number of the process that a spawn started
abbrev pub started_as : Reply → Option ℕ
started_as (Started pid) = Some pid
started_as reply = None

-- the output of a run begins, as the configuration says of its process
abbrev pub begins_output_of : ℕ → Run → ℕ → Option Member → World → World
begins_output_of c run pid None w = w
begins_output_of c run pid (Some m) w = record w {
  streams =
      output.begun run c pid m.spec.redirect_stderr m.spec.stdout.capture m.spec.stderr.capture
      w.streams;
}

-- the process of a place
abbrev pub begins_output : ℕ → Run → ℕ → World → World
begins_output c run pid w = begins_output_of c run pid (member_at w.children c) w

-- a run begins, and the main log gets its line
abbrev pub begins_run : ℕ → Run → ℕ → World → World
begins_run c run pid w =
    let is_listener = is_listener_of (member_at w.children c) in
    let begun = begins_output c run pid (record w { runs = begun run c pid is_listener w.runs }) in
    notes_if (spawned_at w.children c pid) begun

-- where the number of its process was told
abbrev pub begins_as : ℕ → Run → Option ℕ → World → World
begins_as c run None w = w
begins_as c run (Some pid) w = begins_run c run pid w

-- the spawn of a child is answered, after which nothing is to be done
abbrev pub answered : ℕ → Run → Reply → World → World
answered c run reply w =
    begins_as c run (started_as reply) (comes None (stimulus_told run (told_of reply)) c w)

-- no number is left for a run: the spawn fails by itself
abbrev pub fails : ℕ → World → World
fails c w = answered c (record { 0 = 0 }) (Refused (codes "failed")) w
