-- The small steps that the answer of a spawn takes, and the line of a step in the main log.
use Rattle.std.proofs.Common.{ℕ, List, Bool, true, false, Option, Some, None, if◌then◌else◌, ◌≡◌, refl}
use Rattle.sv_base.specs.declared.ids.Run.{Run}
use Rattle.sv_base.specs.declared.state.How.{How}
use Rattle.sv_child.specs.ChildTable.{Stimulus}
use Rattle.sv_child.specs.declared.child.Child.{Child}
use Rattle.sv_base.specs.declared.spec.LogSpec.{LogSpec}
use Rattle.sv_children.specs.Crew.{Member, member_at}
use Rattle.sv_children.specs.News.{stimulus_of, stimulus_told, is_living_run}
use Rattle.sv_children.specs.declared.news.News.TheVariants as news_is
use Rattle.sv_core.specs.Logging.{logs, logs_if, notes_if}
use Rattle.sv_core.specs.Moves.{answered, begins_as, begins_output, begins_output_of, comes, is_listener_of, started_as, told_of}
use Rattle.sv_core.specs.World.{World}
use Rattle.sv_core.specs.declared.part.Reply.{Reply}
use Rattle.sv_children.specs.Lines.EdgeLines.{spawned_at}
use Rattle.sv_children.specs.Lines.Written.{written as line_bytes}
use Rattle.sv_children.specs.declared.lines.line.Line.{Line}
use Rattle.sv_runs.specs.RunBook.{RunBook, begun}
use Rattle.sv_runs.specs.Streams.StreamBook.{StreamRecord}
use Rattle.sv_child.specs.ChildTable.Stimulus.{Start, Time, Ended}
use Rattle.sv_children.specs.declared.news.Told.{Told}
use Rattle.sv_children.specs.declared.news.Told.TheVariants as told_is

-- a stimulus that may bring a child to STARTING
abbrev pub may_start : Option Stimulus → Bool
may_start (Some Start) = true
may_start (Some Time) = true
may_start other = false

abbrev pub NeverStarts : (Child → Option Stimulus) → Type 0
NeverStarts stimulus = (child : Child) → may_start (stimulus child) ≡ false

pub never_told : (run : Run) (told : Told) → NeverStarts (stimulus_told run told)
never_told run (told_is.Started pid) child = refl
never_told run (told_is.NotStarted fault) child = refl

pub never_exits : (run : Run) (how : How) → NeverStarts (stimulus_of (news_is.Exit run how))
never_exits run how child = by_run (is_living_run run child) where
  by_run : (b : Bool) → may_start (if b then Some (Ended how) else None) ≡ false
  by_run true = refl
  by_run false = refl

-- these are kept by the relation
pub record Answering (R : World → World → Type 0) : Type 0 where
  pub same : (w : World) → R w w
  pub follow : (u v w : World) → R u v → R v w → R u w
  pub came : (how : Option How) (stimulus : Child → Option Stimulus) (c : ℕ) (w : World) → NeverStarts stimulus → R w (comes how stimulus c w)
  pub booked : (runs : RunBook) (w : World) → R w (record w { runs = runs })
  pub logged : (log : LogSpec) (piece : List ℕ) (w : World) → R w (logs log piece w)
  pub written : (streams : List StreamRecord) (w : World) → R w (record w { streams = streams })

module _ (R : World → World → Type 0) (s : Answering R) where
  kept_logs_if : (log : LogSpec) (bytes : Option (List ℕ)) (w : World) → R w (logs_if log bytes w)
  kept_logs_if log None w = s.same w
  kept_logs_if log (Some bytes) w = s.logged log bytes w

  pub kept_notes : (line : Option Line) (w : World) → R w (notes_if line w)
  kept_notes None w = s.same w
  kept_notes (Some line) w = kept_logs_if w.config.main (line_bytes w.config.level w.moment line) w

  kept_output : (c : ℕ) (run : Run) (pid : ℕ) (m : Option Member) (w : World) → R w (begins_output_of c run pid m w)
  kept_output c run pid None w = s.same w
  kept_output c run pid (Some m) w = s.written (begins_output_of c run pid (Some m) w).streams w

  kept_begins : (c : ℕ) (run : Run) (started : Option ℕ) (w : World) → R w (begins_as c run started w)
  kept_begins c run None w = s.same w
  kept_begins c run (Some pid) w =
      let book = begun run c pid (is_listener_of (member_at w.children c)) w.runs in
      let u = record w { runs = book } in
      let v = begins_output c run pid u in
      s.follow w u (begins_as c run (Some pid) w) (s.booked book w)
      (s.follow u v (begins_as c run (Some pid) w) (kept_output c run pid (member_at w.children c) u)
      (kept_notes (spawned_at w.children c pid) v))

  pub kept_answered : (c : ℕ) (run : Run) (reply : Reply) (w : World) → R w (answered c run reply w)
  kept_answered c run reply w =
      let v = comes None (stimulus_told run (told_of reply)) c w in
      s.follow w v (begins_as c run (started_as reply) v) (s.came None (stimulus_told run (told_of reply)) c w (never_told run (told_of reply)))
      (kept_begins c run (started_as reply) v)
