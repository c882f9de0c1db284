-- What is kept of the output of runs: each until both its pipes ended, and of it what its captures
-- keep.
use Rattle.std.specs.Prelude.{◌≡◌, ℕ, zero, suc, List, Option, Some, None}
use Rattle.std.specs.BTreeMap.{get}
use Rattle.std.specs.Ordering.{nat_cmp}
use Rattle.sv_pipes.specs.CapturePlaces.{StandsFor as CaptureStandsFor}
use Rattle.sv_pipes.specs.StreamCut.{decided_of}
use Rattle.sv_pipes.specs.declared.captured.Capture.{Capture}
use Rattle.sv_runs.specs.Streams.StreamBook.{StreamRecord, last_of, open_run}
use Rattle.sv_runs.specs.declared.streams.channel.Channel.{Channel}
use Rattle.sv_runs.specs.declared.streams.open_run.OpenRun.{OpenRun}
use Rattle.sv_runs.specs.declared.streams.streams.Streams.{Streams}

-- a capture is kept of a channel that has a limit, and of no other
abbrev pub IsCaptured : Option Capture → ℕ → List ℕ → Type 0
IsCaptured None zero stream = Unit {0}
IsCaptured (Some capture) (suc most) stream =
    CaptureStandsFor capture (suc most) stream (decided_of (suc most) stream)
IsCaptured other limit stream = ⊥

-- the value stands for a channel of this limit, on which these bytes came
abbrev pub ReadsChannel : Channel → ℕ → List ℕ → Type 0
ReadsChannel x limit stream = IsCaptured x.capture limit stream

-- what is kept of a run
pub record Keeps (x : OpenRun) (s : StreamRecord) : Type 0 where
  pub child : x.owner.child ≡ s.child
  pub pid : x.owner.pid ≡ s.pid
  pub redirect : x.redirect ≡ s.redirect
  pub out_ended : x.out_ended ≡ s.out_ended
  pub err_ended : x.err_ended ≡ s.err_ended
  pub out : ReadsChannel x.out s.out_limit s.out_bytes
  pub err : ReadsChannel x.err s.err_limit s.err_bytes

-- it is kept while a pipe is open, and nothing else is
abbrev pub IsKept : Option OpenRun → Option StreamRecord → Type 0
IsKept None None = Unit {0}
IsKept (Some x) (Some s) = Keeps x s
IsKept kept run = ⊥

-- the output of these runs is kept
abbrev pub StandsFor : Streams → List StreamRecord → Type 0
StandsFor x book =
    (number : ℕ) → IsKept (get nat_cmp x.open number) (open_run (last_of number book))
