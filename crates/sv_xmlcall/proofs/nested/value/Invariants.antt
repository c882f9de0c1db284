use Rattle.std.proofs.Common.{◌≡◌, ◌≤◌, ◌∷◌, [], length}
use Rattle.sv_xmlcall.specs.Machine.{Frame, run, the_limits}
use Rattle.sv_xmlcall.specs.Stages.{Before, stage_view, frames_on}
use Rattle.sv_xmlcall.specs.Turns.{stand}
use Rattle.sv_xmlcall.proofs.nested.value.Given as goal

abbrev pub invariant-loop-read : goal.invariant-loop-read
invariant-loop-read l = record {
  reads : (frame : Frame) → run the_limits (stand (stage_view l.stage) (frames_on (frame ∷ []) l.stack.items) l.opened) l.rest ≡ run the_limits (stand Before (frame ∷ []) l.initial.opened) l.bytes;
  shorter : length l.rest ≤ length l.bytes;
}

abbrev pub decreases-loop-read : goal.decreases-loop-read
decreases-loop-read l = length l.rest
