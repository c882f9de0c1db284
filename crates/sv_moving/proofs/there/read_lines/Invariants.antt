use Rattle.std.proofs.Common.{◌≡◌, ◌+◌, ◌≤◌, length}
use Rattle.std.specs.List.{slice_split}
use Rattle.sv_moving.specs.Lines.{is_feed}
use Rattle.sv_moving.specs.Reading.{after_lines}
use Rattle.sv_moving.proofs.there.read_lines.Given as goal

abbrev pub invariant-loop-cut : goal.invariant-loop-cut
invariant-loop-cut l = record {
  same : after_lines l.reader (slice_split is_feed l.left) ≡ after_lines l.initial.reader (slice_split is_feed l.text);
  lines : l.reader.spot.line + length l.left ≤ length l.text;
  blanks : l.reader.blanks + length l.left ≤ length l.text;
}

abbrev pub decreases-loop-cut : goal.decreases-loop-cut
decreases-loop-cut l = length l.left
