use Rattle.std.proofs.Common.{◌≡◌, ◌+◌, ◌≤◌, length}
use Rattle.std.specs.Str.{IsUtf8}
use Rattle.sv_ini.specs.Lines.{lines_of}
use Rattle.sv_ini.specs.Sections.{after_lines, nothing_read}
use Rattle.sv_ini.proofs.sections.read_lines.Given as goal

abbrev pub invariant-loop-cut : goal.invariant-loop-cut
invariant-loop-cut l = record {
  same : after_lines l.number (lines_of l.left) l.reading ≡ after_lines 1 (lines_of l.text) nothing_read;
  few : l.number + length l.left ≤ length l.text + 1;
  valid : IsUtf8 l.left;
}

abbrev pub decreases-loop-cut : goal.decreases-loop-cut
decreases-loop-cut l = length l.left
