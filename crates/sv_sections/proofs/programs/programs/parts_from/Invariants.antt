use Rattle.std.proofs.Common.{◌≡◌, [], length, Ok}
use Rattle.sv_sections.specs.Programs.Programs.{parts_from}
use Rattle.sv_sections.proofs.programs.programs.parts_from.Given as goal

abbrev pub invariant-loop-left : goal.invariant-loop-left
invariant-loop-left l = parts_from l.host l.common l.listener l.program l.keys l.done l.left ≡ parts_from l.host l.common l.listener l.program l.keys (Ok []) l.homes

abbrev pub decreases-loop-left : goal.decreases-loop-left
decreases-loop-left l = length l.left
