use Rattle.std.proofs.Common.{◌≡◌, length}
use Rattle.sv_sections.specs.Programs.Programs.{need_numbers}
use Rattle.sv_sections.proofs.programs.programs.need_numbers.Given as goal

abbrev pub invariant-loop-left : goal.invariant-loop-left
invariant-loop-left l =
    need_numbers l.host l.program l.keys l.left ≡ need_numbers l.host l.program l.keys l.parts

abbrev pub decreases-loop-left : goal.decreases-loop-left
decreases-loop-left l = length l.left
