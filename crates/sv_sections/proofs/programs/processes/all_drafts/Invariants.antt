use Rattle.std.proofs.Common.{◌≡◌, ◌≤◌, ◌+◌}
use Rattle.sv_sections.specs.Programs.Processes.{drafts_from}
use Rattle.sv_sections.proofs.programs.processes.all_drafts.Given as goal

abbrev pub invariant-loop-left : goal.invariant-loop-left
invariant-loop-left l = record { same : drafts_from l.listener l.program l.keys l.known l.count l.done l.process l.left ≡ drafts_from l.listener l.program l.keys l.initial.known l.count l.initial.done l.initial.process l.initial.left; few : l.process + l.left ≤ 1001024 }

abbrev pub decreases-loop-left : goal.decreases-loop-left
decreases-loop-left l = l.left
