use Rattle.std.proofs.Common.{◌≡◌, map}
use Rattle.sv_sections.specs.Programs.Processes.{spec_of}
use Rattle.sv_sections.proofs.programs.processes.all_specs.Given as goal

abbrev pub invariant-loop-draft : goal.invariant-loop-draft
invariant-loop-draft l = l.specs ≡ map (spec_of l.common l.listener l.group l.priority) l.yielded
