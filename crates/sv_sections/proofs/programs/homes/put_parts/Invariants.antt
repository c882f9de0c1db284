use Rattle.std.proofs.Common.{◌≡◌}
use Rattle.sv_sections.specs.Programs.Homes.{with_parts}
use Rattle.sv_sections.proofs.programs.homes.put_parts.Given as goal

abbrev pub invariant-loop-part : goal.invariant-loop-part
invariant-loop-part l = l.parts.items ≡ with_parts l.initial.parts.items l.yielded
