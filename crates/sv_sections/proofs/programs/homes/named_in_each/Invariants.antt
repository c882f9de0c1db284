use Rattle.std.proofs.Common.{◌≡◌, ◌++◌, length, map}
use Rattle.sv_sections.specs.Programs.Homes.{named_in}
use Rattle.sv_keys.specs.KnownNames.{host_names}
use Rattle.sv_sections.proofs.programs.homes.named_in_each.Given as goal

abbrev pub invariant-loop-left : goal.invariant-loop-left
invariant-loop-left l = l.named ++ map (named_in (host_names l.host)) l.left ≡ map (named_in (host_names l.host)) l.sections

abbrev pub decreases-loop-left : goal.decreases-loop-left
decreases-loop-left l = length l.left
