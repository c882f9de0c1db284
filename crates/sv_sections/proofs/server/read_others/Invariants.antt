use Rattle.std.proofs.Common.{◌≡◌, length}
use Rattle.sv_sections.specs.ServerSections.{after_sections, first_others}
use Rattle.sv_keys.specs.KnownNames.{host_names}
use Rattle.sv_sections.proofs.server.read_others.Given as goal

abbrev pub invariant-loop-left : goal.invariant-loop-left
invariant-loop-left l = after_sections (host_names l.host) l.others l.left ≡ after_sections (host_names l.host) first_others l.sections

abbrev pub decreases-loop-left : goal.decreases-loop-left
decreases-loop-left l = length l.left
