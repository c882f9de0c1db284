use Rattle.std.proofs.Common.{◌≡◌, length}
use Rattle.sv_sections.specs.ServerSections.{first_url, unix_url}
use Rattle.sv_sections.proofs.server.first_unix.Given as goal

abbrev pub invariant-loop-left : goal.invariant-loop-left
invariant-loop-left l = first_url unix_url l.left ≡ first_url unix_url l.servers

abbrev pub decreases-loop-left : goal.decreases-loop-left
decreases-loop-left l = length l.left
