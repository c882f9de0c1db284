use Rattle.std.proofs.Common.{◌≡◌, length}
use Rattle.sv_core.specs.Openings.{server_of}
use Rattle.sv_core.proofs.openings.server_of.Given as goal

abbrev pub invariant-loop-left : goal.invariant-loop-left
invariant-loop-left l = server_of l.side l.servers ≡ server_of l.side l.left

abbrev pub decreases-loop-left : goal.decreases-loop-left
decreases-loop-left l = length l.left
