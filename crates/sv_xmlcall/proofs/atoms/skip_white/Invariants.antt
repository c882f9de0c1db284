use Rattle.std.proofs.Common.{◌≡◌, ◌≤◌, length}
use Rattle.sv_xmlcall.specs.Atoms.{skip_white}
use Rattle.sv_xmlcall.proofs.atoms.skip_white.Given as goal

abbrev pub invariant-loop-rest : goal.invariant-loop-rest
invariant-loop-rest l = record { read : skip_white l.rest ≡ skip_white l.bytes; shorter : length l.rest ≤ length l.bytes }

abbrev pub decreases-loop-rest : goal.decreases-loop-rest
decreases-loop-rest l = length l.rest
