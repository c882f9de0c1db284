use Rattle.std.proofs.Common.{◌≡◌, ◌≤◌, length}
use Rattle.sv_xmlcall.specs.Simple.{behind_run}
use Rattle.sv_xmlcall.proofs.simple.behind_run.Given as goal

abbrev pub invariant-loop-rest : goal.invariant-loop-rest
invariant-loop-rest l = record { read : behind_run l.rest ≡ behind_run l.bytes; shorter : length l.rest ≤ length l.bytes }

abbrev pub decreases-loop-rest : goal.decreases-loop-rest
decreases-loop-rest l = length l.rest
