use Rattle.std.proofs.Common.{◌≡◌, ◌≤◌, length}
use Rattle.sv_xmlcall.specs.Simple.{awaits_behind, behind_wide}
use Rattle.sv_xmlcall.proofs.content.behind_wide.Given as goal

abbrev pub invariant-loop-rest : goal.invariant-loop-rest
invariant-loop-rest l = record {
  next : awaits_behind l.next l.rest ≡ awaits_behind l.fn.awaits l.bytes;
  behind : behind_wide l.next l.rest ≡ behind_wide l.fn.awaits l.bytes;
  shorter : length l.rest ≤ length l.bytes;
}

abbrev pub decreases-loop-rest : goal.decreases-loop-rest
decreases-loop-rest l = length l.rest
