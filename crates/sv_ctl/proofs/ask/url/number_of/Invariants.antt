use Rattle.std.proofs.Common.{◌≡◌, ◌≤◌, length}
use Rattle.sv_ctl.specs.Ask.ServerUrl.{digits_from}
use Rattle.sv_ctl.proofs.ask.url.number_of.Given as goal

abbrev pub invariant-loop-left : goal.invariant-loop-left
invariant-loop-left l = record {
  same : digits_from l.number l.left ≡ digits_from 0 l.digits;
  small : l.number ≤ 65535;
}

abbrev pub decreases-loop-left : goal.decreases-loop-left
decreases-loop-left l = length l.left
