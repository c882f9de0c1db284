use Rattle.std.proofs.Common.{◌≡◌, ◌+◌, [], length}
use Rattle.std.proofs.Common.{take, drop}
use Rattle.sv_conf.specs.Duplicates.{first_twice}
use Rattle.sv_conf.proofs.duplicates.first_of_few.Given as goal

abbrev pub invariant-loop-left : goal.invariant-loop-left
invariant-loop-left l = record {
  same : first_twice (take l.place l.members) l.left ≡ first_twice [] l.members;
  rest : l.left ≡ drop l.place l.members;
  few : l.place + length l.left ≡ length l.members;
}

abbrev pub decreases-loop-left : goal.decreases-loop-left
decreases-loop-left l = length l.left
