use Rattle.std.proofs.Common.{◌≡◌, ◌+◌, length}
use Rattle.sv_children.specs.Rewound.{rewound_from}
use Rattle.sv_children.proofs.rewind.rewind_members.Given as goal

abbrev pub invariant-loop-left : goal.invariant-loop-left
invariant-loop-left l = record {
  places : l.next + length l.left ≡ l.first + length l.members;
  goes : rewound_from l.at l.left l.next l.children ≡ rewound_from l.at l.members l.first l.initial.children;
}

abbrev pub decreases-loop-left : goal.decreases-loop-left
decreases-loop-left l = length l.left
