use Rattle.std.proofs.Common.{◌≡◌, ◌+◌, length}
use Rattle.sv_children.specs.Rewound.{rewound_from}
use Rattle.sv_groups.specs.StartOrder.{processes}
use Rattle.sv_children.proofs.rewind.rewind_all.Given as goal

abbrev pub invariant-loop-left : goal.invariant-loop-left
invariant-loop-left l = record {
  places : l.next + length (processes l.left) ≡ length (processes l.groups);
  goes : rewound_from l.at (processes l.left) l.next l.children ≡ rewound_from l.at (processes l.groups) 0 l.initial.children;
}

abbrev pub decreases-loop-left : goal.decreases-loop-left
decreases-loop-left l = length l.left
