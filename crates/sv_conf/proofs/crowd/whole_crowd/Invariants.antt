use Rattle.std.proofs.Common.{◌≡◌, ◌≤◌, ◌+◌, length}
use Rattle.sv_conf.specs.Crowds.{crowd_after, crowd_with, whole_crowd}
use Rattle.sv_sections.specs.Programs.Homes.{all_named}
use Rattle.sv_conf.proofs.crowd.whole_crowd.Given as goal

abbrev pub invariant-loop-left : goal.invariant-loop-left
invariant-loop-left l = record {
  same : crowd_after l.host l.common (all_named l.host l.sections) l.place (crowd_with l.parts.items l.room) l.left ≡ whole_crowd l.host l.common l.sections;
  few : l.place + length l.left ≤ length l.sections;
}

abbrev pub decreases-loop-left : goal.decreases-loop-left
decreases-loop-left l = length l.left
