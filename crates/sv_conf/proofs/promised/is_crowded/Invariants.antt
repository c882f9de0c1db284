use Rattle.std.proofs.Common.{◌≡◌, ◌≤◌, ◌+◌, length}
use Rattle.sv_conf.specs.Promised.{room_after}
use Rattle.sv_sections.specs.Programs.Homes.{all_named}
use Rattle.sv_conf.proofs.promised.is_crowded.Given as goal

abbrev pub invariant-loop-left : goal.invariant-loop-left
invariant-loop-left l = record {
  same : room_after l.host (all_named l.host l.sections) l.place l.left l.room ≡ room_after l.host (all_named l.host l.sections) 0 l.sections 1025;
  few : l.place + length l.left ≤ length l.sections;
}

abbrev pub decreases-loop-left : goal.decreases-loop-left
decreases-loop-left l = length l.left
