use Rattle.std.proofs.Common.{◌≡◌, length}
use Rattle.sv_xmlcall.specs.Tags.{tag_from, tag_at}
use Rattle.sv_xmlcall.proofs.tag.next_tag.Given as goal

abbrev pub invariant-loop-left : goal.invariant-loop-left
invariant-loop-left l = tag_from l.left l.least l.bytes ≡ tag_at l.tags l.bytes

abbrev pub decreases-loop-left : goal.decreases-loop-left
decreases-loop-left l = length l.left
