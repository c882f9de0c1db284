use Rattle.std.proofs.Common.{◌≡◌, length}
use Rattle.sv_xmlcall.specs.Trees.{members_view}
use Rattle.sv_multi.specs.MultiCall.{member_named}
use Rattle.sv_multi.proofs.parts.member.Given as goal

abbrev pub invariant-loop-left : goal.invariant-loop-left
invariant-loop-left l = member_named l.name (members_view l.members) ≡ member_named l.name (members_view l.left)

abbrev pub decreases-loop-left : goal.decreases-loop-left
decreases-loop-left l = length l.left
