use Rattle.std.proofs.Common.{◌≡◌, length}
use Rattle.sv_xmlcall.specs.Trees.{members_view}
use Rattle.sv_commands.specs.Members.{first_member}
use Rattle.sv_commands.proofs.members.first_member.Given as goal

abbrev pub invariant-loop-left : goal.invariant-loop-left
invariant-loop-left l = first_member l.name (members_view l.members) ≡ first_member l.name (members_view l.left)

abbrev pub decreases-loop-left : goal.decreases-loop-left
decreases-loop-left l = length l.left
