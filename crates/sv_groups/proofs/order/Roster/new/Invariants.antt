use Rattle.std.proofs.Common.{◌≡◌, take}
use Rattle.sv_groups.proofs.order.Roster.new.Given as goal

abbrev pub invariant-loop-group : goal.invariant-loop-group
invariant-loop-group l = l.groups.items ≡ take l.group-index l.source
