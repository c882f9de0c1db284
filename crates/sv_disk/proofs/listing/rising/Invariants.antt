use Rattle.std.proofs.Common.{◌≡◌, ◌++◌}
use Rattle.sv_disk.proofs.listing.rising.Given as goal

abbrev pub invariant-loop-name : goal.invariant-loop-name
invariant-loop-name l = l.list.items ++ l.name-iterator ≡ l.initial.name-iterator
