use Rattle.std.proofs.Common.{◌≡◌, []}
use Rattle.sv_loop.specs.Generating.{programs_to}
use Rattle.sv_loop.specs.WholeJournal.{groups_of}
use Rattle.sv_loop.proofs.generating.groups.Given as goal

abbrev pub invariant-loop-number : goal.invariant-loop-number
invariant-loop-number l = l.groups.items ≡ groups_of [] (programs_to l.number)
