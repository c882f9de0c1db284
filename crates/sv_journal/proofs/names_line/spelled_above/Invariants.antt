use Rattle.std.proofs.Common.{◌≡◌, length}
use Rattle.sv_journal.specs.Reading.{with_front}
use Rattle.sv_journal.specs.Names.{above_from}
use Rattle.sv_letters.specs.declared.letters.Awaits.TheVariants.{Character}
use Rattle.sv_journal.proofs.names_line.spelled_above.Given as goal

abbrev pub invariant-loop-left : goal.invariant-loop-left
invariant-loop-left l = with_front l.value.items (above_from l.left l.awaits l.rest) ≡ above_from l.below Character l.bytes

abbrev pub decreases-loop-left : goal.decreases-loop-left
decreases-loop-left l = length l.left
