use Rattle.std.proofs.Common.{◌≡◌, ◌-◌, length, None}
use Rattle.std.specs.Prelude.{slice_get}
use Rattle.sv_journal.specs.Names.{names_at}
use Rattle.sv_journal.specs.OrderReading.{with_items}
use Rattle.sv_journal.proofs.names_line.names_of.Given as goal

abbrev pub invariant-loop-left : goal.invariant-loop-left
invariant-loop-left l =
    with_items l.names.items (names_at (slice_get l.names.items (length l.names.items - 1)) l.left l.rest) ≡ names_at None l.count l.bytes

abbrev pub decreases-loop-left : goal.decreases-loop-left
decreases-loop-left l = l.left
