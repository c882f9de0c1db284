use Rattle.std.proofs.Common.{◌≡◌, ◌≤◌, length, vec_capacity}
use Rattle.sv_board.specs.Ends.{AreNewReaders}
use Rattle.sv_board.proofs.making.make_readers.Given as goal

abbrev pub invariant-loop : goal.invariant-loop
invariant-loop l = (length l.made.items ≡ l.counter) × (l.fn.readers ≤ vec_capacity l.made) × AreNewReaders l.home l.made.items
