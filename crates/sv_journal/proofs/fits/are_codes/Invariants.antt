use Rattle.std.proofs.Common.{◌≡◌, true, length}
use Rattle.std.specs.List.{list_all}
use Rattle.sv_journal.specs.JournalLine.{is_exit_code}
use Rattle.sv_journal.proofs.fits.are_codes.Given as goal

abbrev pub invariant-loop-left : goal.invariant-loop-left
invariant-loop-left l = list_all is_exit_code l.left ≡ true → list_all is_exit_code l.codes ≡ true

abbrev pub decreases-loop-left : goal.decreases-loop-left
decreases-loop-left l = length l.left
