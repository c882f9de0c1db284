use Rattle.std.proofs.Common.{◌≡◌, length}
use Rattle.sv_journal.specs.Reading.{token_from, with_front}
use Rattle.sv_journal.specs.Reading.Stage.{Between}
use Rattle.sv_journal.proofs.token.spelled_behind.Given as goal

abbrev pub invariant-loop-byte : goal.invariant-loop-byte
invariant-loop-byte l =
    with_front l.value.items (token_from l.letters (Between l.awaits) l.rest)
    ≡ with_front l.initial.value.items (token_from l.letters (Between l.initial.awaits) l.bytes)

abbrev pub decreases-loop-byte : goal.decreases-loop-byte
decreases-loop-byte l = length l.rest
