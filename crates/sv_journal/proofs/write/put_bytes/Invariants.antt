use Rattle.std.proofs.Common.{◌≡◌, ◌++◌, take}
use Rattle.std.specs.Prelude.{string_bytes}
use Rattle.sv_journal.specs.Spelling.{bytes_spelling}
use Rattle.sv_journal.proofs.write.put_bytes.Given as goal

abbrev pub invariant-loop-byte : goal.invariant-loop-byte
invariant-loop-byte l = string_bytes l.line ≡ string_bytes l.initial.line ++ bytes_spelling (take l.byte-index l.bytes)
