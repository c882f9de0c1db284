use Rattle.std.proofs.Common.{◌≡◌, ◌++◌, take}
use Rattle.std.specs.Prelude.{string_bytes}
use Rattle.std.specs.List.{flat_map}
use Rattle.sv_journal.specs.JournalLine.{then_token}
use Rattle.sv_journal.proofs.write.put_words.Given as goal

abbrev pub invariant-loop-text : goal.invariant-loop-text
invariant-loop-text l = string_bytes l.line ≡ string_bytes l.initial.line ++ flat_map then_token (take l.text-index l.words)
