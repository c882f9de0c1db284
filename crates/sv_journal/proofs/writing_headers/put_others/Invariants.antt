use Rattle.std.proofs.Common.{◌≡◌, ◌++◌, take}
use Rattle.std.specs.Prelude.{string_bytes}
use Rattle.std.specs.List.{flat_map}
use Rattle.sv_journal.specs.Commas.{then_number}
use Rattle.sv_journal.proofs.writing_headers.put_others.Given as goal

abbrev pub invariant-loop-code : goal.invariant-loop-code
invariant-loop-code l = string_bytes l.line ≡ string_bytes l.initial.line ++ flat_map then_number (take l.code-index l.others)
