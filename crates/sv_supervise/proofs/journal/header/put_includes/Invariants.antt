use Rattle.std.proofs.Common.{◌≡◌, ◌++◌, take}
use Rattle.std.specs.List.{flat_map}
use Rattle.sv_supervise.specs.Journal.Header.{include_text}
use Rattle.sv_supervise.proofs.journal.header.put_includes.Given as goal

abbrev pub invariant-loop-held : goal.invariant-loop-held
invariant-loop-held l = l.text.items ≡ l.initial.text.items ++ flat_map include_text (take l.held-index l.included)
