use Rattle.std.proofs.Common.{◌≡◌, ◌++◌, take}
use Rattle.std.specs.List.{flat_map}
use Rattle.sv_supervise.specs.Journal.Header.{size_text}
use Rattle.sv_supervise.proofs.journal.header.put_sizes.Given as goal

abbrev pub invariant-loop-known : goal.invariant-loop-known
invariant-loop-known l = l.text.items ≡ l.initial.text.items ++ flat_map size_text (take l.known-index l.sizes)
