use Rattle.std.proofs.Common.{◌≡◌, ◌++◌, take}
use Rattle.std.specs.List.{flat_map}
use Rattle.sv_supervise.specs.Journal.Header.{env_text}
use Rattle.sv_supervise.proofs.journal.header.put_environment.Given as goal

abbrev pub invariant-loop-pair : goal.invariant-loop-pair
invariant-loop-pair l = l.text.items ≡ l.initial.text.items ++ flat_map env_text (take l.pair-index l.environment)
