use Rattle.std.proofs.Common.{◌≡◌, ◌++◌, take}
use Rattle.sv_pipes.proofs.captured.push_all.Given as goal

abbrev pub invariant-loop-byte : goal.invariant-loop-byte
invariant-loop-byte l = l.body.items ≡ l.initial.body.items ++ take l.byte-index l.bytes
