use Rattle.std.proofs.Common.{◌≡◌, take}
use Rattle.std.specs.List.{list_all}
use Rattle.sv_xmlcall.specs.Simple.{is_simple}
use Rattle.sv_xmlcall.proofs.simple.are_simple.Given as goal

abbrev pub invariant-loop-byte : goal.invariant-loop-byte
invariant-loop-byte l = l.all ≡ list_all is_simple (take l.byte-index l.bytes)
