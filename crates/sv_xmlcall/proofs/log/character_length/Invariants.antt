use Rattle.std.proofs.Common.{◌≡◌, ◌+◌, ◌≤◌, length}
use Rattle.sv_xmlcall.specs.Characters.{length_from, character_length}
use Rattle.sv_xmlcall.proofs.log.character_length.Given as goal

abbrev pub invariant-loop-rest : goal.invariant-loop-rest
invariant-loop-rest l = record {
  read : length_from l.awaits l.length l.rest ≡ character_length l.bytes;
  bound : l.length + length l.rest ≤ length l.bytes;
}

abbrev pub decreases-loop-rest : goal.decreases-loop-rest
decreases-loop-rest l = length l.rest
