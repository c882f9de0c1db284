use Rattle.std.proofs.Common.{◌<◌, ◌^◌, length}
use Rattle.std.specs.Str.Parse.{digits_value}
use Rattle.sv_listener.proofs.Numbers.{Follow}
use Rattle.sv_listener.proofs.header.value_of.Given as goal

abbrev pub invariant-loop-rest : goal.invariant-loop-rest
invariant-loop-rest l = record {
  follow : Follow (digits_value 10 l.digits) l.value l.rest;
  within : l.value < 2 ^ 64;
}

abbrev pub decreases-loop-rest : goal.decreases-loop-rest
decreases-loop-rest l = length l.rest
