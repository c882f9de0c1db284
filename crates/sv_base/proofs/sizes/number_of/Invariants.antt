use Rattle.std.proofs.Common.{◌≡◌, ◌^◌, ◌<◌, drop}
use Rattle.sv_base.specs.SizeText.{number_of}
use Rattle.sv_base.proofs.sizes.number_of.Given as goal

abbrev pub invariant-loop-digit : goal.invariant-loop-digit
invariant-loop-digit l = record {
  same : number_of 0 l.digits ≡ number_of l.number (drop l.digit-index l.digits);
  fits : l.number < 2 ^ 64;
}
