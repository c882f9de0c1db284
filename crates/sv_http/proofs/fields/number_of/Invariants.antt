use Rattle.std.proofs.Common.{◌≡◌, ◌≤◌, ◌+◌, length, min}
use Rattle.sv_http.specs.AskTable.{reply_limit}
use Rattle.sv_base.specs.SizeText.{number_of}
use Rattle.sv_http.proofs.fields.number_of.Given as goal

abbrev pub invariant-loop-rest : goal.invariant-loop-rest
invariant-loop-rest l = record {
  read : min (number_of l.number l.rest) (reply_limit + 1) ≡ min (number_of 0 l.digits) (reply_limit + 1);
  small : l.number ≤ reply_limit + 1;
}

abbrev pub decreases-loop-rest : goal.decreases-loop-rest
decreases-loop-rest l = length l.rest
