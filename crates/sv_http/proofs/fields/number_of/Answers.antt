use Rattle.std.proofs.Common.{arith, ◌∙◌}
use Rattle.sv_http.proofs.Lengths.{digit_more}
use Rattle.sv_http.proofs.fields.number_of.Goals as goal

pub loop-rest-preserved : goal.loop-rest-preserved
loop-rest-preserved c = record {
  read = digit_more c.loop-rest.number c.with_digit-number.result c.loop-rest.rest.now c.in-len1-up.len_at_least c.with_digit-number.ensures
      ∙ c.loop-rest.invariant.read;
  small = omega (arith, c.with_digit-number.ensures);
}
