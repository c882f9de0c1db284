use Rattle.std.proofs.Common.{arith}
use Rattle.sv_out.proofs.Sent.{sent_next}
use Rattle.sv_out.proofs.connection.send_all.Goals as goal

pub loop-rest-preserved : goal.loop-rest-preserved
loop-rest-preserved g c = record {
  sent = rw c.split_at.ensures.back (sent_next _ _ _ _ _ c.in_ok-count.count c.loop-rest.invariant.sent c.in_ok-count.ensures.told);
  later = omega (arith, c.in_ok-count.ensures.cause.later);
}
