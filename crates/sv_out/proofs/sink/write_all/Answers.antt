use Rattle.std.proofs.Common.{arith}
use Rattle.sv_out.proofs.Wrote.{wrote_more}
use Rattle.sv_out.proofs.sink.write_all.Goals as goal

pub loop-rest-preserved : goal.loop-rest-preserved
loop-rest-preserved g c = record {
  wrote = rw c.split_at.ensures.back (wrote_more _ _ _ _ _ c.in_ok-count.count c.loop-rest.invariant.wrote c.in_ok-count.ensures.bytes);
  later = omega (arith, c.in_ok-count.ensures.cause.later);
}
