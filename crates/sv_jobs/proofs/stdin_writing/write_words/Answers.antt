use Rattle.std.proofs.Common.{◌∙◌, arith}
use Rattle.sv_jobs.proofs.Writes.{wrote_more}
use Rattle.sv_jobs.proofs.stdin_writing.write_words.Goals as goal

pub loop-preserved : goal.loop-preserved
loop-preserved g c = record {
  wrote = wrote_more _ _ _ _ _ _ _ _ _ _ c.in-Write.ensures.taken.0 _ _ c.loop.invariant.wrote c.in-Write.ensures.taken.1 c.as_slice.ensures c.in-Ok.ensures.ok c.post.ensures.posted;
  later = omega (arith, c.write_all.ensures.cause.later);
  seat = (c.post.ensures.same.0 ∙ c.loop.invariant.seat.0, c.post.ensures.same.1 ∙ c.loop.invariant.seat.1);
  taker = c.take.ensures.same ∙ c.loop.invariant.taker;
}
