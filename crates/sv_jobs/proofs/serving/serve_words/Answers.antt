use Rattle.std.proofs.Common.{◌∙◌, arith}
use Rattle.sv_jobs.proofs.Serves.{heard_one, sent_one}
use Rattle.sv_jobs.proofs.serving.serve_words.Goals as goal

pub loop-preserved-in-Send : goal.loop-preserved-in-Send
loop-preserved-in-Send g c = record {
  served = sent_one _ _ _ _ _ _ _ _ _ _ c.in-Send.ensures.taken.0 _ _ c.loop.invariant.served c.in-Send.ensures.taken.1 c.as_slice.ensures c.in-Ok.ensures.ok c.post.ensures.posted;
  later = omega (arith, c.send_all.ensures.cause.later);
  seat = (c.post.ensures.same.0 ∙ c.loop.invariant.seat.0, c.post.ensures.same.1 ∙ c.loop.invariant.seat.1);
  taker = c.take.ensures.same ∙ c.loop.invariant.taker;
}

pub loop-preserved : goal.loop-preserved
loop-preserved g c = record {
  served = heard_one _ _ _ _ _ _ _ _ _ _ c.in-More.ensures.taken.0 _ c.loop.invariant.served c.in-More.ensures.taken.1 c.in-Piece.ensures.told c.post-in-Piece.ensures.posted;
  later = omega (arith, c.hear_piece.ensures.cause.later);
  seat = (c.post-in-Piece.ensures.same.0 ∙ c.loop.invariant.seat.0, c.post-in-Piece.ensures.same.1 ∙ c.loop.invariant.seat.1);
  taker = c.take.ensures.same ∙ c.loop.invariant.taker;
}
