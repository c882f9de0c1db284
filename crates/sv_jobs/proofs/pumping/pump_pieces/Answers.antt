use Rattle.std.proofs.Common.{◌∙◌, arith}
use Rattle.sv_jobs.proofs.Pumps.{pumped_more}
use Rattle.sv_jobs.proofs.pumping.pump_pieces.Goals as goal

pub loop-preserved : goal.loop-preserved
loop-preserved g c = record {
  pumping = pumped_more _ _ _ _ _ _ _ _ _ c.loop.invariant.pumping c.in-Piece.ensures.bytes c.post.ensures.posted;
  later = omega (arith, c.read_piece.ensures.cause.later);
  seat = (c.post.ensures.same.0 ∙ c.loop.invariant.seat.0, c.post.ensures.same.1 ∙ c.loop.invariant.seat.1);
}
