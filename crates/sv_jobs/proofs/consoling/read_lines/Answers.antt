use Rattle.std.proofs.Common.{◌∙◌, arith, refl}
use Rattle.sv_jobs.proofs.Consoles.{console_refused, hears_feed, hears_plain, piece_begins}
use Rattle.sv_jobs.proofs.consoling.read_lines.Goals as goal

pub loop-byte-init : goal.loop-byte-init
loop-byte-init g c = record {
  hears = piece_begins _ _ _ _ _ _ _ _ c.loop.invariant.heard c.in-Ok.ensures.bytes.0 c.split_at.ensures.front;
  later = omega (arith, c.read.ensures.cause.later);
  seat = c.loop.invariant.seat;
}

pub loop-byte-preserved-then-byte-ne10 : goal.loop-byte-preserved-then-byte-ne10
loop-byte-preserved-then-byte-ne10 g c = record {
  hears = hears_plain _ _ _ _ _ _ _ _ _ _ c.loop-byte-test.true refl c.loop-byte.invariant.hears c.if-byte-ne10.true c.push.ensures refl;
  later = c.loop-byte.invariant.later;
  seat = c.loop-byte.invariant.seat;
}

pub returns-in_default-end_line-clause-consoling : goal.returns-in_default-end_line-clause-consoling
returns-in_default-end_line-clause-consoling g c = console_refused _ _ _ _ _ _ _ _ c.loop-byte.invariant.hears c.in_default-end_line.ensures.err

pub loop-byte-preserved : goal.loop-byte-preserved
loop-byte-preserved g c = record {
  hears = hears_feed _ _ _ _ _ _ _ _ _ _ c.loop-byte-test.true refl c.loop-byte.invariant.hears c.if-byte-ne10.false
      c.in-Ok-end_line.ensures.line c.in-Ok-end_line.ensures.posted;
  later = c.loop-byte.invariant.later;
  seat = (c.end_line.ensures.seat.0 ∙ c.loop-byte.invariant.seat.0, c.end_line.ensures.seat.1 ∙ c.loop-byte.invariant.seat.1);
}
