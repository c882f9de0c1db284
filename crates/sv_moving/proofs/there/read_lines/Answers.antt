use Rattle.std.proofs.Common.{arith, sym}
use Rattle.sv_moving.proofs.LineCuts.{one_line, last_line}
use Rattle.sv_moving.proofs.there.read_lines.Goals as goal

pub loop-cut-preserved : goal.loop-cut-preserved
loop-cut-preserved c = record {
  same = one_line c.loop-cut.left.now c.in-Some.cut.0.now c.in-Some.cut.1.now _ _ _ (sym c.in-Some.ensures.cut)
      c.in_ok-read.ensures.read c.loop-cut.invariant.same;
  lines = omega (arith, c.in-Some.ensures.shorter, c.in_ok-read.ensures.lines, c.loop-cut.invariant.lines);
  blanks = omega (arith, c.in-Some.ensures.shorter, c.in_ok-read.ensures.blanks, c.loop-cut.invariant.blanks);
}

pub returns : goal.returns
returns c =
    last_line c.loop-cut.left.now _ _ _ (sym c.in_default.ensures.cut) c.in_ok-read-2.ensures.read c.loop-cut.invariant.same
