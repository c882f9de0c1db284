use Rattle.std.proofs.Common.{sym}
use Rattle.sv_keys.proofs.Parts.{parts_step}
use Rattle.sv_keys.proofs.cuts.parts_of.Goals as goal

pub loop-cut-preserved : goal.loop-cut-preserved
loop-cut-preserved c = record {
  same = rw (c.in_ok-push.ensures.ok, c.in_ok-from_str.ensures, c.trimmed.ensures)
      (parts_step c.loop-cut.parts _ c.loop-cut.left.now c.in-Some.cut.0.now c.in-Some.cut.1.now (sym c.in-Some.ensures.cut)
      c.loop-cut.invariant.same);
  valid = c.in-Some.ensures.text;
}
