use Rattle.std.proofs.Common.{arith, sym}
use Rattle.sv_ini.proofs.LineCuts.{one_line, fault_in_line, last_line, fault_in_last}
use Rattle.sv_ini.proofs.sections.read_lines.Goals as goal

pub returns-in-Err-clause-fault : goal.returns-in-Err-clause-fault
returns-in-Err-clause-fault c =
    fault_in_line c.in-Err.fault c.loop-cut.number c.loop-cut.left.now c.in-Some.cut.0.now c.without_return.result.now
    c.in-Some.cut.1.now c.loop-cut.reading _ (sym c.in-Some.ensures.cut) c.without_return.ensures
    c.in-Err.ensures.fault c.loop-cut.invariant.same

pub loop-cut-preserved : goal.loop-cut-preserved
loop-cut-preserved c = record {
  same = one_line c.loop-cut.number c.loop-cut.left.now c.in-Some.cut.0.now c.without_return.result.now c.in-Some.cut.1.now
      c.loop-cut.reading c.read.new.self _ (sym c.in-Some.ensures.cut) c.without_return.ensures c.in-Ok.ensures.read
      c.loop-cut.invariant.same;
  few = omega (arith, c.in-Some.ensures.shorter);
  valid = c.in-Some.ensures.text;
}

pub returns-in-Ok-read-clause-read : goal.returns-in-Ok-read-clause-read
returns-in-Ok-read-clause-read c =
    last_line c.loop-cut.number c.loop-cut.left.now c.loop-cut.reading c.read-2.new.self _ (sym c.in_default.ensures.cut)
    c.in-Ok-read.ensures.read c.loop-cut.invariant.same

pub returns-in-Err-read-clause-fault : goal.returns-in-Err-read-clause-fault
returns-in-Err-read-clause-fault c =
    fault_in_last c.in-Err-read.fault c.loop-cut.number c.loop-cut.left.now c.loop-cut.reading _ (sym c.in_default.ensures.cut)
    c.in-Err-read.ensures.fault c.loop-cut.invariant.same
