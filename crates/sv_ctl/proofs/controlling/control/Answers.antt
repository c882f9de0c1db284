use Rattle.sv_ctl.proofs.Answering.{lost_by, unprinted_by}
use Rattle.sv_ctl.proofs.controlling.control.Goals as goal

pub returns-clause-controls : goal.returns-clause-controls
returns-clause-controls g c = record {
  course = c.answer.result;
  comes = c.answer.ensures.comes;
  is_number = c.number.ensures;
}

pub returns-clause-lost : goal.returns-clause-lost
returns-clause-lost g c = λ is. c.answer.ensures.lost (lost_by c.answer.result c.number.result c.number.ensures is)

pub returns-clause-unprinted : goal.returns-clause-unprinted
returns-clause-unprinted g c = λ is. c.answer.ensures.unprinted (unprinted_by c.answer.result c.number.result c.number.ensures is)
