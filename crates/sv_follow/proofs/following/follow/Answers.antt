use Rattle.sv_ctl.proofs.Answering.{lost_by, unprinted_by}
use Rattle.sv_follow.proofs.following.follow.Goals as goal

pub returns-clause-follows : goal.returns-clause-follows
returns-clause-follows g c = record {
  course = c.watch.result;
  comes = c.watch.ensures.comes;
  is_number = c.number.ensures;
}

pub returns-clause-lost : goal.returns-clause-lost
returns-clause-lost g c = λ is. c.watch.ensures.dial_cause.rose (lost_by c.watch.result c.number.result c.number.ensures is)

pub returns-clause-unprinted : goal.returns-clause-unprinted
returns-clause-unprinted g c =
    λ is. c.watch.ensures.out_cause.rose (unprinted_by c.watch.result c.number.result c.number.ensures is)
