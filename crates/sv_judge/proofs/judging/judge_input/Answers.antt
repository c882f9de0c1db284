use Rattle.sv_judge.proofs.FoundLines.{noted_judged}
use Rattle.sv_judge.specs.Judging.{IsMachine}
use Rattle.sv_judge.proofs.judging.judge_input.Goals as goal

pub returns-in-Some : goal.returns-in-Some
returns-in-Some c = λ m s. rw (c.in-Some.ensures, c.clear.ensures.items)
    (noted_judged c.judge_noted.result m _ (IsMachine c.args.machine.now) (c.judge_noted.ensures m) s)
