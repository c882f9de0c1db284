use Rattle.std.proofs.Common.{subst, sym}
use Rattle.sv_core.specs.declared.machine.Machine.{Machine}
use Rattle.sv_judge.proofs.FoundLines.{input_judged}
use Rattle.sv_judge.specs.Judging.{IsMachine}
use Rattle.sv_judge.proofs.judging.JournalProgress.judge.Goals as goal

pub returns-in-Running : goal.returns-in-Running
returns-in-Running c = λ at is.
    input_judged c.judge_input.result c.judge_input.new.orders.items c.deref_mut.result.now c.judge_input.new.machine at c.args.line.now c.judge_input.ensures
    (subst (λ (x : Machine). IsMachine x at) (sym c.deref_mut.ensures.value) (rw c.in-Running.is at is))
