use Rattle.std.proofs.Common.{◌≡◌, ◌∙◌, true, rules, sym}
use Rattle.sv_child.specs.Moves.{is_running}
use Rattle.sv_core.proofs.Resting.{rests_there}
use Rattle.sv_core.proofs.machine.Machine.rests.Goals as goal

pub returns-clause-rests : goal.returns-clause-rests
returns-clause-rests c = λ sleeps.
    let running : is_running c.args.self.now.course.mood ≡ true = search rules in
    rests_there c.args.self.now running (λ book s. c.are_idle.ensures book s c.if-not-are_idle.false)
    (λ pools s. sym (c.some_wait.ensures pools s) ∙ c.if-some_wait.false) (c.all_sleep.ensures sleeps)
