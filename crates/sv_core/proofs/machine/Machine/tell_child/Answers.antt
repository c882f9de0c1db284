use Rattle.std.proofs.Common.{None, sym}
use Rattle.sv_children.specs.News.{stimulus_told}
use Rattle.sv_core.proofs.Shown.{came_there, children_there, made}
use Rattle.sv_core.specs.Moves.{changed, comes, says}
use Rattle.sv_core.specs.StandsFor.{shown}
use Rattle.sv_core.proofs.machine.Machine.tell_child.Goals as goal

pub returns-clause-told : goal.returns-clause-told
returns-clause-told c =
    let place = c.args.asked.child in
    let stimulus = stimulus_told c.args.asked.run c.args.told in
    made (comes None stimulus place) c.args.self.now c.report.new.self (λ older pools runs streams links calls kept alive written bound called.
    let w = shown c.args.self.now older pools runs streams links calls in
    let mood = c.args.self.now.course.mood in
    came_there c.report.new.self older None place stimulus w c.pid_at-pid.result c.answer-step.result
    c.pid_at-pid.ensures (c.answer-step.ensures.step mood)
    (c.in_ok-report.ensures.reports older (changed place (says stimulus place w) w)
    (record { pools = pools; runs = runs; is = children_there w _ _ (sym (c.answer-step.ensures.after mood)); pools_kept = kept; runs_kept = alive; streams = streams; streams_kept = written; links = links; links_kept = bound; calls = calls; calls_kept = called })))
