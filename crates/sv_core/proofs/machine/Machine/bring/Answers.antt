use Rattle.std.proofs.Common.{Option, ap, subst, sym, ◌∙◌}
use Rattle.sv_base.specs.declared.state.How.{How}
use Rattle.sv_children.specs.News.{deed_of, step_of, stimulus_of}
use Rattle.sv_core.proofs.Shown.{came_there, children_there, made}
use Rattle.sv_core.specs.Moves.{changed, comes, reported, says}
use Rattle.sv_core.specs.StandsFor.{Shows, shown}
use Rattle.sv_core.specs.World.{World}
use Rattle.sv_children.specs.Lines.EdgeLines.{how_of}
use Rattle.sv_core.proofs.machine.Machine.bring.Goals as goal

pub returns-clause-moves : goal.returns-clause-moves
returns-clause-moves c = made (comes (how_of c.args.news.now) (stimulus_of c.args.news.now) c.args.child) c.args.self.now c.report.new.self (λ older pools runs streams links calls kept alive written bound called.
    let w = shown c.args.self.now older pools runs streams links calls in
    let stimulus = stimulus_of c.args.news.now in
    came_there c.report.new.self older (how_of c.args.news.now) c.args.child stimulus w c.pid_at-pid.result c.bring-step.result
    c.pid_at-pid.ensures c.bring-step.ensures.step
    (subst (λ (how : Option How). Shows c.report.new.self older (reported how c.args.child c.pid_at-pid.result c.bring-step.result
    (changed c.args.child (says stimulus c.args.child w) w))) c.how_of.ensures
    (c.in_ok-deed.ensures.reports older (changed c.args.child (says stimulus c.args.child w) w)
    (record { pools = pools; runs = runs; is = children_there w _ _ (sym c.bring-step.ensures.after); pools_kept = kept; runs_kept = alive; streams = streams; streams_kept = written; links = links; links_kept = bound; calls = calls; calls_kept = called }))))

pub returns-clause-deed : goal.returns-clause-deed
returns-clause-deed c = λ older w s.
    c.in_ok-deed.ensures.deed ∙ ap deed_of c.bring-step.ensures.step
    ∙ ap (λ (v : World). deed_of (step_of (says (stimulus_of c.args.news.now) c.args.child v))) (sym s.is)
