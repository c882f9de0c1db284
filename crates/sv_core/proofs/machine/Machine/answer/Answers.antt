use Rattle.std.proofs.Common.{ℕ, Option, None, subst}
use Rattle.sv_children.specs.News.{stimulus_told}
use Rattle.sv_children.specs.declared.news.Told.{Told}
use Rattle.sv_core.specs.Moves.{begins_as, comes, told_of}
use Rattle.sv_core.specs.StandsFor.{Shows}
use Rattle.sv_core.proofs.machine.Machine.answer.Goals as goal

pub returns-clause-answered : goal.returns-clause-answered
returns-clause-answered c = λ older w s.
    let place = c.args.asked.child in
    let run = c.args.asked.run in
    let told = subst (λ (told : Told). Shows c.tell_child.new.self older (comes None (stimulus_told run told) place w)) c.told_of.ensures
    (c.in_ok-tell_child.ensures.told older w s) in
    subst (λ (started : Option ℕ). Shows c.begin_run.new.self older (begins_as place run started (comes None (stimulus_told run (told_of c.args.reply)) place w)))
    c.started_as-started.ensures
    (c.in_ok-begin_run.ensures.begins older _ told)
