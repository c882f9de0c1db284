use Rattle.std.proofs.Common.{◌≡◌, Some, arith, ap, ◌∙◌}
use Rattle.std.proofs.lemmas.Option.{slice_get_read}
use Rattle.std.specs.List.{slice_get}
use Rattle.sv_children.proofs.Members.{heard_there, moved_there}
use Rattle.sv_children.proofs.Watching.{agenda_count}
use Rattle.sv_children.specs.Crew.{Crew}
use Rattle.sv_children.specs.News.{moved, said_at, step_of, stimulus_of}
use Rattle.sv_groups.specs.StartOrder.{pairs_of}
use Rattle.sv_children.proofs.children.Children.bring.Goals as goal

pub change-requires : goal.change-requires
change-requires c =
    let inside = c.self.inside in
    omega (arith, agenda_count (pairs_of inside.roster) inside.all.items inside.watch c.self.invariant, c.if-place-len.false, c.len.ensures, inside.all.ok.0)

pub invariant_of-self : goal.invariant_of-self
invariant_of-self c =
    c.change.ensures (pairs_of c.self.inside.roster) c.self.inside.all.items c.in-Some.process.0.now c.in-Some.ensures
    c.self.invariant

pub returns-in-Some-clause-after : goal.returns-in-Some-clause-after
returns-in-Some-clause-after c =
    let own = c.index_mut-child.result.now in
    let at : slice_get c.self.inside.all.items c.args.place ≡ Some own = grind (arith, slice_get_read) in
    let crew : Crew = record { roster = c.self.inside.roster; all = c.self.inside.all.items } in
    moved_there (stimulus_of c.args.news.now) c.args.place c.args.mood c.args.now crew
    (c.in-Some.process.0.now, c.in-Some.process.1.now) own c.bring-step.new.child c.in-Some.ensures at
    c.bring-step.ensures.child
    ∙ ap (λ (k : Crew). moved c.args.place (said_at (stimulus_of c.args.news.now) c.args.place c.args.mood c.args.now k) k) c.self.view_is

pub returns-in-Some-clause-step : goal.returns-in-Some-clause-step
returns-in-Some-clause-step c =
    let own = c.index_mut-child.result.now in
    let at : slice_get c.self.inside.all.items c.args.place ≡ Some own = grind (arith, slice_get_read) in
    let crew : Crew = record { roster = c.self.inside.roster; all = c.self.inside.all.items } in
    heard_there (stimulus_of c.args.news.now) c.args.place c.args.mood c.args.now crew
    (c.in-Some.process.0.now, c.in-Some.process.1.now) own c.bring-step.result c.in-Some.ensures at
    c.bring-step.ensures.step
    ∙ ap (λ (k : Crew). step_of (said_at (stimulus_of c.args.news.now) c.args.place c.args.mood c.args.now k)) c.self.view_is
