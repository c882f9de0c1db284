use Rattle.std.proofs.Common.{◌≡◌, ◌++◌, List, None, Some, length, ap, refl, sym, ◌∙◌}
use Rattle.std.proofs.lemmas.Option.{slice_get_past, slice_get_read}
use Rattle.std.specs.List.{slice_get}
use Rattle.sv_child.specs.declared.child.Child.{Child}
use Rattle.sv_children.proofs.Members.{none_killed, one_killed}
use Rattle.sv_children.specs.Crew.{Crew}
use Rattle.sv_children.specs.Orders.{kill_at}
use Rattle.sv_children.proofs.children.Children.kill.Goals as goal

pub returns-in-None : goal.returns-in-None
returns-in-None c =
    let crew : Crew = record { roster = c.self.inside.roster; all = c.self.inside.all.items } in
    let at : slice_get crew.all c.args.place ≡ None =
    ap (λ (xs : List Child). slice_get xs c.args.place) (sym c.as_slice.ensures.value)
    ∙ slice_get_past c.as_slice.result.now c.args.place c.in-None.ensures.lookup.3 in
    none_killed crew c.args.place c.args.signal c.args.group c.args.given.now.items at
    ∙ ap (λ (k : Crew). c.args.given.now.items ++ kill_at k c.args.place c.args.signal c.args.group) c.self.view_is

pub returns-in_ok-kill_run-in-Some : goal.returns-in_ok-kill_run-in-Some
returns-in_ok-kill_run-in-Some c =
    let crew : Crew = record { roster = c.self.inside.roster; all = c.self.inside.all.items } in
    let at : slice_get crew.all c.args.place ≡ Some c.in-Some.child.now =
    ap (λ (xs : List Child). slice_get xs c.args.place) (sym c.as_slice.ensures.value)
    ∙ slice_get_read c.as_slice.result.now (length c.as_slice.result.now) c.args.place c.in-Some.child.now refl
    c.in-Some.ensures.lookup.3.0 c.in-Some.ensures.lookup.1 in
    one_killed crew c.args.place c.args.signal c.args.group c.args.given.now.items c.kill_run.new.given.items c.in-Some.child.now at
    c.in_ok-kill_run-in-Some.ensures
    ∙ ap (λ (k : Crew). c.args.given.now.items ++ kill_at k c.args.place c.args.signal c.args.group) c.self.view_is
