use Rattle.std.proofs.Common.{Bool, Option, ℕ, ap, if◌then◌else◌, ◌∙◌}
use Rattle.std.specs.Prelude.{slice_set}
use Rattle.sv_children.proofs.Watching.{watched}
use Rattle.sv_children.specs.Watch.{and_also, but_not}
use Rattle.sv_children.proofs.watch.Watch.change.Goals as goal

pub returns : goal.returns
returns c = λ pairs children group here w.
    let old = c.args.self.now in
    let place = c.args.place in
    watched pairs children old
    (record { agenda = c.put.new.self; at = c.later_of-self.result; unsettled = c.unsettled_after-self.result })
    place c.args.now group c.args.spec.now c.args.child.now here
    (c.put.ensures ∙ ap (λ (at : Option ℕ). slice_set old.agenda place at) c.wake_moment.ensures)
    c.later_of-self.ensures
    (c.unsettled_after-self.ensures
    ∙ ap (λ (b : Bool). if b then but_not old.unsettled place else and_also old.unsettled place) c.is_settled.ensures)
    w
