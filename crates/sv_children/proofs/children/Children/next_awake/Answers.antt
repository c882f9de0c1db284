use Rattle.sv_children.proofs.Awakening.{awake_next}
use Rattle.sv_children.specs.Crew.{Crew}
use Rattle.sv_children.proofs.children.Children.next_awake.Goals as goal

pub returns-clause-next : goal.returns-clause-next
returns-clause-next c =
    let inside : Crew = record { roster = c.self.inside.roster; all = c.self.inside.all.items } in
    awake_next c.args.now inside c.args.self.now c.args.from c.self.inside.watch.agenda c.next-next.result.child
    c.place_of.result c.self.view_is c.self.invariant.agenda c.next-next.ensures.next c.place_of.ensures
