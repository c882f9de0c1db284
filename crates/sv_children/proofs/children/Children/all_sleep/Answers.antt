use Rattle.std.proofs.Common.{subst, sym}
use Rattle.sv_children.proofs.Awakening.{awake_none}
use Rattle.sv_children.specs.Awake.{NoneAwake}
use Rattle.sv_children.specs.Crew.{Crew}
use Rattle.sv_children.proofs.children.Children.all_sleep.Goals as goal

pub returns : goal.returns
returns c = λ sleeps to.
    let inside : Crew = record { roster = c.self.inside.roster; all = c.self.inside.all.items } in
    subst (λ (crew : Crew). NoneAwake c.args.now crew 0 to) c.self.view_is
    (awake_none c.args.now inside 0 c.self.inside.watch.agenda c.self.invariant.agenda (sym (c.none_due.ensures sleeps)) to)
