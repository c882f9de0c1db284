use Rattle.std.proofs.Common.{◌≡◌, Some, List, ap, sym, ◌∙◌}
use Rattle.std.specs.Prelude.{slice_get}
use Rattle.sv_child.specs.declared.child.Child.{Child}
use Rattle.sv_core.proofs.Shown.{at_there, down_there, up_there}
use Rattle.sv_core.proofs.machine.Machine.ready_at.Goals as goal

pub returns-then-is_up : goal.returns-then-is_up
returns-then-is_up c = λ older w s.
    let at : slice_get c.args.self.now.children.all c.args.child ≡ Some c.in-Some.child.now =
    ap (λ (children : List Child). slice_get children c.args.child) (sym c.as_slice.ensures)
    ∙ at_there c.as_slice.result.now c.args.child c.in-Some.child.now c.in-Some.ensures.lookup.3.0 c.in-Some.ensures.lookup.1 in
    up_there c.args.self.now older w c.args.child c.in-Some.child.now c.ready_one.result s at
    (sym c.is_up.ensures ∙ c.if-is_up.true) (c.ready_one.ensures older w s)

pub returns-else-is_up : goal.returns-else-is_up
returns-else-is_up c = λ older w s.
    let at : slice_get c.args.self.now.children.all c.args.child ≡ Some c.in-Some.child.now =
    ap (λ (children : List Child). slice_get children c.args.child) (sym c.as_slice.ensures)
    ∙ at_there c.as_slice.result.now c.args.child c.in-Some.child.now c.in-Some.ensures.lookup.3.0 c.in-Some.ensures.lookup.1 in
    down_there c.args.self.now older w c.args.child c.in-Some.child.now s at
    (sym c.is_up.ensures ∙ c.if-is_up.false)
