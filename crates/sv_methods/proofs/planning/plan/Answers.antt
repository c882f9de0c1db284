use Rattle.std.proofs.Common.{List, ap, ◌∙◌}
use Rattle.std.specs.Prelude.{Option}
use Rattle.sv_methods.specs.MethodNames.{method_named}
use Rattle.sv_methods.specs.MethodTable.{row_if_here}
use Rattle.sv_methods.specs.Scenes.{scene}
use Rattle.sv_methods.specs.declared.method.Method.{Method}
use Rattle.sv_methods.proofs.planning.plan.Goals as goal
use Rattle.sv_xmlcall.specs.Trees.{trees_view}
use Rattle.sv_xmlcall.specs.declared.value.Value.{Value}

pub returns : goal.returns
returns c =
    c.in_ok-planned.ensures
    ∙ ap (λ (m : Option Method). row_if_here m (scene c.args.stand.now) (trees_view c.as_slice.result.now) c.args.now) (c.named-method.ensures ∙ ap method_named c.as_str.ensures)
    ∙ ap (λ (values : List Value). row_if_here (method_named c.args.call.now.method) (scene c.args.stand.now) (trees_view values) c.args.now) c.as_slice.ensures.value
