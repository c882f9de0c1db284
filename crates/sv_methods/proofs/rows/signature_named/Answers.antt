use Rattle.std.proofs.Common.{ap, ◌∙◌}
use Rattle.sv_methods.specs.MethodNames.{method_named}
use Rattle.sv_methods.specs.MethodTable.{signature_row}
use Rattle.sv_methods.proofs.rows.signature_named.Goals as goal

pub returns : goal.returns
returns c =
    c.in_ok-planned.ensures ∙ ap signature_row (c.named-method.ensures ∙ ap method_named c.as_str.ensures)
