use Rattle.std.proofs.Common.{◌∙◌, ap, sym, is_lt}
use Rattle.sv_judge.proofs.RisingNames.{behind_last}
use Rattle.sv_judge.proofs.sizes.is_behind.Goals as goal

pub returns-in-Some : goal.returns-in-Some
returns-in-Some g c =
    c.is_lt.ensures ∙ ap is_lt c.cmp.ensures
    ∙ sym (behind_last c.args.name.now c.args.entries.now c.in-Some.field-0.now (sym c.in-Some.ensures.value))
