use Rattle.std.proofs.Common.{ap, subst, sym, ◌∙◌}
use Rattle.sv_base.specs.Roster.{is_roster}
use Rattle.sv_core_laws.proofs.Stretches.{few_times}
use Rattle.sv_core_laws.proofs.each_child_is_tried_few_times.Goals as goal
use Rattle.sv_core_laws.specs.Stretch.{AllTryFewTimes}

pub returns : goal.returns
returns c = λ sizes host inputs.
    few_times c.args.config.now sizes host inputs (ap is_roster (sym c.as_slice.ensures.value) ∙ c.as_slice.ensures.roster)
    (subst AllTryFewTimes c.as_slice.ensures.value c.all_try_few_times.ensures)
