use Rattle.std.proofs.Common.{◌≡◌, ◌++◌, length}
use Rattle.std.specs.Option.{option_copied}
use Rattle.sv_commands.specs.Commands.{act_on_each, steps_view}
use Rattle.sv_commands.proofs.steps.add_each.Given as goal

abbrev pub invariant-loop-left : goal.invariant-loop-left
invariant-loop-left l =
    steps_view l.steps ++ act_on_each l.act (option_copied l.signal) l.counts l.left
    ≡ steps_view l.initial.steps ++ act_on_each l.act (option_copied l.signal) l.counts l.names

abbrev pub decreases-loop-left : goal.decreases-loop-left
decreases-loop-left l = length l.left
