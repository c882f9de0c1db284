use Rattle.std.proofs.Common.{arith, ◌∙◌}
use Rattle.sv_loop.proofs.Programs.{next_group, all_groups}
use Rattle.sv_loop.proofs.generating.groups.Goals as goal

pub loop-number-preserved : goal.loop-number-preserved
loop-number-preserved c = grind (arith, next_group)

pub returns : goal.returns
returns c = c.loop-number.invariant ∙ all_groups c.loop-number.number (omega arith)
