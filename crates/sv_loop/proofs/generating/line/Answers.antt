use Rattle.sv_loop.specs.Generating.{generated_line, run_begins}
use Rattle.sv_loop.proofs.generating.line.Goals as goal

pub returns : goal.returns
unfolding generated_line
returns c = c.in_ok-line.ensures run_begins c.in_ok-machine.ensures
