use Rattle.sv_journal.proofs.InputLaws.{input_takes}
use Rattle.sv_out.specs.declared.input.Input.TheVariants.{Tick}
use Rattle.sv_journal.proofs.read.read_tick.Goals as goal

pub returns-in-Some-clause-found : goal.returns-in-Some-clause-found
returns-in-Some-clause-found c = input_takes c.args.line.now (Tick c.in-Some.at) c.in-Some.ensures
