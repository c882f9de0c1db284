-- The words of the jobs of a run.
use Rattle.std.specs.Prelude.{◌∷◌, List, []}
use Rattle.sv_base.specs.declared.state.Stream.TheVariants as streams
use Rattle.sv_outside.specs.declared.jobs.JobWord.{JobWord}
use Rattle.sv_outside.specs.declared.jobs.JobWord.TheVariants.{Pump, Stdin, Watch}
use Rattle.sv_parts.specs.declared.runs.starting.RunJobs.{RunJobs}

-- each of its own run
abbrev pub words_of_jobs : {K O E W : Type 0} → RunJobs K O E W → List JobWord
words_of_jobs jobs =
    Stdin jobs.stdin.run ∷ Pump jobs.out.run streams.Out ∷ Pump jobs.err.run streams.Err
    ∷ Watch jobs.watch.run ∷ []
