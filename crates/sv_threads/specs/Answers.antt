-- The answers to questions.
use Rattle.std.specs.Prelude.{◌≡◌, IsErr, Option, Some, Result, Ok, Err, codes}
use Rattle.sv_parts.specs.declared.files.asking.FileAnswer.{FileAnswer}
use Rattle.sv_parts.specs.declared.files.asking.FileAnswer.TheVariants as files
use Rattle.sv_outside.specs.declared.handing.Handed.{Handed}
use Rattle.sv_outside.specs.declared.handing.Handed.TheVariants as handed
use Rattle.sv_out.specs.declared.input.Input.{Input}
use Rattle.sv_out.specs.declared.input.Input.TheVariants as inputs
use Rattle.sv_outside.specs.declared.spawner.Refusal.{Refusal}
use Rattle.sv_outside.specs.declared.spawner.Refusal.TheVariants as refusals
use Rattle.sv_parts.specs.declared.runs.spawning.SpawnAnswer.{SpawnAnswer}
use Rattle.sv_parts.specs.declared.runs.spawning.SpawnAnswer.TheVariants as spawns
use Rattle.sv_threads.specs.declared.answers.Answer.{Answer}
use Rattle.sv_threads.specs.declared.answers.Answer.TheVariants as answers

-- an answer as an input; none is a Failed
abbrev pub input_of_answer : Answer → Input
input_of_answer (answers.Pid pid) = inputs.Pid pid
input_of_answer answers.NoFile = inputs.NoFile
input_of_answer answers.NotExecutable = inputs.NotExecutable
input_of_answer (answers.Refused reason) = inputs.Refused reason
input_of_answer (answers.Read bytes) = inputs.Read bytes
input_of_answer answers.Done = inputs.Done
input_of_answer answers.Missing = inputs.Missing
input_of_answer (answers.Names names) = inputs.Names names
input_of_answer (answers.Size size) = inputs.Size size

-- a refusal of the spawner is answered as it is
abbrev pub answer_of_refusal : Refusal → Answer
answer_of_refusal refusals.NoFile = answers.NoFile
answer_of_refusal refusals.NotExecutable = answers.NotExecutable
answer_of_refusal (refusals.Refused reason) = answers.Refused reason

-- what a spawn came to
abbrev pub answer_of_spawn : SpawnAnswer → Answer
answer_of_spawn (spawns.Pid pid) = answers.Pid pid
answer_of_spawn (spawns.Refused refusal) = answer_of_refusal refusal
answer_of_spawn spawns.NoThread = answers.Refused (codes "no thread")

-- what a question of a file came to is the answer; where a call of the shelf failed there is none,
-- and the order failed
abbrev pub KeepsFile : FileAnswer → Option Answer → Option Answer → Handed → Type 0
KeepsFile (files.Read bytes) old new result =
    (new ≡ Some (answers.Read bytes)) × (result ≡ handed.Done)
KeepsFile files.Done old new result = (new ≡ Some answers.Done) × (result ≡ handed.Done)
KeepsFile files.Missing old new result = (new ≡ Some answers.Missing) × (result ≡ handed.Done)
KeepsFile (files.Names names) old new result =
    (new ≡ Some (answers.Names names)) × (result ≡ handed.Done)
KeepsFile (files.Size size) old new result =
    (new ≡ Some (answers.Size size)) × (result ≡ handed.Done)
KeepsFile files.Failed old new result = (new ≡ old) × (result ≡ handed.Failed)

module _ {E : Type 0} where
  -- the answer to a spawn is what it came to
  abbrev pub AnswersSpawn : Result SpawnAnswer E → Option Answer → Option Answer → Result Handed E
      → Type 0
  AnswersSpawn (Ok given) old new result =
      (new ≡ Some (answer_of_spawn given)) × (result ≡ Ok handed.Done)
  AnswersSpawn (Err error) old new result = (new ≡ old) × IsErr result

  -- the answer to a question of a file is what it came to
  abbrev pub AnswersFile : Result FileAnswer E → Option Answer → Option Answer → Result Handed E
      → Type 0
  AnswersFile (Ok given) old new (Ok handed) = KeepsFile given old new handed
  AnswersFile (Ok given) old new (Err error) = ⊥
  AnswersFile (Err error) old new result = (new ≡ old) × IsErr result
