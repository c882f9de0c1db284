-- The last notes of a job.
use Rattle.std.specs.Prelude.{List, [], ◌∷◌}
use Rattle.sv_jobs.specs.declared.notes.Note.{Note}
use Rattle.sv_jobs.specs.declared.notes.Note.TheVariants.{NoMemory}
use Rattle.sv_outside.specs.declared.jobs.PumpEnd.{PumpEnd}
use Rattle.sv_outside.specs.declared.jobs.PumpEnd.TheVariants.{Ended, Failed, OutOfMemory}

-- the last note; where memory was refused, that is told just before
abbrev pub last_notes : PumpEnd → Note → List Note
last_notes Ended last = last ∷ []
last_notes Failed last = last ∷ []
last_notes OutOfMemory last = NoMemory ∷ last ∷ []
