-- The words of the jobs that a gate kept.
use Rattle.std.specs.Prelude.{◌++◌, ◌∷◌, Bool, List, [], Option, None, Some, if◌then◌else◌}
use Rattle.sv_outside.specs.declared.jobs.JobWord.{JobWord}

-- a job of this word was kept, or it came back
abbrev pub kept_more : JobWord → Bool → Option (List JobWord) → Option (List JobWord)
kept_more word kept None = None
kept_more word kept (Some words) = Some (if kept then words ++ word ∷ [] else words)
