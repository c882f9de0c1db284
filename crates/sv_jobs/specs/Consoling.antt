-- What the console reads and posts.
use Rattle.std.specs.Prelude.{◌≡◌, ◌≢◌, ◌++◌, ◌∷◌, ℕ, List, [], Option, All}
use Rattle.std.specs.Io.KnownBytes.{Consumes, IsAtEnd}
use Rattle.std.specs.List.{flat_map}
use Rattle.sv_jobs.specs.ConsoleLines.{IsPlain, notes_of, with_feed}
use Rattle.sv_jobs.specs.declared.notes.Note.{Note}
use Rattle.sv_jobs.specs.declared.notes.Note.TheVariants.{NoMemory}
use Rattle.sv_outside.specs.declared.jobs.PumpEnd.{PumpEnd}
use Rattle.sv_outside.specs.declared.jobs.PumpEnd.TheVariants.{Ended, Failed, OutOfMemory}

-- the bytes that were read are lines, each ended by its line feed, and a rest; what the lines ask
-- for was posted, in order. The rest has no line feed, but where memory was refused
pub record Consoling (end : PumpEnd) (left left_after : Option (List ℕ))
    (notes notes_after : List Note) : Type 0 where
  pub lines : List (List ℕ)
  pub rest : List ℕ
  pub bytes : Consumes left left_after (flat_map with_feed lines ++ rest)
  pub plain : All IsPlain lines
  pub open_end : end ≢ OutOfMemory → IsPlain rest
  pub posted : notes_after ≡ notes ++ notes_of lines
  pub whole : end ≡ Ended → IsAtEnd left_after

-- the last note where memory was refused, and only there
abbrev pub refusal : PumpEnd → List Note
refusal Ended = []
refusal Failed = []
refusal OutOfMemory = NoMemory ∷ []

-- and after that, where memory was refused, a note that says so
pub record Consoled (end : PumpEnd) (left left_after : Option (List ℕ))
    (notes notes_after : List Note) : Type 0 where
  pub lines : List (List ℕ)
  pub rest : List ℕ
  pub bytes : Consumes left left_after (flat_map with_feed lines ++ rest)
  pub plain : All IsPlain lines
  pub open_end : end ≢ OutOfMemory → IsPlain rest
  pub posted : notes_after ≡ (notes ++ notes_of lines) ++ refusal end
  pub whole : end ≡ Ended → IsAtEnd left_after
