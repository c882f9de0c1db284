-- What the notes of a run change.
use Rattle.std.specs.Prelude.{◌≡◌, ◌-◌, ◌++◌, ◌∷◌, ℕ, true, List, [], Option, Some, remove}
use Rattle.std.specs.Prelude.{slice_get}
use Rattle.sv_jobs.specs.declared.notes.StdinWord.{StdinWord}
use Rattle.sv_jobs.specs.declared.notes.StdinWord.TheVariants.{Close}
use Rattle.sv_lane.specs.Ends.{IsSameSeat, posted}
use Rattle.sv_lane.specs.declared.poster.Poster.{Poster}
use Rattle.sv_parts.specs.declared.runs.life.Life.{Life}

-- one piece less is unwritten
abbrev pub Settles : Life → Life → Type 0
Settles old new = new ≡ record old { unwritten = old.unwritten - 1 }

-- nothing more is written
abbrev pub Closes : Life → Life → Type 0
Closes old new = new ≡ record old { closed = true }

-- the life of one place is gone, and the others stand in their order
abbrev pub Leaves : ℕ → List Life → List Life → Type 0
Leaves place old new = new ≡ remove old place

-- a Close was posted for the life that stood at one place
pub record WasClosed (place : ℕ) (lives : List Life) (closed : Option (Poster StdinWord)) : Type 0
  where
    pub life : Life
    pub words : Poster StdinWord
    pub here : slice_get lives place ≡ Some life
    pub given : closed ≡ Some words
    pub close : posted words ≡ posted life.words ++ Close ∷ []
    pub same : IsSameSeat life.words words
