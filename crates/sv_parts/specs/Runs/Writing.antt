-- What an order to write a run's standard input comes to.
use Rattle.std.specs.Prelude.{◌≡◌, ℕ, Bool, true, false, List, Option, None, Some, Result, Ok, Err}
use Rattle.sv_parts.specs.Runs.Lives.{ChangesAt, Posts, is_full, place_of}
use Rattle.sv_parts.specs.declared.runs.life.Life.{Life}
use Rattle.sv_outside.specs.declared.handing.Handed.{Handed}
use Rattle.sv_outside.specs.declared.handing.Handed.TheVariants.{Done, Failed}
use Rattle.std.specs.Prelude.{slice_get}

-- the life at a place takes no further piece
pub record IsFullAt (place : ℕ) (lives : List Life) : Type 0 where
  pub life : Life
  pub here : slice_get lives place ≡ Some life
  pub full : is_full life ≡ true

-- by the place of the run: one piece is posted there; where it takes none the order fails; where
-- memory was refused, or where there is no such run, nothing changes
abbrev pub WritesAt : {E : Type 0} → Option ℕ → List ℕ → List Life → List Life → Result Handed E
    → Type 0
WritesAt None bytes old new (Ok Done) = new ≡ old
WritesAt None bytes old new (Ok Failed) = ⊥
WritesAt None bytes old new (Err error) = ⊥
WritesAt (Some place) bytes old new (Ok Done) = ChangesAt place (Posts bytes) old new
WritesAt (Some place) bytes old new (Ok Failed) = IsFullAt place old × (new ≡ old)
WritesAt (Some place) bytes old new (Err error) = new ≡ old

-- for the run of this number
abbrev pub Writes : {E : Type 0} → ℕ → List ℕ → List Life → List Life → Result Handed E → Type 0
Writes run bytes old new result = WritesAt (place_of run old) bytes old new result
