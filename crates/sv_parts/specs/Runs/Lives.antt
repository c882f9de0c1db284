-- The runs whose processes live, and what orders and notes change of them.
use Rattle.std.specs.Prelude.{◌≡◌, ◌==◌, ◌+◌, ◌-◌, ◌^◌, ◌++◌, ◌∷◌, ◌||◌, ℕ, Bool, List, [], Option}
use Rattle.std.specs.Prelude.{Some, length, min, nat_le, position, slice_get, slice_set}
use Rattle.sv_jobs.specs.declared.notes.StdinWord.TheVariants.{Write}
use Rattle.sv_lane.specs.Ends.{IsSameSeat, posted}
use Rattle.sv_parts.specs.declared.runs.life.Life.{Life}

-- a life of this run
abbrev pub is_of : ℕ → Life → Bool
is_of run life = life.run.0 == run

-- where the life of a run stands, while its process lives
abbrev pub place_of : ℕ → List Life → Option ℕ
place_of run lives = position (is_of run) lives

-- no further piece can be posted: nothing more is written, or 64 pieces are unwritten
abbrev pub is_full : Life → Bool
is_full life = life.closed || nat_le 64 life.unwritten

-- the same run
pub record IsSameLife (old new : Life) : Type 0 where
  pub run : new.run ≡ old.run
  pub pid : new.pid ≡ old.pid
  pub seat : IsSameSeat old.words new.words

-- a piece was posted
pub record Posts (bytes : List ℕ) (old new : Life) : Type 0 where
  pub same : IsSameLife old new
  pub word : posted new.words ≡ posted old.words ++ Write bytes ∷ []
  pub unwritten : new.unwritten ≡ min (old.unwritten + 1) (2 ^ 32 - 1)
  pub closed : new.closed ≡ old.closed

-- the life at one place changed so, and no other
pub record ChangesAt (place : ℕ) (change : Life → Life → Type 0) (old new : List Life) : Type 0
  where
    pub before : Life
    pub after : Life
    pub here : slice_get old place ≡ Some before
    pub others : new ≡ slice_set old place after
    pub changed : change before after
