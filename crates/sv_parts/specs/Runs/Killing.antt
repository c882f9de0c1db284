-- What an order to send a signal to a run comes to.
use Rattle.std.specs.Prelude.{◌≡◌, ℕ, Bool, true, false, List, Option, None, Some, Result, Ok, Err}
use Rattle.std.specs.Prelude.{slice_get}
use Rattle.sv_base.specs.declared.signal.Signal.{Signal}
use Rattle.sv_outside.specs.Spawning.{with_one}
use Rattle.sv_outside.specs.declared.spawner.Asked.{Asked}
use Rattle.sv_outside.specs.declared.spawner.Asked.TheVariants.{Kill}
use Rattle.sv_parts.specs.Runs.Lives.{place_of}
use Rattle.sv_parts.specs.declared.runs.life.Life.{Life}
use Rattle.sv_outside.specs.declared.handing.Handed.{Handed}
use Rattle.sv_outside.specs.declared.handing.Handed.TheVariants.{Done, Failed}

-- the spawner was asked once, for the process of the life at this place
pub record AsksAt (place : ℕ) (lives : List Life) (signal : Signal) (group sent : Bool)
    (old new : Option (List Asked)) : Type 0 where
  pub life : Life
  pub here : slice_get lives place ≡ Some life
  pub asked : new ≡ with_one (Kill life.pid signal group sent) old

-- by the place of the run; where memory was refused, or where there is no such run, nothing is told
abbrev pub KillsAt : {E : Type 0} → Option ℕ → Signal → Bool → List Life → Result Handed E
    → Option (List Asked) → Option (List Asked) → Type 0
KillsAt None signal group lives (Ok Done) old new = new ≡ old
KillsAt None signal group lives (Ok Failed) old new = ⊥
KillsAt None signal group lives (Err error) old new = ⊥
KillsAt (Some place) signal group lives (Ok Done) old new =
    AsksAt place lives signal group true old new
KillsAt (Some place) signal group lives (Ok Failed) old new =
    AsksAt place lives signal group false old new
KillsAt (Some place) signal group lives (Err error) old new = new ≡ old

-- for the run of this number
abbrev pub Kills : {E : Type 0} → ℕ → Signal → Bool → List Life → Result Handed E
    → Option (List Asked) → Option (List Asked) → Type 0
Kills run signal group lives result old new =
    KillsAt (place_of run lives) signal group lives result old new

-- the signal wasn't sent
abbrev pub IsUnsent : {E : Type 0} → Result Handed E → Type 0
IsUnsent (Ok Done) = ⊥
IsUnsent (Ok Failed) = Unit {0}
IsUnsent (Err error) = ⊥
