-- What the readers answer, by the good prefix of the bytes: the longest one with which a spelled
-- text begins.
use Rattle.std.specs.Prelude.{◌≡◌, ◌≤◌, ◌<◌, ℕ, List, length, Result, Ok, Err}
use Rattle.sv_xmlcall.specs.Beginnings.{IsLongest}
use Rattle.sv_xmlcall.specs.Openings.{amount_in, depth_in}
use Rattle.sv_xmlcall.specs.declared.call.CallFault.{CallFault}
use Rattle.sv_xmlcall.specs.declared.call.CallFault.TheVariants as fault

-- the good prefix opens no value inside 32 others, and no more than 65,536
abbrev pub IsFew : List ℕ → Type 0
IsFew front = (depth_in front ≤ 32) × (amount_in front ≤ 65536)

-- the fault of bytes with this good prefix
abbrev pub RefusesFor : List ℕ → CallFault → Type 0
RefusesFor front fault.TooDeep = 32 < depth_in front
RefusesFor front fault.TooManyValues = (depth_in front ≤ 32) × (65536 < amount_in front)
RefusesFor front (fault.NotACall place) = IsFew front × (place ≡ length front)
RefusesFor front fault.OutOfMemory = Unit {0}

-- the answer for bytes with this good prefix
abbrev pub AnswersFor : {X : Type 0} → List ℕ → Result X CallFault → Type 0
AnswersFor front (Ok x) = IsFew front
AnswersFor front (Err fault) = RefusesFor front fault

-- the good prefix of the bytes tells the answer
pub record Judges {X : Type 0} (Begins : List ℕ → Type 0) (bytes : List ℕ)
    (result : Result X CallFault) : Type 0 where
  pub front : List ℕ
  pub good : IsLongest Begins bytes front
  pub answers : AnswersFor front result
