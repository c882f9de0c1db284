-- The count of faults that each object of the outside keeps.
use Rattle.std.specs.Prelude.{ℕ, ◌+◌, ◌-◌, ◌^◌, ◌≤◌, min, OnErr, Result}

-- a count that went up by one, as far as its range goes
abbrev pub counted : ℕ → ℕ
counted count = min (count + 1) (2 ^ 64 - 1)

-- the count went up, or stands at the end of its range
abbrev pub Rose : ℕ → ℕ → Type 0
Rose before now = counted before ≤ now

-- the count never falls, and an error comes only where it rose
pub record HasCause {A E : Type 0} (before now : ℕ) (result : Result A E) : Type 0 where
  pub later : before ≤ now
  pub failed : OnErr result (Rose before now)

-- the count never falls, and the answer is this one only where it rose
pub record RisesWhere (before now : ℕ) (answer : Type 0) : Type 0 where
  pub later : before ≤ now
  pub rose : answer → Rose before now
