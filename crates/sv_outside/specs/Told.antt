-- Lists that an object of the outside tells, where it tells them.
use Rattle.std.specs.Prelude.{◌≡◌, ◌++◌, List, Option, None, Some}

-- a told list grew by these at its end, or it is told no more
abbrev pub GrowsWhileTold : {A : Type 0} → Option (List A) → Option (List A) → List A → Type 0
GrowsWhileTold None new more = new ≡ None
GrowsWhileTold (Some told) None more = Unit {0}
GrowsWhileTold (Some told) (Some now) more = now ≡ told ++ more
