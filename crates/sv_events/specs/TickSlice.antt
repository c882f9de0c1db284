-- Ticks (the manual's chapter on events): a period's tick comes when the clock stands in another
-- slice of that period.
use Rattle.std.specs.Prelude.{List, [], ◌∷◌, ℕ, ◌*◌, ◌/◌, nat_eq, Option, Some, None, if◌then◌else◌}

-- the slice of a period of so many seconds in which a moment lies
abbrev pub slice_of : ℕ → ℕ → ℕ
slice_of seconds moment = moment / (1000 * seconds)

-- the tick of a period between an old and a new moment: the start of the new slice, in seconds
abbrev pub tick : ℕ → ℕ → ℕ → Option ℕ
tick seconds old new =
    if nat_eq (slice_of seconds old) (slice_of seconds new) then None
    else Some (seconds * slice_of seconds new)

-- of the periods of 5, 60 and 3,600 seconds
abbrev pub ticks : ℕ → ℕ → List (Option ℕ)
ticks old new = tick 5 old new ∷ tick 60 old new ∷ tick 3600 old new ∷ []
