-- What a clock in memory tells.
use Rattle.std.specs.Prelude.{ℕ, ◌++◌, ◌∷◌, List, [], Option, None, Some, length, nat_lt}
use Rattle.std.specs.Prelude.{if◌then◌else◌}
use Rattle.sv_outside.specs.declared.clock.FixedClock.{FixedClock}

-- the moments that are still to come, the next one first
abbrev pub moments_left : FixedClock → List ℕ
moments_left clock = clock.next ∷ clock.later.items

-- what is left after one was given; the last one stays
abbrev pub after_moment : List ℕ → List ℕ
after_moment [] = []
after_moment (last ∷ []) = last ∷ []
after_moment (given ∷ next ∷ later) = next ∷ later

-- the moment that is given next, as the trait tells it
abbrev pub next_moment : FixedClock → Option ℕ
next_moment clock = Some clock.next

-- the pauses that it was asked for, as long as there was room for them
abbrev pub told_pauses : FixedClock → Option (List ℕ)
told_pauses clock = if clock.told then Some clock.pauses.items else None

-- how many pauses it can tell
abbrev pub pauses_room : FixedClock → ℕ
pauses_room clock = clock.room

-- a further pause is told while there is room
abbrev pub with_pause : ℕ → ℕ → Option (List ℕ) → Option (List ℕ)
with_pause room pause None = None
with_pause room pause (Some pauses) =
    if nat_lt (length pauses) room then Some (pauses ++ pause ∷ []) else None
