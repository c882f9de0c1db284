-- The cut of a whole captured stream, as a function: up to the first awaited token, and then what
-- follows it.
use Rattle.std.specs.Prelude.{◌==◌, ◌+◌, ◌++◌, ◌∷◌, ℕ, zero, suc, List, [], length, Option, None}
use Rattle.std.specs.Prelude.{Some, option_map, if◌then◌else◌}
use Rattle.sv_pipes.specs.CaptureCut.{Decided, Stretch, awaited, decided_by, decided_open, last_of}
use Rattle.sv_pipes.specs.CaptureCut.Stretch.{Plain, Captured}
use Rattle.sv_pipes.specs.declared.parts.Side.{Side}
use Rattle.sv_pipes.specs.declared.parts.Side.TheVariants.{Outside, Inside}

-- what follows this text at the beginning of the bytes
abbrev pub rest_after : List ℕ → List ℕ → Option (List ℕ)
rest_after [] bytes = Some bytes
rest_after (byte ∷ text) [] = None
rest_after (byte ∷ text) (other ∷ bytes) = if other == byte then rest_after text bytes else None

-- the bytes before the first such token and what follows it, by whether one stands here
abbrev pub split_here : ℕ → Option (List ℕ) → Option (List ℕ × List ℕ) → Option (List ℕ × List ℕ)
split_here byte (Some rest) later = Some ([], rest)
split_here byte None later = option_map (λ parts. (byte ∷ parts.0, parts.1)) later

-- the first such token anywhere in the bytes
abbrev pub split_at : List ℕ → List ℕ → Option (List ℕ × List ℕ)
split_at token [] = None
split_at token (byte ∷ bytes) =
    split_here byte (rest_after token (byte ∷ bytes)) (split_at token bytes)

-- of bytes without such a token, what is shown, and after it the longest tail that begins one, by
-- whether one begins here
abbrev pub held_here : ℕ → List ℕ → Option (List ℕ) → List ℕ × List ℕ → List ℕ × List ℕ
held_here byte bytes (Some (next ∷ left)) later = ([], byte ∷ bytes)
held_here byte bytes begun later = (byte ∷ later.0, later.1)

-- what is shown and what is held of all bytes
abbrev pub open_at : List ℕ → List ℕ → List ℕ × List ℕ
open_at token [] = ([], [])
open_at token (byte ∷ bytes) =
    held_here byte bytes (rest_after (byte ∷ bytes) token) (open_at token bytes)

-- these bytes as a stretch of a side
abbrev pub stretch_on : Side → List ℕ → Stretch
stretch_on Outside bytes = Plain bytes
stretch_on Inside bytes = Captured bytes

-- the side after the token of a side
abbrev pub side_after : Side → Side
side_after Outside = Inside
side_after Inside = Outside

-- a cut: what is decided, the side on which the stream ends, and there what is shown and what is
-- held
pub record Cut : Type 0 where
  pub decided : List Decided
  pub side : Side
  pub shown : List ℕ
  pub held : List ℕ

-- the cut of bytes without a token, from what is shown and held of them
abbrev pub open_cut : Side → List ℕ × List ℕ → Cut
open_cut side parts =
    record { decided = decided_open side parts.0; side = side; shown = parts.0; held = parts.1 }

-- a cut after what is decided before it
abbrev pub with_stretch : List Decided → Cut → Cut
with_stretch decided cut = record cut { decided = decided ++ cut.decided }

-- the cut of bytes, by their first token
abbrev pub cut_by : (List ℕ → Cut) → ℕ → Side → List ℕ → Option (List ℕ × List ℕ) → Cut
cut_by further limit side bytes None = open_cut side (open_at (awaited side) bytes)
cut_by further limit side bytes (Some (stretch, rest)) =
    with_stretch (decided_by limit (stretch_on side stretch)) (further rest)

-- the cut of bytes with at most so many tokens
abbrev pub cut_at : ℕ → ℕ → Side → List ℕ → Cut
cut_at zero limit side bytes = open_cut side (open_at (awaited side) bytes)
cut_at (suc most) limit side bytes =
    cut_by (cut_at most limit (side_after side)) limit side bytes (split_at (awaited side) bytes)

-- the cut of a whole stream
unfoldable pub cut_of : ℕ → List ℕ → Cut
cut_of limit stream = cut_at (length stream) limit Outside stream

-- how many bytes on a side aren't decided: the held tail, and inside the last ones shown, as many
-- as a message has
abbrev pub undecided_on : ℕ → Side → List ℕ → List ℕ → ℕ
undecided_on limit Outside shown held = length held
undecided_on limit Inside shown held = length (last_of limit shown) + length held

-- how many bytes of a whole stream aren't decided yet
abbrev pub undecided_of : ℕ → List ℕ → ℕ
undecided_of limit stream =
    let cut = cut_of limit stream in undecided_on limit cut.side cut.shown cut.held

-- what is decided of a whole stream
abbrev pub decided_of : ℕ → List ℕ → List Decided
decided_of limit stream = (cut_of limit stream).decided

-- what is decided where it ends there
abbrev pub closed_of : ℕ → List ℕ → List Decided
closed_of limit stream =
    let cut = cut_of limit stream in cut.decided ++ decided_open cut.side cut.held
