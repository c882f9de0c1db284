-- How far a capture has come: what is kept of its undecided bytes, and what one more byte makes of
-- it.
use Rattle.std.specs.Prelude.{◌≡◌, ◌<◌, ◌+◌, ◌-◌, ◌==◌, ℕ, List, [], ◌∷◌, ◌++◌, length, take, true}
use Rattle.std.specs.Prelude.{false, if◌then◌else◌}
use Rattle.sv_base.specs.Ascii.{less_sign}
use Rattle.sv_pipes.specs.CaptureCut.{Decided, IsCut, awaited, begin_token, end_token, last_of}
use Rattle.sv_pipes.specs.Kept.{kept, all_kept, logged_part}
use Rattle.sv_pipes.specs.TalkPlaces.{is_next}
use Rattle.sv_pipes.specs.declared.captured.Capture.{Capture}
use Rattle.sv_pipes.specs.declared.parts.Part.{Part}
use Rattle.sv_pipes.specs.declared.parts.Part.TheVariants.{Message}
use Rattle.sv_pipes.specs.declared.parts.Side.{Side}
use Rattle.sv_pipes.specs.declared.parts.Side.TheVariants.{Outside, Inside}

-- inside, the last bytes shown are kept
abbrev pub IsKept : ℕ → Side → List ℕ → List ℕ → Type 0
IsKept limit Outside shown body = body ≡ []
IsKept limit Inside shown body = body ≡ last_of limit shown

-- the side, how much of its token came and the bytes kept stand for a stream of which this is
-- decided
abbrev pub Stands : ℕ → Side → ℕ → List ℕ → List ℕ → List Decided → Type 0
Stands limit side matched body stream decided =
    (shown : List ℕ) × IsCut limit stream decided side shown (take matched (awaited side))
    × (matched < length (awaited side)) × IsKept limit side shown body

-- the value stands for a stream whose messages have at most so many bytes, and of which this is
-- decided
abbrev pub StandsFor : Capture → ℕ → List ℕ → List Decided → Type 0
StandsFor value limit stream decided =
    (value.broken ≡ false) × (value.limit ≡ limit)
    × Stands limit value.side value.matched value.body.items stream decided

-- memory was refused, so the value stands for no stream
abbrev pub IsBroken : Capture → Type 0
IsBroken value = value.broken ≡ true

-- how many bytes a message has at most
abbrev pub limit_of : Capture → ℕ
limit_of value = value.limit

-- two values keep the same bytes
pub record KeepsSame (one other : Capture) : Type 0 where
  pub side : one.side ≡ other.side
  pub matched : one.matched ≡ other.matched
  pub body : one.body.items ≡ other.body.items

-- what a capture keeps, and the parts of the piece in hand, with the outside bytes that make its
-- next part
pub record CaptureState : Type 0 where
  pub side : Side
  pub matched : ℕ
  pub body : List ℕ
  pub parts : List Part
  pub logged : List ℕ

-- what the value keeps, with the parts so far and the bytes of the next one
abbrev pub shown : Capture → List Part → List ℕ → CaptureState
shown value parts logged =
    record {
      side = value.side;
      matched = value.matched;
      body = value.body.items;
      parts = parts;
      logged = logged;
    }

-- the same of bare values
abbrev pub reads : Side → ℕ → List ℕ → List Part → List ℕ → CaptureState
reads side matched body parts logged =
    record { side = side; matched = matched; body = body; parts = parts; logged = logged }

-- what one more byte outside makes of it: the token goes on, ends, or is text after all
abbrev pub step_outside : ℕ → ℕ → List ℕ → List Part → List ℕ → CaptureState
step_outside matched byte body parts logged =
    if is_next begin_token matched byte
    then (if matched == length begin_token - 1
    then reads Inside 0 body (parts ++ logged_part logged) []
    else reads Outside (matched + 1) body parts logged)
    else (if byte == less_sign then reads Outside 1 body parts (logged ++ take matched begin_token)
    else reads Outside 0 body parts (logged ++ take matched begin_token ++ byte ∷ []))

-- what one more byte inside makes of it
abbrev pub step_inside : ℕ → ℕ → ℕ → List ℕ → List Part → List ℕ → CaptureState
step_inside limit matched byte body parts logged =
    if is_next end_token matched byte
    then (if matched == length end_token - 1
    then reads Outside 0 [] (parts ++ Message body ∷ []) logged
    else reads Inside (matched + 1) body parts logged)
    else
    (if byte == less_sign
    then reads Inside 1 (all_kept limit body (take matched end_token)) parts logged
    else reads Inside 0 (kept limit (all_kept limit body (take matched end_token)) byte) parts
    logged)

-- what one more byte makes of it
abbrev pub step : ℕ → Side → ℕ → ℕ → List ℕ → List Part → List ℕ → CaptureState
step limit Outside matched byte body parts logged = step_outside matched byte body parts logged
step limit Inside matched byte body parts logged = step_inside limit matched byte body parts logged

-- what further bytes make of it
abbrev pub steps : ℕ → CaptureState → List ℕ → CaptureState
steps limit reading [] = reading
steps limit reading (byte ∷ bytes) =
    steps limit
    (step limit reading.side reading.matched byte reading.body reading.parts reading.logged)
    bytes

-- the tail that is held outside
abbrev pub held_outside : Side → ℕ → List ℕ
held_outside Outside matched = take matched begin_token
held_outside Inside matched = []
