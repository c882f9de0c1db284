-- The cut of a captured stream (the manual's chapter on events, "PROCESS_COMMUNICATION"): at each
-- BEGIN outside and at each END inside. Bytes outside are for the log, and bytes inside make a
-- message.
use Rattle.std.specs.Prelude.{◌≡◌, ◌≢◌, ◌≤◌, ◌-◌, ℕ, List, [], ◌∷◌, ◌++◌, length, drop, map, codes}
use Rattle.std.specs.List.{flat_map}
use Rattle.sv_pipes.specs.declared.parts.Part.{Part}
use Rattle.sv_pipes.specs.declared.parts.Part.TheVariants as part
use Rattle.sv_pipes.specs.declared.parts.Side.{Side}
use Rattle.sv_pipes.specs.declared.parts.Side.TheVariants.{Outside, Inside}

-- the token at which a message begins
abbrev pub begin_token : List ℕ
begin_token = codes "<!--XSUPERVISOR:BEGIN-->"

-- the token at which it ends
abbrev pub end_token : List ℕ
end_token = codes "<!--XSUPERVISOR:END-->"

-- the token that is awaited outside, and inside
abbrev pub awaited : Side → List ℕ
awaited Outside = begin_token
awaited Inside = end_token

-- the last so many bytes
abbrev pub last_of : ℕ → List ℕ → List ℕ
last_of limit bytes = drop (length bytes - limit) bytes

-- what is decided: a byte for the log, or a message
pub data Decided : Type 0 where
  Byte : (byte : ℕ) → Decided
  Message : (bytes : List ℕ) → Decided

-- a stretch of the stream up to the token after it: outside up to a BEGIN, and inside up to an END
pub data Stretch : Type 0 where
  Plain : (bytes : List ℕ) → Stretch
  Captured : (bytes : List ℕ) → Stretch

-- how a stretch stands in the stream, with its token
abbrev pub spelled : Stretch → List ℕ
spelled (Plain bytes) = bytes ++ begin_token
spelled (Captured bytes) = bytes ++ end_token

-- a stretch is decided as its bytes, or as the message of its last bytes
abbrev pub decided_by : ℕ → Stretch → List Decided
decided_by limit (Plain bytes) = map Byte bytes
decided_by limit (Captured bytes) = Message (last_of limit bytes) ∷ []

-- no token stands in these bytes
abbrev pub Lacks : List ℕ → List ℕ → Type 0
Lacks token bytes = (front back : List ℕ) → bytes ≡ front ++ token ++ back → ⊥

-- where a token follows these bytes, it ends there for the first time
abbrev pub IsFirst : List ℕ → List ℕ → Type 0
IsFirst token bytes = (front back : List ℕ) → bytes ++ token ≡ front ++ token ++ back → back ≡ []

-- a stretch leads from one side to the other
abbrev pub Leads : Side → Stretch → Side → Type 0
Leads Outside (Plain bytes) Inside = IsFirst begin_token bytes
Leads Inside (Captured bytes) Outside = IsFirst end_token bytes
Leads from stretch to = ⊥

-- stretches one after the other lead from one side to the other
abbrev pub Lead : Side → List Stretch → Side → Type 0
Lead from [] to = from ≡ to
Lead from (stretch ∷ stretches) to =
    (next : Side) × Leads from stretch next × Lead next stretches to

-- no longer tail of these bytes is a proper prefix of the token
abbrev pub IsLongest : List ℕ → List ℕ → List ℕ → Type 0
IsLongest token bytes held =
    (front tail rest : List ℕ) → bytes ≡ front ++ tail → token ≡ tail ++ rest → rest ≢ []
    → length tail ≤ length held

-- the bytes shown of the last stretch are decided outside alone
abbrev pub decided_open : Side → List ℕ → List Decided
decided_open Outside shown = map Byte shown
decided_open Inside shown = []

-- a stream and what is decided of it: whole stretches, then what is shown of the last one, which
-- has no token, and after that its longest tail that may begin one
pub record IsCut (limit : ℕ) (stream : List ℕ) (decided : List Decided) (side : Side)
    (shown held : List ℕ) : Type 0 where
  pub stretches : List Stretch
  pub cut : stream ≡ flat_map spelled stretches ++ (shown ++ held)
  pub lead : Lead Outside stretches side
  pub lacks : Lacks (awaited side) (shown ++ held)
  pub left : List ℕ
  pub front : awaited side ≡ held ++ left
  pub proper : left ≢ []
  pub longest : IsLongest (awaited side) (shown ++ held) held
  pub decided_is : decided ≡ flat_map (decided_by limit) stretches ++ decided_open side shown

-- what the end of the stream decides: a held tail outside
abbrev pub IsClosed : ℕ → List ℕ → List Decided → Type 0
IsClosed limit stream decided =
    (before : List Decided) × (side : Side) × (shown : List ℕ) × (held : List ℕ)
    × IsCut limit stream before side shown held × (decided ≡ before ++ decided_open side held)

-- a byte before the parts of what is decided: neighbouring bytes are one part, and none is empty
abbrev pub with_byte : ℕ → List Part → List Part
with_byte byte (part.Logged bytes ∷ parts) = part.Logged (byte ∷ bytes) ∷ parts
with_byte byte parts = part.Logged (byte ∷ []) ∷ parts

-- all parts of what is decided
abbrev pub grouped : List Decided → List Part
grouped [] = []
grouped (Byte byte ∷ decided) = with_byte byte (grouped decided)
grouped (Message bytes ∷ decided) = part.Message bytes ∷ grouped decided
