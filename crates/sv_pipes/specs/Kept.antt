-- What is kept of a message, of whose bytes only the last ones count, and the part that bytes
-- outside make.
use Rattle.std.specs.Prelude.{ℕ, List, [], ◌∷◌, ◌++◌, ◌==◌, Bool, length, drop, nat_lt, not}
use Rattle.std.specs.Prelude.{if◌then◌else◌}
use Rattle.sv_base.specs.Ascii.{less_sign}
use Rattle.sv_pipes.specs.declared.parts.Part.{Part}
use Rattle.sv_pipes.specs.declared.parts.Part.TheVariants.{Logged}

-- a byte with which no token begins
abbrev pub is_plain : ℕ → Bool
is_plain byte = not (byte == less_sign)

-- a further byte of a message
abbrev pub kept : ℕ → List ℕ → ℕ → List ℕ
kept limit body byte =
    if nat_lt limit (length (body ++ byte ∷ [])) then drop 1 (body ++ byte ∷ [])
    else body ++ byte ∷ []

-- further bytes of a message
abbrev pub all_kept : ℕ → List ℕ → List ℕ → List ℕ
all_kept limit body [] = body
all_kept limit body (byte ∷ bytes) = all_kept limit (kept limit body byte) bytes

-- the part of these bytes, where there are some
abbrev pub logged_part : List ℕ → List Part
logged_part [] = []
logged_part (byte ∷ bytes) = Logged (byte ∷ bytes) ∷ []
