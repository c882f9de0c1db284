-- What the reader of a piece of a pipe or a link gives: the bytes that a token spells, up to the
-- line's end, or the number of bytes that are left at the first bad one. No piece is empty, so a
-- lone percent sign is the prefix of one.
use Rattle.std.specs.Prelude.{ℕ, zero, suc, List, [], ◌∷◌, ◌++◌, length, ◌==◌, if◌then◌else◌}
use Rattle.std.specs.Prelude.{Result, Ok, Err}
use Rattle.sv_base.specs.Ascii.{percent_sign}
use Rattle.sv_base.specs.Limits.{piece_limit}
use Rattle.sv_journal.specs.Spelling.{stands_for_itself}
use Rattle.sv_journal.specs.Reading.{◌>>=◌, escape_at}
use Rattle.sv_letters.specs.declared.letters.Letters.TheVariants.{OfBytes}
use Rattle.sv_letters.specs.declared.letters.Awaits.TheVariants.{Character}

-- the byte that is spelled here
abbrev pub byte_at : List ℕ → Result (ℕ × List ℕ) ℕ
byte_at [] = Err 0
byte_at (b ∷ bs) =
    if b == percent_sign then escape_at OfBytes Character bs
    else if stands_for_itself b then Ok (b, bs)
    else Err (suc (length bs))

-- these bytes, and then what was read after them
abbrev pub with_bytes : List ℕ → Result (List ℕ) ℕ → Result (List ℕ) ℕ
with_bytes xs (Ok v) = Ok (xs ++ v)
with_bytes xs (Err left) = Err left

-- the bytes up to the line's end, for which there is so much room
abbrev pub bytes_at : ℕ → List ℕ → Result (List ℕ) ℕ
bytes_at room [] = Ok []
bytes_at zero (b ∷ bs) = Err (suc (length bs))
bytes_at (suc room) (b ∷ bs) = byte_at (b ∷ bs) >>= (λ r. with_bytes (r.0 ∷ []) (bytes_at room r.1))

-- a piece, which ends the line
abbrev pub piece_at : List ℕ → Result (List ℕ) ℕ
piece_at [] = Err 0
piece_at (b ∷ bs) = bytes_at piece_limit (b ∷ bs)
