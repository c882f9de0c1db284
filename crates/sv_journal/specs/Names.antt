-- What the readers of names that rise give: each stands above the one before it, by its bytes.
use Rattle.std.specs.Prelude.{ℕ, zero, suc, List, [], ◌∷◌, Bool, ◌&&◌, nat_le, codes, ◌==◌}
use Rattle.std.specs.Prelude.{if◌then◌else◌, Result, Ok, Option, None, Some}
use Rattle.sv_journal.specs.Escapes.{byte_of}
use Rattle.sv_letters.specs.Letters.{allows, after}
use Rattle.sv_journal.specs.Reading.{◌>>=◌, word_at, token_from, token_at, with_first, with_item}
use Rattle.sv_journal.specs.Reading.Stage.{Between}
use Rattle.sv_letters.specs.declared.letters.Letters.TheVariants.{OfText}
use Rattle.sv_letters.specs.declared.letters.Awaits.{Awaits}
use Rattle.sv_letters.specs.declared.letters.Awaits.TheVariants.{Character}

-- a byte of a text that may come at this place, and isn't below the least one
abbrev pub text_byte : ℕ → Awaits → ℕ → Bool
text_byte least awaits b = nat_le least b && allows OfText awaits b

-- what follows this byte of a text is any
abbrev pub any_from : Awaits → ℕ → List ℕ → Result (List ℕ × List ℕ) ℕ
any_from awaits b = token_from OfText (Between (after OfText awaits b))

-- the rest of a text that stands above another one, after what the two have in common: what is left
-- of the other one stands first here. A byte that is greater lifts the text above it, and so does
-- any byte where nothing of it is left
abbrev pub above_from : List ℕ → Awaits → List ℕ → Result (List ℕ × List ℕ) ℕ
above_from [] awaits bs =
    byte_of (text_byte 0 awaits) bs >>= (λ r. with_first r.0 (any_from awaits r.0 r.1))
above_from (same ∷ left) awaits bs =
    byte_of (text_byte same awaits) bs
    >>=
    (λ r. with_first r.0
    (if r.0 == same then above_from left (after OfText awaits r.0) r.1
    else any_from awaits r.0 r.1))

-- a name that stands above the one before it, if there is one
abbrev pub name_at : Option (List ℕ) → List ℕ → Result (List ℕ × List ℕ) ℕ
name_at None = token_at OfText
name_at (Some below) = above_from below Character

-- and after a space
abbrev pub spaced_name_at : Option (List ℕ) → List ℕ → Result (List ℕ × List ℕ) ℕ
spaced_name_at below bs = word_at (codes " ") bs >>= name_at below

-- so many names, each after a space and above the one before it
abbrev pub names_at : Option (List ℕ) → ℕ → List ℕ → Result (List (List ℕ) × List ℕ) ℕ
names_at below zero bs = Ok ([], bs)
names_at below (suc n) bs =
    spaced_name_at below bs >>= (λ r. with_item r.0 (names_at (Some r.0) n r.1))
