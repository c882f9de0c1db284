-- Bytes from logs as texts whose characters XML allows (XML 1.0, production 2).
use Rattle.std.specs.Prelude.{ℕ, zero, suc, ◌-◌, List, [], ◌∷◌, nat_lt, if◌then◌else◌}
use Rattle.sv_base.specs.Ascii.{question_mark}
use Rattle.sv_letters.specs.Letters.{allows, after, is_whole}
use Rattle.sv_letters.specs.declared.letters.Letters.TheVariants.{OfXml}
use Rattle.sv_letters.specs.declared.letters.Awaits.{Awaits}
use Rattle.sv_letters.specs.declared.letters.Awaits.TheVariants.{Character}

-- how many bytes the character has that begins here and that XML allows; none where none begins
abbrev pub length_from : Awaits → ℕ → List ℕ → ℕ
length_from awaits n [] = 0
length_from awaits n (b ∷ bs) =
    if allows OfXml awaits b then
    if is_whole (after OfXml awaits b) then suc n else length_from (after OfXml awaits b) (suc n) bs
    else 0

-- how many bytes the character of XML has that begins these bytes; none where none does
abbrev pub character_length : List ℕ → ℕ
character_length bs = length_from Character 0 bs

-- Bytes from logs as a text, where so many bytes of a character that is kept are left: a character
-- that XML allows is kept, any other byte becomes a question mark.
abbrev pub log_from : ℕ → List ℕ → List ℕ
log_from left [] = []
log_from zero (b ∷ bs) =
    if nat_lt 0 (character_length (b ∷ bs)) then b ∷ log_from (character_length (b ∷ bs) - 1) bs
    else question_mark ∷ log_from 0 bs
log_from (suc left) (b ∷ bs) = b ∷ log_from left bs

-- the text of bytes from a log
abbrev pub log_text : List ℕ → List ℕ
log_text bytes = log_from 0 bytes
