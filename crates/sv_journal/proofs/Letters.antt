-- The bytes that a token may spell one after the other: those that may follow each other, each below 256.
use Rattle.std.proofs.Common.{◌≡◌, ℕ, Bool, true, ◌&&◌, ltb, List, [], ◌∷◌, IsUtf8}
use Rattle.std.specs.Prelude.{chars}
use Rattle.std.specs.List.{list_all}
use Rattle.std.proofs.lemmas.Bool.{lt-ltb, and_parts, and_from}
use Rattle.sv_letters.specs.Letters.{is_letter, allows, after, is_whole, are_letters}
use Rattle.sv_letters.specs.declared.letters.Letters.{Letters}
use Rattle.sv_letters.specs.declared.letters.Awaits.{Awaits}
use Rattle.sv_letters.specs.declared.letters.Awaits.TheVariants.{Character}
use Rattle.sv_letters.proofs.LetterLaws.{IsText, IsOpen, Read, after_open, allowed_byte}
use Rattle.sv_letters.proofs.LetterLaws as laws

-- these bytes may come one after the other, and may then end
abbrev pub accepts : Letters → Awaits → List ℕ → Bool
accepts letters awaits [] = is_whole awaits
accepts letters awaits (b ∷ bs) = (ltb b 256 && allows letters awaits b) && accepts letters (after letters awaits b) bs

accepted_letters : (letters : Letters) (awaits : Awaits) (bs : List ℕ) → accepts letters awaits bs ≡ true → are_letters letters awaits bs ≡ true
accepted_letters letters awaits [] e = e
accepted_letters letters awaits (b ∷ bs) e =
    let p = and_parts (ltb b 256 && allows letters awaits b) (accepts letters (after letters awaits b) bs) e in
    let q = and_parts (ltb b 256) (allows letters awaits b) p.0 in
    and_from (allows letters awaits b) (are_letters letters (after letters awaits b) bs) q.1 (accepted_letters letters (after letters awaits b) bs p.1)

letters_accepted : (letters : Letters) (awaits : Awaits) (bs : List ℕ) → IsOpen awaits → are_letters letters awaits bs ≡ true → accepts letters awaits bs ≡ true
letters_accepted letters awaits [] o e = e
letters_accepted letters awaits (b ∷ bs) o e =
    let p = and_parts (allows letters awaits b) (are_letters letters (after letters awaits b) bs) e in
    let small = lt-ltb b 256 (allowed_byte letters awaits b o p.0) in
    and_from (ltb b 256 && allows letters awaits b) (accepts letters (after letters awaits b) bs) (and_from (ltb b 256) (allows letters awaits b) small p.0)
    (letters_accepted letters (after letters awaits b) bs (after_open letters awaits b) p.1)

pub read_accepted : (letters : Letters) → IsText letters → (bs : List ℕ) → accepts letters Character bs ≡ true → Read letters bs
read_accepted letters t bs e = laws.read_accepted letters t bs (accepted_letters letters Character bs e)

pub accepts_read : (letters : Letters) → IsText letters → (bs : List ℕ) → IsUtf8 bs → list_all (is_letter letters) (chars bs) ≡ true → accepts letters Character bs ≡ true
accepts_read letters t bs u e = letters_accepted letters Character bs tt (laws.accepts_read letters t bs u e)
