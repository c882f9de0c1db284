-- Which bytes may come one after the other, for all letters at once.
use Rattle.std.proofs.Common.{◌≡◌, ◌≢◌, ◌↔◌, ℕ, true, leb, List, [], ◌∷◌, inl, inr, refl, arith, IsUtf8}
use Rattle.std.specs.Prelude.{chars, nat_lt}
use Rattle.std.specs.List.{list_all}
use Rattle.std.proofs.lemmas.Bool.{cases_lt, lt-ltb, le-ltb, lt-leb}
use Rattle.std.proofs.Math.Bool.{and-false}
use Rattle.sv_letters.specs.Letters.{is_letter, are_letters}
use Rattle.sv_letters.specs.declared.letters.Letters.{Letters}
use Rattle.sv_letters.specs.declared.letters.Letters.TheVariants.{OfText, OfName, OfBytes, OfXml}
use Rattle.sv_letters.specs.declared.letters.Awaits.TheVariants.{Character}
use Rattle.sv_letters.proofs.LetterLaws.{IsText, read_accepted, read_utf8, read_letters, accepts_read}

text_letters : (letters : Letters) → letters ≢ OfBytes → IsText letters
text_letters OfText n = refl
text_letters OfName n = refl
text_letters OfXml n = refl
text_letters OfBytes n = absurd (n refl)

pub text : (letters : Letters) (bytes : List ℕ) → letters ≢ OfBytes → (are_letters letters Character bytes ≡ true) ↔ (IsUtf8 bytes × (list_all (is_letter letters) (chars bytes) ≡ true))
text letters bytes n =
    let t = text_letters letters n in (
      λ e. let r = read_accepted letters t bytes e in (read_utf8 letters bytes r, read_letters letters bytes r),
      λ u. accepts_read letters t bytes u.0 u.1,
    )

pub any : (bytes : List ℕ) → are_letters OfBytes Character bytes ≡ list_all (λ b. nat_lt b 256) bytes
any [] = refl
any (b ∷ bytes) = elim (cases_lt b 256) [
  | inl h ↦ rw (lt-ltb b 256 h) (any bytes)
  | inr h ↦ rw (le-ltb b 256 h, lt-leb b 244 (omega arith), and-false (leb 194 b)) refl
]
