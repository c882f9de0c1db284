-- What tokens of texts, of names and of any bytes spell.
use Rattle.std.proofs.Common.{◌≡◌, ℕ, true, ltb, List, [], ◌∷◌, Ok, inl, inr, refl, sym, ◌∙◌, IsUtf8}
use Rattle.std.proofs.lemmas.Bool.{cases_Bool}
use Rattle.std.specs.Prelude.{chars}
use Rattle.std.specs.List.{list_all}
use Rattle.sv_journal.specs.JournalLine.{is_byte, AreBytes}
use Rattle.sv_journal.specs.ProgramNames.{IsName}
use Rattle.sv_letters.specs.Letters.{is_letter}
use Rattle.sv_letters.specs.declared.letters.Letters.TheVariants.{OfText, OfName, OfBytes}
use Rattle.sv_letters.specs.declared.letters.Awaits.TheVariants.{Character}
use Rattle.sv_letters.proofs.LetterLaws.{read_utf8, read_letters}
use Rattle.sv_journal.proofs.Letters.{accepts, read_accepted, accepts_read}
use Rattle.sv_journal.specs.Reading.{token_at}
use Rattle.sv_journal.proofs.TokenLaws.{Good, token_at_takes}

all_true : (cs : List ℕ) → list_all (is_letter OfText) cs ≡ true
all_true [] = refl
all_true (c ∷ cs) = all_true cs

pub good_text : (v : List ℕ) → IsUtf8 v → Good OfText v
good_text v u = accepts_read OfText refl v u (all_true (chars v))

pub text_good : (v : List ℕ) → Good OfText v → IsUtf8 v
text_good v g = read_utf8 OfText v (read_accepted OfText refl v g)

pub good_name : (v : List ℕ) → IsName v → Good OfName v
good_name v n = (accepts_read OfName refl v n.0 n.1, n.2)

pub name_good : (v : List ℕ) → Good OfName v → IsName v
name_good v g = let r = read_accepted OfName refl v g.0 in (read_utf8 OfName v r, read_letters OfName v r, g.1)

-- a name that was read is one
pub name_read : (bs v rest : List ℕ) → token_at OfName bs ≡ Ok (v, rest) → IsName v
name_read bs v rest e = name_good v (token_at_takes OfName bs v rest e).good

same_bytes : (v : List ℕ) → accepts OfBytes Character v ≡ list_all is_byte v
same_bytes [] = refl
same_bytes (b ∷ v) = elim (cases_Bool (ltb b 256)) [ inl e ↦ rw e (same_bytes v) | inr e ↦ rw e refl ]

pub good_bytes : (v : List ℕ) → AreBytes v → Good OfBytes v
good_bytes v a = same_bytes v ∙ a

pub bytes_good : (v : List ℕ) → Good OfBytes v → AreBytes v
bytes_good v g = sym (same_bytes v) ∙ g
