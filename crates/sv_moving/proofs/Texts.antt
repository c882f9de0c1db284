-- The texts of a configuration, one after the other.
use Rattle.std.proofs.Common.{◌≡◌, ◌<◌, ◌≤◌, ◌+◌, ◌-◌, ℕ, List, [], ◌∷◌, Bool, true, false, length, take, drop, get_or, refl, sym, ◌∙◌, ap, subst, arith}
use Rattle.std.proofs.lemmas.Bool.Decides.{nat_tests}
use Rattle.std.proofs.lemmas.List.{take_all}
use Rattle.std.proofs.lemmas.Str.{utf8_valid_len-IsUtf8}
use Rattle.std.specs.Prelude.{Result, Ok, Err, chars, nat_lt, if◌then◌else◌}
use Rattle.std.specs.Str.{IsUtf8}
use Rattle.std.specs.Str.Lossy.{utf8_valid_len}
use Rattle.sv_moving.specs.declared.reader.Reader.{Reader}
use Rattle.sv_moving.specs.declared.refusal.Refusal.{Refusal}
use Rattle.sv_moving.specs.declared.refusal.Refusal.TheVariants.{NoHeader, BadLines, NotUtf8, OutOfMemory}
use Rattle.sv_moving.specs.declared.sections.Section.{Section}
use Rattle.sv_moving.specs.Lines.{lines_of}
use Rattle.sv_moving.specs.Reading.{begun, after_lines}
use Rattle.sv_moving.specs.There.{ended, text_read, and_then, texts_read, IsRefusal}

if_false : {A : Type 0} (test : Bool) (x y : A) → test ≡ false → (if test then x else y) ≡ y
if_false true x y e = cc
if_false false x y e = refl

-- a text that is UTF-8 says what its lines make of it
pub valid_text : (number : ℕ) (bs : List ℕ) (sections : List Section) (begin reader : Reader) → IsUtf8 bs
    → begin ≡ begun number sections → reader ≡ after_lines begin (lines_of (chars bs))
    → text_read number bs sections ≡ ended reader.headless reader
valid_text number bs sections begin reader text is_begin is_reader =
    let whole = utf8_valid_len-IsUtf8 bs text in
    let valid : nat_lt (utf8_valid_len bs) (length bs) ≡ false = grind (arith, nat_tests) in
    let there : Reader = after_lines (begun number sections) (lines_of (chars bs)) in
    let same : there ≡ reader = sym (is_reader ∙ ap (λ (r : Reader). after_lines r (lines_of (chars bs))) is_begin) in
    if_false (nat_lt (utf8_valid_len bs) (length bs)) (Err (NotUtf8 number (utf8_valid_len bs))) (ended there.headless there) valid
    ∙ ap (λ (r : Reader). ended r.headless r) same

refusal_first : {A : Type 0} (refusal : Refusal) (step : Result (List Section) Refusal) (f : List Section → Result A Refusal)
    → IsRefusal refusal step → IsRefusal refusal (and_then step f)
refusal_first OutOfMemory step f e = tt
refusal_first (NoHeader text line) step f e = ap (λ (r : Result (List Section) Refusal). and_then r f) e
refusal_first (BadLines text lines) step f e = ap (λ (r : Result (List Section) Refusal). and_then r f) e
refusal_first (NotUtf8 text place) step f e = ap (λ (r : Result (List Section) Refusal). and_then r f) e

-- a text that is read in turn
pub text_next : (number : ℕ) (left : List (List ℕ)) (item bytes : List ℕ) (sections next : List Section) (whole : Result (List Section) Refusal)
    → 1 ≤ length left → item ≡ get_or left 0 item → bytes ≡ item → text_read number bytes sections ≡ Ok next
    → texts_read number left sections ≡ whole
    → texts_read (number + 1) (take (length left - 1) (drop 1 left)) next ≡ whole
text_next number [] item bytes sections next whole some read own is so_far = absurd (omega (arith, some))
text_next number (text ∷ texts) item bytes sections next whole some read own is so_far =
    let first : text_read number text sections ≡ Ok next =
    ap (λ (t : List ℕ). text_read number t sections) (sym (own ∙ read)) ∙ is in
    ap (λ (ts : List (List ℕ)). texts_read (number + 1) ts next) (take_all (length (text ∷ texts) - 1) texts (omega arith))
    ∙ sym (ap (λ (r : Result (List Section) Refusal). and_then r (λ n. texts_read (number + 1) texts n)) first)
    ∙ so_far

pub text_refused : (refusal : Refusal) (number : ℕ) (left : List (List ℕ)) (item bytes : List ℕ) (sections : List Section) (whole : Result (List Section) Refusal)
    → 1 ≤ length left → item ≡ get_or left 0 item → bytes ≡ item → IsRefusal refusal (text_read number bytes sections)
    → texts_read number left sections ≡ whole → IsRefusal refusal whole
text_refused refusal number [] item bytes sections whole some read own is so_far = absurd (omega (arith, some))
text_refused refusal number (text ∷ texts) item bytes sections whole some read own is so_far =
    let first : IsRefusal refusal (text_read number text sections) =
    subst (λ (t : List ℕ). IsRefusal refusal (text_read number t sections)) (own ∙ read) is in
    subst (IsRefusal refusal) so_far
    (refusal_first refusal (text_read number text sections) (λ n. texts_read (number + 1) texts n) first)

pub texts_end : (number : ℕ) (left : List (List ℕ)) (sections : List Section) (whole : Result (List Section) Refusal) → length left < 1
    → texts_read number left sections ≡ whole → whole ≡ Ok sections
texts_end number [] sections whole none so_far = sym so_far
texts_end number (text ∷ texts) sections whole none so_far = absurd (omega (arith, none))
