-- A text read piece by piece.
use Rattle.std.proofs.Common.{◌≡◌, ℕ, zero, suc, ◌<◌, ◌≤◌, Bool, true, false, not, ◌&&◌, eqb, List, [], ◌∷◌, ◌++◌, length, Result, Ok, Err, Option, Some, None, inl, inr, refl, sym, ap, ◌∙◌, arith, subst, append_assoc, append-nil, IsUtf8, leb}
use Rattle.std.proofs.lemmas.Bool.{false≢true, cases_Bool, cases_lt, lt-ltb, le-ltb, le-leb, and_parts, eqb-true}
use Rattle.std.specs.Char.{encode_utf8}
use lib.Utf8.{scalar, low_scalar}
use Rattle.sv_letters.specs.Letters.{is_allowed, allows, after, is_whole, are_letters}
use Rattle.sv_xmlcall.specs.Tags.{tag_at}
use Rattle.sv_xmlcall.specs.Spelled.{is_white}
use Rattle.sv_xmlcall.specs.Stages.{white_of}
use Rattle.sv_xmlcall.specs.Machine.{is_digit, longer, is_between}
use Rattle.sv_xmlcall.specs.declared.tag.Tag.{Tag}
use Rattle.sv_xmlcall.specs.declared.tag.Tag.TheVariants as tag
use Rattle.sv_letters.specs.declared.letters.Letters.TheVariants.{OfXml}
use Rattle.sv_letters.proofs.LetterLaws.{accept_char, letters_utf8}
use Rattle.sv_xmlcall.specs.Reading.{◌>>=◌, numeral_at, numbered_at, entities, entity_of, entity_at, Piece, piece_at, on_piece, pieces_at, text_at}
use Rattle.sv_letters.specs.declared.letters.Awaits.{Awaits}
use Rattle.sv_letters.specs.declared.letters.Awaits.TheVariants.{Character, Private, Continuation}

abbrev Refused : ℕ → Result (ℕ × List ℕ) ℕ
Refused n = Err n

abbrev Given : ℕ × List ℕ → Result (ℕ × List ℕ) ℕ
Given r = Ok r

abbrev Unpieced : ℕ → Result Piece ℕ
Unpieced n = Err n

abbrev Ended : List ℕ → Result Piece ℕ
Ended value = Ok (value, None)

abbrev Piecewise : List ℕ → Awaits → List ℕ → Result Piece ℕ
Piecewise value awaits rest = Ok (value, Some (awaits, rest))

given_is : (x y : ℕ × List ℕ) → Given x ≡ Ok y → x ≡ y
given_is x y e = cc e

abbrev Fine : Piece → Result Piece ℕ
Fine p = Ok p

abbrev Nothing : Option (Awaits × List ℕ)
Nothing = None

some_is : (x y : Awaits × List ℕ) → Some x ≡ Some y → x ≡ y
some_is x y e = cc e

piece_is : (x y : Piece) → Fine x ≡ Ok y → x ≡ y
piece_is x y e = cc e

not_ended : (value value2 : List ℕ) (p : Awaits × List ℕ) → Fine (value, None) ≡ Ok (value2, Some p) → ⊥
not_ended value value2 p e = let h : Nothing ≡ Some p = ap (λ (x : Piece). x.1) (piece_is (value, None) (value2, Some p) e) in cc h

not_going : (value value2 : List ℕ) (p : Awaits × List ℕ) → Fine (value, Some p) ≡ Ok (value2, None) → ⊥
not_going value value2 p e = let h : Some p ≡ Nothing = ap (λ (x : Piece). x.1) (piece_is (value, Some p) (value2, None) e) in cc h

-- what a piece gives
pub record Pieced (value value2 : List ℕ) (awaits awaits2 : Awaits) : Type 0 where
  pub bytes : value ≡ value2
  pub next : awaits ≡ awaits2

pieced : (value value2 : List ℕ) (awaits awaits2 : Awaits) (rest rest2 : List ℕ) → Fine (value, Some (awaits, rest)) ≡ Ok (value2, Some (awaits2, rest2)) → Pieced value value2 awaits awaits2
pieced value value2 awaits awaits2 rest rest2 e =
    let h = piece_is (value, Some (awaits, rest)) (value2, Some (awaits2, rest2)) e in
    let k : Some (awaits, rest) ≡ Some (awaits2, rest2) = ap (λ (x : Piece). x.1) h in
    record { bytes = ap (λ (x : Piece). x.0) h; next = ap (λ (x : Awaits × List ℕ). x.0) (some_is (awaits, rest) (awaits2, rest2) k) }

-- reading this text after what was kept has come so far
pub record Reaches (kept bytes value : List ℕ) (awaits : Awaits) (rest : List ℕ) : Type 0 where
  pub most : ℕ
  pub enough : length rest ≤ most
  pub same : pieces_at (suc most) value awaits rest ≡ text_at kept bytes

pub reaches_begin : (kept bytes : List ℕ) → Reaches kept bytes kept Character bytes
unfolding text_at
reaches_begin kept bytes = record { most = length bytes; enough = omega arith; same = refl }

goes_on : (most : ℕ) (value : List ℕ) (awaits : Awaits) (rest : List ℕ) (p : Piece) → piece_at value awaits rest ≡ Ok p
    → pieces_at (suc most) value awaits rest ≡ on_piece p.0 rest p.1 (λ awaits rest. pieces_at most p.0 awaits rest)
goes_on most value awaits rest p e = ap (λ r. r >>= (λ p. on_piece p.0 rest p.1 (λ awaits rest. pieces_at most p.0 awaits rest))) e

less : (kept bytes value value2 : List ℕ) (awaits awaits2 : Awaits) (rest rest2 : List ℕ) (most : ℕ) → length rest ≤ most
    → pieces_at (suc most) value awaits rest ≡ text_at kept bytes → piece_at value awaits rest ≡ Ok (value2, Some (awaits2, rest2)) → length rest2 < length rest
    → Reaches kept bytes value2 awaits2 rest2
less kept bytes value value2 awaits awaits2 rest rest2 zero l s e sh = absurd (omega arith)
less kept bytes value value2 awaits awaits2 rest rest2 (suc most) l s e sh =
    record { most = most; enough = omega arith; same = sym (goes_on (suc most) value awaits rest (value2, Some (awaits2, rest2)) e) ∙ s }

pub reaches_more : (kept bytes value value2 : List ℕ) (awaits awaits2 : Awaits) (rest rest2 : List ℕ) → Reaches kept bytes value awaits rest
    → piece_at value awaits rest ≡ Ok (value2, Some (awaits2, rest2)) → length rest2 < length rest → Reaches kept bytes value2 awaits2 rest2
reaches_more kept bytes value value2 awaits awaits2 rest rest2 r e sh = less kept bytes value value2 awaits awaits2 rest rest2 r.most r.enough r.same e sh

pub reaches_end : (kept bytes value value2 : List ℕ) (awaits : Awaits) (rest : List ℕ) → Reaches kept bytes value awaits rest
    → piece_at value awaits rest ≡ Ok (value2, None) → text_at kept bytes ≡ Ok (value2, rest)
reaches_end kept bytes value value2 awaits rest r e = sym r.same ∙ goes_on r.most value awaits rest (value2, None) e

pub reaches_bad : (kept bytes value : List ℕ) (awaits : Awaits) (rest : List ℕ) (left : ℕ) → Reaches kept bytes value awaits rest
    → piece_at value awaits rest ≡ Err left → text_at kept bytes ≡ Err left
reaches_bad kept bytes value awaits rest left r e =
    sym r.same ∙ ap (λ x. x >>= (λ p. on_piece p.0 rest p.1 (λ awaits rest. pieces_at r.most p.0 awaits rest))) e

numeral_allowed : (hex seen : Bool) (n : ℕ) (bs : List ℕ) (c : ℕ) (rest : List ℕ) → numeral_at hex seen n bs ≡ Ok (c, rest) → is_allowed c ≡ true
numeral_allowed hex seen n [] c rest e = cc e
numeral_allowed hex seen n (b ∷ bs) c rest e = elim (cases_Bool (is_digit hex b)) [
  | inl d ↦ elim (cases_Bool (leb (longer hex n b) 1114111)) [
    | inl f ↦ numeral_allowed hex true (longer hex n b) bs c rest (rw (d, f) at e)
    | inr f ↦ let g : Refused (suc (length bs)) ≡ Ok (c, rest) = rw (d, f) at e in cc g
  ]
  | inr d ↦ elim (cases_Bool ((eqb b 59) && seen && is_allowed n)) [
    | inl f ↦
        let g : Given (n, bs) ≡ Ok (c, rest) = rw (d, f) at e in
        let h : n ≡ c = ap (λ (x : ℕ × List ℕ). x.0) (given_is (n, bs) (c, rest) g) in
        subst (λ (x : ℕ). is_allowed x ≡ true) h (and_parts (eqb b 59 && seen) (is_allowed n) f).1
    | inr f ↦ let g : Refused (suc (length bs)) ≡ Ok (c, rest) = rw (d, f) at e in cc g
  ]
]

numbered_allowed : (bs : List ℕ) (c : ℕ) (rest : List ℕ) → numbered_at bs ≡ Ok (c, rest) → is_allowed c ≡ true
numbered_allowed [] c rest e = cc e
numbered_allowed (b ∷ bs) c rest e = elim (cases_Bool (eqb b 120)) [
  | inl x ↦ numeral_allowed true false 0 bs c rest (rw x at e)
  | inr x ↦ numeral_allowed false false 0 (b ∷ bs) c rest (rw x at e)
]

named : (n c : ℕ) (bs rest : List ℕ) → is_allowed n ≡ true → Given (n, bs) ≡ Ok (c, rest) → is_allowed c ≡ true
named n c bs rest a e = let h : n ≡ c = ap (λ (x : ℕ × List ℕ). x.0) (given_is (n, bs) (c, rest) e) in subst (λ (x : ℕ). is_allowed x ≡ true) h a

entity_allowed : (t : Tag) (bs : List ℕ) (c : ℕ) (rest : List ℕ) → entity_of t bs ≡ Ok (c, rest) → is_allowed c ≡ true
entity_allowed tag.Ampersand bs c rest e = named 38 c bs rest refl e
entity_allowed tag.Less bs c rest e = named 60 c bs rest refl e
entity_allowed tag.Greater bs c rest e = named 62 c bs rest refl e
entity_allowed tag.Quote bs c rest e = named 34 c bs rest refl e
entity_allowed tag.Apostrophe bs c rest e = named 39 c bs rest refl e
entity_allowed any bs c rest e = numbered_allowed bs c rest e

entity_read : (r : Result (Tag × List ℕ) ℕ) (c : ℕ) (rest : List ℕ) → (r >>= (λ r. entity_of r.0 r.1)) ≡ Ok (c, rest) → is_allowed c ≡ true
entity_read (Ok r) c rest e = entity_allowed r.0 r.1 c rest e
entity_read (Err left) c rest e = cc e

pub allowed_entity : (bs : List ℕ) (c : ℕ) (rest : List ℕ) → entity_at bs ≡ Ok (c, rest) → is_allowed c ≡ true
unfolding entity_at
allowed_entity bs c rest e = entity_read (tag_at entities bs) c rest e

-- what XML allows is a character
pub allowed_scalar : (c : ℕ) → is_allowed c ≡ true → scalar c ≡ true
allowed_scalar c e = elim (cases_lt c 55296) [
  | inl h ↦ low_scalar c h
  | inr h ↦ elim (cases_lt c 57344) [
    | inl u ↦ absurd (false≢true (rw (le-ltb c 32 (omega arith), le-ltb c 55296 h, lt-ltb c 57344 u) at e))
    | inr l ↦ elim (cases_lt c 1114112) [
      | inl u ↦ rw (le-ltb c 55296 h, le-leb 57344 c l, lt-ltb c 1114112 u) refl
      | inr u ↦ absurd (false≢true (rw (le-ltb c 32 (omega arith), le-ltb c 55296 h, le-ltb c 57344 l, le-ltb c 65534 (omega arith), le-ltb c 65536 (omega arith), le-ltb c 1114112 u) at e))
    ]
  ]
]

-- what the bytes that were kept may go on with
abbrev pub Open : List ℕ → Awaits → Type 0
Open value awaits = (tail : List ℕ) → are_letters OfXml awaits tail ≡ true → are_letters OfXml Character (value ++ tail) ≡ true

between : (awaits : Awaits) → is_between awaits ≡ true → awaits ≡ Character
between Character e = refl
between Private e = cc e
between (Continuation low high more) e = cc e

with_entity : (value : List ℕ) (r : Result (ℕ × List ℕ) ℕ) (value2 : List ℕ) (awaits2 : Awaits) (rest2 : List ℕ) → ((c : ℕ) (rest : List ℕ) → r ≡ Ok (c, rest) → is_allowed c ≡ true)
    → Open value Character → (r >>= (λ r. Piecewise (value ++ encode_utf8 r.0) Character r.1)) ≡ Ok (value2, Some (awaits2, rest2)) → Open value2 awaits2
with_entity value (Ok (c, rest)) value2 awaits2 rest2 a o e tail t =
    let pd = pieced (value ++ encode_utf8 c) value2 Character awaits2 rest rest2 e in
    let v = pd.bytes in
    let w = pd.next in
    let al = a c rest refl in
    let all = o (encode_utf8 c ++ tail) (accept_char OfXml refl c (allowed_scalar c al) al tail ∙ subst (λ (x : Awaits). are_letters OfXml x tail ≡ true) (sym w) t) in
    subst (λ (x : List ℕ). are_letters OfXml Character (x ++ tail) ≡ true) v (subst (λ (x : List ℕ). are_letters OfXml Character x ≡ true) (sym (append_assoc value (encode_utf8 c) tail)) all)
with_entity value (Err left) value2 awaits2 rest2 a o e tail t = cc e

with_letter : (value : List ℕ) (b : ℕ) (awaits : Awaits) (bs value2 : List ℕ) (awaits2 : Awaits) (rest2 : List ℕ) → allows OfXml awaits b ≡ true → Open value awaits
    → Piecewise (value ++ b ∷ []) (after OfXml awaits b) bs ≡ Ok (value2, Some (awaits2, rest2)) → Open value2 awaits2
with_letter value b awaits bs value2 awaits2 rest2 a o e tail t =
    let pd = pieced (value ++ b ∷ []) value2 (after OfXml awaits b) awaits2 bs rest2 e in
    let v = pd.bytes in
    let w = pd.next in
    let u : are_letters OfXml (after OfXml awaits b) tail ≡ true = subst (λ (x : Awaits). are_letters OfXml x tail ≡ true) (sym w) t in
    let all = o (b ∷ tail) (rw (a, u) refl) in
    subst (λ (x : List ℕ). are_letters OfXml Character (x ++ tail) ≡ true) v (subst (λ (x : List ℕ). are_letters OfXml Character x ≡ true) (sym (append_assoc value (b ∷ []) tail)) all)

pub piece_open : (value : List ℕ) (awaits : Awaits) (bs value2 : List ℕ) (awaits2 : Awaits) (rest2 : List ℕ) → Open value awaits
    → piece_at value awaits bs ≡ Ok (value2, Some (awaits2, rest2)) → Open value2 awaits2
unfolding piece_at
piece_open value awaits [] value2 awaits2 rest2 o e = cc e
piece_open value awaits (b ∷ bs) value2 awaits2 rest2 o e = elim (cases_Bool ((eqb b 60) && is_between awaits)) [
  | inl f ↦ absurd (not_ended value value2 (awaits2, rest2) (rw f at e))
  | inr f ↦ elim (cases_Bool ((eqb b 38) && is_between awaits)) [
    | inl g ↦
        let is = between awaits (and_parts (eqb b 38) (is_between awaits) g).1 in
        with_entity value (entity_at (b ∷ bs)) value2 awaits2 rest2 (allowed_entity (b ∷ bs)) (subst (λ (x : Awaits). Open value x) is o) (rw (f, g) at e)
    | inr g ↦ elim (cases_Bool (not (eqb b 60) && not (eqb b 38) && allows OfXml awaits b)) [
      | inl h ↦ with_letter value b awaits bs value2 awaits2 rest2 (and_parts (not (eqb b 60) && not (eqb b 38)) (allows OfXml awaits b) h).1 o (rw (f, g, h) at e)
      | inr h ↦ let k : Unpieced (suc (length bs)) ≡ Ok (value2, Some (awaits2, rest2)) = rw (f, g, h) at e in cc k
    ]
  ]
]

no_end : (value : List ℕ) (r : Result (ℕ × List ℕ) ℕ) (value2 : List ℕ) → (r >>= (λ r. Piecewise (value ++ encode_utf8 r.0) Character r.1)) ≡ Ok (value2, None) → ⊥
no_end value (Ok r) value2 e = not_going (value ++ encode_utf8 r.0) value2 (Character, r.1) e
no_end value (Err left) value2 e = cc e

pub piece_end : (value : List ℕ) (awaits : Awaits) (bs value2 : List ℕ) → piece_at value awaits bs ≡ Ok (value2, None) → (awaits ≡ Character) × (value ≡ value2)
unfolding piece_at
piece_end value awaits [] value2 e = cc e
piece_end value awaits (b ∷ bs) value2 e = elim (cases_Bool ((eqb b 60) && is_between awaits)) [
  | inl f ↦
      let g : Ended value ≡ Ok (value2, None) = rw f at e in
      (between awaits (and_parts (eqb b 60) (is_between awaits) f).1, ap (λ (x : Piece). x.0) (piece_is (value, None) (value2, None) g))
  | inr f ↦ elim (cases_Bool ((eqb b 38) && is_between awaits)) [
    | inl g ↦ absurd (no_end value (entity_at (b ∷ bs)) value2 (rw (f, g) at e))
    | inr g ↦ elim (cases_Bool (not (eqb b 60) && not (eqb b 38) && allows OfXml awaits b)) [
      | inl h ↦ absurd (not_going (value ++ b ∷ []) value2 (after OfXml awaits b, bs) (rw (f, g, h) at e))
      | inr h ↦ let k : Unpieced (suc (length bs)) ≡ Ok (value2, None) = rw (f, g, h) at e in cc k
    ]
  ]
]

pub xml_utf8 : (bs : List ℕ) → are_letters OfXml Character bs ≡ true → IsUtf8 bs
xml_utf8 bs e = letters_utf8 OfXml refl bs e

pub whole_utf8 : (value : List ℕ) (awaits : Awaits) (bs value2 : List ℕ) → Open value awaits → piece_at value awaits bs ≡ Ok (value2, None) → IsUtf8 value2
whole_utf8 value awaits bs value2 o e =
    let f = piece_end value awaits bs value2 e in
    let all = (subst (λ (x : Awaits). Open value x) f.0 o) [] refl in
    xml_utf8 value2 (subst (λ (x : List ℕ). are_letters OfXml Character x ≡ true) (append-nil value ∙ f.1) all)

whole_awaits : (awaits : Awaits) → is_whole awaits ≡ true → awaits ≡ Character
whole_awaits Character e = refl
whole_awaits Private e = cc e
whole_awaits (Continuation low high more) e = cc e

letters_append : (awaits : Awaits) (bs tail : List ℕ) → are_letters OfXml awaits bs ≡ true → are_letters OfXml Character tail ≡ true → are_letters OfXml awaits (bs ++ tail) ≡ true
letters_append awaits [] tail e t = subst (λ (x : Awaits). are_letters OfXml x tail ≡ true) (sym (whole_awaits awaits e)) t
letters_append awaits (b ∷ bs) tail e t =
    let p = and_parts (allows OfXml awaits b) (are_letters OfXml (after OfXml awaits b) bs) e in
    rw (p.0, letters_append (after OfXml awaits b) bs tail p.1 t) refl

pub open_begin : (kept value : List ℕ) → value ≡ kept → are_letters OfXml Character kept ≡ true → Open value Character
open_begin kept value e k tail t = subst (λ (x : List ℕ). are_letters OfXml Character (x ++ tail) ≡ true) (sym e) (letters_append Character kept tail k t)

pub reaches_begin_at : (kept bytes value : List ℕ) → value ≡ kept → Reaches kept bytes value Character bytes
reaches_begin_at kept bytes value e = subst (λ (x : List ℕ). Reaches kept bytes x Character bytes) (sym e) (reaches_begin kept bytes)

white_allowed : (b : ℕ) → is_white b ≡ true → (allows OfXml Character b ≡ true) × (after OfXml Character b ≡ Character)
white_allowed b e = elim (cases_Bool (eqb b 32)) [
  | inl h ↦ let f = eqb-true b 32 h in (rw f refl, rw f refl)
  | inr h ↦ elim (cases_Bool (eqb b 9)) [
    | inl i ↦ let f = eqb-true b 9 i in (rw f refl, rw f refl)
    | inr i ↦ elim (cases_Bool (eqb b 13)) [
      | inl j ↦ let f = eqb-true b 13 j in (rw f refl, rw f refl)
      | inr j ↦ elim (cases_Bool (eqb b 10)) [
        | inl k ↦ let f = eqb-true b 10 k in (rw f refl, rw f refl)
        | inr k ↦ absurd (false≢true (rw (h, i, j, k) at e))
      ]
    ]
  ]
]

pub white_letters : (bs : List ℕ) → are_letters OfXml Character (white_of bs) ≡ true
white_letters [] = refl
white_letters (b ∷ bs) = elim (cases_Bool (is_white b)) [
  | inl e ↦ let w = white_allowed b e in rw (e, w.0, w.1, white_letters bs) refl
  | inr e ↦ rw e refl
]
