-- Which text or number was read.
use Rattle.std.proofs.Common.{◌≡◌, ◌≢◌, ℕ, zero, suc, ◌+◌, ◌-◌, ◌*◌, ◌<◌, ◌≤◌, Bool, true, false, leb, eqb, List, [], ◌∷◌, ◌++◌, length, inl, inr, refl, sym, ap, ◌∙◌, subst, arith, append_assoc, append-nil, length-append, codes, encode_utf8, ◌⊎◌}
use Rattle.std.specs.List.{list_all}
use Rattle.std.specs.Str.Parse.{digits_value, digits_value_after, IsNumeral, AllDigits}
use Rattle.std.specs.Char.{digit_value, is_ascii_digit}
use Rattle.std.proofs.lemmas.Bool.{cases_Bool, and_parts, eqb-true, leb-true}
use Rattle.std.proofs.lemmas.Bool.Decides.{nat_tests}
use Rattle.std.proofs.lemmas.List.Folds.{list_all-append}
use lib.Utf8.{encode, encodes}
use Rattle.sv_xmlcall.specs.Tags.{spelling}
use Rattle.sv_xmlcall.specs.Spelled.{Spelled, signed}
use Rattle.sv_letters.specs.Letters.{is_allowed, allows, after, are_letters, is_whole}
use Rattle.sv_xmlcall.specs.Spells.{IsWhite, Ampersand, Less, Greater, Quote, Apostrophe, Letter, Plain, Named, Numbered, character_of, printed_letter, number_sign, IsLetter, AreLetters, printed_text, text_of, printed_shut, Mark, NoMark, Plus, Minus, printed_mark, is_minus}
use Rattle.sv_xmlcall.specs.Machine.{Limits, AtTextEnd, AtEntity, AtIntegerEnd, Content, InMethod, InName, Frame, Read, Within, Chars, Hash, Numeral, Digits, Sign, Fresh, Signed, Counted, at, enter, leave, tags_of, words_of, run, base_of, most_of, is_digit, longer, end_of, may_end, is_between}
use Rattle.sv_xmlcall.specs.Machine.{digit_value as value_of_digit}
use Rattle.sv_letters.specs.declared.letters.Letters.TheVariants.{OfXml}
use Rattle.sv_letters.specs.declared.letters.Awaits.{Awaits}
use Rattle.sv_letters.specs.declared.letters.Awaits.TheVariants.{Character, Private, Continuation}
use Rattle.sv_xmlcall.specs.declared.tag.Tag.{Tag}
use Rattle.sv_letters.proofs.LetterLaws.{read_accepted}
use Rattle.sv_xmlcall.proofs.Passing.{in_text, is_free}
use Rattle.sv_xmlcall.proofs.TagsBack.{Continues, not_read, IsOneOf, entered, Alone, shut_behind}

-- a digit of the reader's is one of std's, with the same value
pub record DigitBack (hex : Bool) (b : ℕ) : Type 0 where
  pub is : digit_value b < base_of hex
  pub value : value_of_digit b ≡ digit_value b

pub digit_back : (hex : Bool) (b : ℕ) → is_digit hex b ≡ true → DigitBack hex b
digit_back true b h = record { is = grind (arith, nat_tests); value = grind (arith, nat_tests) }
digit_back false b h = record { is = grind (arith, nat_tests); value = grind (arith, nat_tests) }

-- the number of an entity was read
record NumeralBack (limits : Limits) (content : Content) (kept : List ℕ) (frames : List Frame) (count : ℕ) (hex seen : Bool) (n : ℕ) (bs : List ℕ) (spelled : Spelled) : Type 0 where
  pub digits : List ℕ
  pub right : AllDigits (base_of hex) digits
  pub some : seen ≡ false → 0 < length digits
  pub allowed : is_allowed (digits_value_after (base_of hex) n digits) ≡ true
  pub rest : List ℕ
  pub parts : bs ≡ digits ++ codes ";" ++ rest
  pub goes : run limits (in_text content (kept ++ encode_utf8 (digits_value_after (base_of hex) n digits)) frames count) rest ≡ Read spelled

false_true : {P : Type 0} (b : Bool) → b ≡ true → b ≡ false → P
false_true true e f = cc f
false_true false e f = cc e

numeral_back : (limits : Limits) (content : Content) (kept : List ℕ) (frames : List Frame) (count : ℕ) (hex seen : Bool) (n : ℕ) (bs : List ℕ) (spelled : Spelled)
    → run limits (at (Numeral content kept hex seen n) frames count) bs ≡ Read spelled → NumeralBack limits content kept frames count hex seen n bs spelled
numeral_back limits content kept frames count hex seen n [] spelled e = absurd (not_read limits count 0 spelled e)
numeral_back limits content kept frames count hex seen n (b ∷ bs) spelled e = elim (cases_Bool (is_digit hex b)) [
  | inl d ↦ elim (cases_Bool (leb (longer hex n b) 1114111)) [
    | inl l ↦
        let s = digit_back hex b d in
        let f : run limits (at (Numeral content kept hex true (longer hex n b)) frames count) bs ≡ Read spelled = rw (d, l) at e in
        let g = subst (λ (v : ℕ). run limits (at (Numeral content kept hex true (n * base_of hex + v)) frames count) bs ≡ Read spelled) s.value f in
        let more = numeral_back limits content kept frames count hex true (n * base_of hex + digit_value b) bs spelled g in
        record { digits = b ∷ more.digits; right = (s.is, more.right); some = λ q. omega arith; allowed = more.allowed; rest = more.rest; parts = ap (λ (x : List ℕ). b ∷ x) more.parts; goes = more.goes }
    | inr l ↦ absurd (not_read limits count (suc (length bs)) spelled (rw (d, l) at e))
  ]
  | inr d ↦ elim (cases_Bool (eqb b 59)) [
    | inl s ↦ elim (cases_Bool seen) [
      | inl t ↦ elim (cases_Bool (is_allowed n)) [
        | inl a ↦ record { digits = []; right = tt; some = λ q. false_true seen t q; allowed = a; rest = bs; parts = ap (λ (x : ℕ). x ∷ bs) (eqb-true b 59 s); goes = rw (d, s, t, a) at e }
        | inr a ↦ absurd (not_read limits count (suc (length bs)) spelled (rw (d, s, t, a) at e))
      ]
      | inr t ↦ absurd (not_read limits count (suc (length bs)) spelled (rw (d, s, t) at e))
    ]
    | inr s ↦ absurd (not_read limits count (suc (length bs)) spelled (rw (d, s) at e))
  ]
]

-- a letter that is no character as it stands was read
pub record LetterBack (limits : Limits) (content : Content) (kept : List ℕ) (frames : List Frame) (count : ℕ) (bs : List ℕ) (spelled : Spelled) : Type 0 where
  pub letter : Letter
  pub right : IsLetter letter
  pub rest : List ℕ
  pub parts : bs ≡ printed_letter letter ++ rest
  pub shorter : length rest < length bs
  pub goes : run limits (in_text content (kept ++ encode_utf8 (character_of letter)) frames count) rest ≡ Read spelled

behind : (b : ℕ) (front rest bs : List ℕ) → bs ≡ (b ∷ front) ++ rest → length rest < length bs
behind b front rest bs e = omega (arith, ap length e, length-append front rest)

numeral_parts : (a digits rest : List ℕ) → a ++ (digits ++ codes ";" ++ rest) ≡ a ++ digits ++ codes ";" ++ rest
numeral_parts a digits rest = simp append_assoc refl

hash_back : (limits : Limits) (content : Content) (kept : List ℕ) (frames : List Frame) (count : ℕ) (bs : List ℕ) (spelled : Spelled)
    → run limits (at (Hash content kept) frames count) bs ≡ Read spelled → LetterBack limits content kept frames count (codes "&#" ++ bs) spelled
hash_back limits content kept frames count [] spelled e = absurd (not_read limits count 0 spelled e)
hash_back limits content kept frames count (b ∷ bs) spelled e = elim (cases_Bool (eqb b 120)) [
  | inl x ↦
      let f : run limits (at (Numeral content kept true false 0) frames count) bs ≡ Read spelled = rw x at e in
      let m = numeral_back limits content kept frames count true false 0 bs spelled f in
      let p : codes "&#" ++ b ∷ bs ≡ number_sign true ++ m.digits ++ codes ";" ++ m.rest =
      ap (λ (y : ℕ). codes "&#" ++ y ∷ bs) (eqb-true b 120 x) ∙ ap (λ (y : List ℕ). number_sign true ++ y) m.parts ∙ numeral_parts (number_sign true) m.digits m.rest in
      record {
        letter = Numbered true m.digits;
        right = ((m.some refl, m.right), m.allowed);
        rest = m.rest;
        parts = p;
        shorter = behind 38 (35 ∷ 120 ∷ m.digits ++ codes ";") m.rest (codes "&#" ++ b ∷ bs) p;
        goes = m.goes;
      }
  | inr x ↦
      let f : run limits (at (Numeral content kept false false 0) frames count) (b ∷ bs) ≡ Read spelled = rw x at e in
      let m = numeral_back limits content kept frames count false false 0 (b ∷ bs) spelled f in
      let p : codes "&#" ++ b ∷ bs ≡ number_sign false ++ m.digits ++ codes ";" ++ m.rest =
      ap (λ (y : List ℕ). number_sign false ++ y) m.parts ∙ numeral_parts (number_sign false) m.digits m.rest in
      record {
        letter = Numbered false m.digits;
        right = ((m.some refl, m.right), m.allowed);
        rest = m.rest;
        parts = p;
        shorter = behind 38 (35 ∷ m.digits ++ codes ";") m.rest (codes "&#" ++ b ∷ bs) p;
        goes = m.goes;
      }
]

abbrev EntityGoes : Limits → Content → List ℕ → List Frame → ℕ → Tag → List ℕ → Spelled → Type 0
EntityGoes limits content kept frames count t rest spelled = Continues limits (enter limits (AtEntity content kept) t frames count) rest spelled

entity_of : (limits : Limits) (content : Content) (kept : List ℕ) (frames : List Frame) (count : ℕ) (bs : List ℕ) (spelled : Spelled) (t : Tag) (rest : List ℕ)
    → IsOneOf t (tags_of (AtEntity content kept)) → bs ≡ spelling t ++ rest → EntityGoes limits content kept frames count t rest spelled
    → LetterBack limits content kept frames count bs spelled
unfolding encode
entity_of limits content kept frames count bs spelled t rest (inl is) p c =
    let q : bs ≡ codes "&amp;" ++ rest = p ∙ ap (λ (x : Tag). spelling x ++ rest) is in
    record { letter = Named Ampersand; right = tt; rest = rest; parts = q; shorter = behind 38 (codes "amp;") rest bs q; goes = subst (λ (x : Tag). EntityGoes limits content kept frames count x rest spelled) is c }
entity_of limits content kept frames count bs spelled t rest (inr (inl is)) p c =
    let q : bs ≡ codes "&lt;" ++ rest = p ∙ ap (λ (x : Tag). spelling x ++ rest) is in
    record { letter = Named Less; right = tt; rest = rest; parts = q; shorter = behind 38 (codes "lt;") rest bs q; goes = subst (λ (x : Tag). EntityGoes limits content kept frames count x rest spelled) is c }
entity_of limits content kept frames count bs spelled t rest (inr (inr (inl is))) p c =
    let q : bs ≡ codes "&gt;" ++ rest = p ∙ ap (λ (x : Tag). spelling x ++ rest) is in
    record { letter = Named Greater; right = tt; rest = rest; parts = q; shorter = behind 38 (codes "gt;") rest bs q; goes = subst (λ (x : Tag). EntityGoes limits content kept frames count x rest spelled) is c }
entity_of limits content kept frames count bs spelled t rest (inr (inr (inr (inl is)))) p c =
    let q : bs ≡ codes "&quot;" ++ rest = p ∙ ap (λ (x : Tag). spelling x ++ rest) is in
    record { letter = Named Quote; right = tt; rest = rest; parts = q; shorter = behind 38 (codes "quot;") rest bs q; goes = subst (λ (x : Tag). EntityGoes limits content kept frames count x rest spelled) is c }
entity_of limits content kept frames count bs spelled t rest (inr (inr (inr (inr (inl is))))) p c =
    let q : bs ≡ codes "&apos;" ++ rest = p ∙ ap (λ (x : Tag). spelling x ++ rest) is in
    record { letter = Named Apostrophe; right = tt; rest = rest; parts = q; shorter = behind 38 (codes "apos;") rest bs q; goes = subst (λ (x : Tag). EntityGoes limits content kept frames count x rest spelled) is c }
entity_of limits content kept frames count bs spelled t rest (inr (inr (inr (inr (inr (inl is)))))) p c =
    let q : bs ≡ codes "&#" ++ rest = p ∙ ap (λ (x : Tag). spelling x ++ rest) is in
    let g : run limits (at (Hash content kept) frames count) rest ≡ Read spelled = subst (λ (x : Tag). EntityGoes limits content kept frames count x rest spelled) is c in
    subst (λ (x : List ℕ). LetterBack limits content kept frames count x spelled) (sym q) (hash_back limits content kept frames count rest spelled g)
entity_of limits content kept frames count bs spelled t rest (inr (inr (inr (inr (inr (inr o)))))) p c = absurd o

entity_back : (limits : Limits) (content : Content) (kept : List ℕ) (frames : List Frame) (count : ℕ) (bs : List ℕ) (spelled : Spelled)
    → run limits (at (Within (AtEntity content kept) (words_of (tags_of (AtEntity content kept)))) frames count) bs ≡ Read spelled
    → LetterBack limits content kept frames count bs spelled
entity_back limits content kept frames count bs spelled e =
    let n = entered limits (AtEntity content kept) frames count bs spelled e in
    entity_of limits content kept frames count bs spelled n.t n.rest n.one_of n.parts n.goes

-- characters as they stand were read, up to a `<` or a `&`
record PlainBack (limits : Limits) (content : Content) (kept : List ℕ) (awaits : Awaits) (frames : List Frame) (count : ℕ) (bs : List ℕ) (spelled : Spelled) : Type 0 where
  pub plain : List ℕ
  pub allowed : are_letters OfXml awaits plain ≡ true
  pub free : list_all is_free plain ≡ true
  pub b : ℕ
  pub rest : List ℕ
  pub parts : bs ≡ plain ++ b ∷ rest
  pub stop : (b ≡ 60) ⊎ (b ≡ 38)
  pub goes : run limits (in_text content (kept ++ plain) frames count) (b ∷ rest) ≡ Read spelled

pub between_is : (awaits : Awaits) → is_between awaits ≡ true → awaits ≡ Character
between_is Character e = refl
between_is Private e = cc e
between_is (Continuation low high more) e = cc e

plain_stop : (limits : Limits) (content : Content) (kept : List ℕ) (awaits : Awaits) (frames : List Frame) (count : ℕ) (b : ℕ) (bs : List ℕ) (spelled : Spelled)
    → is_between awaits ≡ true → (b ≡ 60) ⊎ (b ≡ 38) → run limits (at (Chars content kept awaits) frames count) (b ∷ bs) ≡ Read spelled
    → PlainBack limits content kept awaits frames count (b ∷ bs) spelled
plain_stop limits content kept awaits frames count b bs spelled w s e =
    let is = between_is awaits w in
    let f : run limits (in_text content kept frames count) (b ∷ bs) ≡ Read spelled = subst (λ (x : Awaits). run limits (at (Chars content kept x) frames count) (b ∷ bs) ≡ Read spelled) is e in
    record {
      plain = [];
      allowed = ap is_whole is;
      free = refl;
      b = b;
      rest = bs;
      parts = refl;
      stop = s;
      goes = subst (λ (x : List ℕ). run limits (in_text content x frames count) (b ∷ bs) ≡ Read spelled) (sym (append-nil kept)) f;
    }

plain_more : (limits : Limits) (content : Content) (kept : List ℕ) (awaits : Awaits) (frames : List Frame) (count : ℕ) (b : ℕ) (bs : List ℕ) (spelled : Spelled)
    → eqb b 60 ≡ false → eqb b 38 ≡ false → allows OfXml awaits b ≡ true
    → PlainBack limits content (kept ++ b ∷ []) (after OfXml awaits b) frames count bs spelled → PlainBack limits content kept awaits frames count (b ∷ bs) spelled
plain_more limits content kept awaits frames count b bs spelled f g a more = record {
  plain = b ∷ more.plain;
  allowed = rw (a, more.allowed) refl;
  free = rw (f, g, more.free) refl;
  b = more.b;
  rest = more.rest;
  parts = ap (λ (x : List ℕ). b ∷ x) more.parts;
  stop = more.stop;
  goes = subst (λ (x : List ℕ). run limits (in_text content x frames count) (more.b ∷ more.rest) ≡ Read spelled) (append_assoc kept (b ∷ []) more.plain) more.goes;
}

plain_back : (limits : Limits) (content : Content) (kept : List ℕ) (awaits : Awaits) (frames : List Frame) (count : ℕ) (bs : List ℕ) (spelled : Spelled)
    → run limits (at (Chars content kept awaits) frames count) bs ≡ Read spelled → PlainBack limits content kept awaits frames count bs spelled
plain_back limits content kept awaits frames count [] spelled e = absurd (not_read limits count 0 spelled e)
plain_back limits content kept awaits frames count (b ∷ bs) spelled e = elim (cases_Bool (eqb b 60)) [
  | inl f ↦ elim (cases_Bool (is_between awaits)) [
    | inl w ↦ plain_stop limits content kept awaits frames count b bs spelled w (inl (eqb-true b 60 f)) e
    | inr w ↦ absurd (not_read limits count (suc (length bs)) spelled (rw (f, w) at e))
  ]
  | inr f ↦ elim (cases_Bool (eqb b 38)) [
    | inl g ↦ elim (cases_Bool (is_between awaits)) [
      | inl w ↦ plain_stop limits content kept awaits frames count b bs spelled w (inr (eqb-true b 38 g)) e
      | inr w ↦ absurd (not_read limits count (suc (length bs)) spelled (rw (f, g, w) at e))
    ]
    | inr g ↦ elim (cases_Bool (allows OfXml awaits b)) [
      | inl a ↦ plain_more limits content kept awaits frames count b bs spelled f g a (plain_back limits content (kept ++ b ∷ []) (after OfXml awaits b) frames count bs spelled (rw (f, g, a) at e))
      | inr a ↦ absurd (not_read limits count (suc (length bs)) spelled (rw (f, g, a) at e))
    ]
  ]
]

-- characters as they stand
pub record PlainLetters (plain : List ℕ) : Type 0 where
  pub letters : List Letter
  pub right : AreLetters letters
  pub printed : printed_text letters ≡ plain
  pub means : text_of letters ≡ plain

no_ampersand : (c : ℕ) → list_all is_free (encode c) ≡ true → c ≢ 38
unfolding encode
no_ampersand c f e = let g : false ≡ true = rw e at f in cc g

no_less : (c : ℕ) → list_all is_free (encode c) ≡ true → c ≢ 60
unfolding encode
no_less c f e = let g : false ≡ true = rw e at f in cc g

plain_characters : (cs : List ℕ) → list_all is_allowed cs ≡ true → list_all is_free (encodes cs) ≡ true → PlainLetters (encodes cs)
plain_characters [] a f = record { letters = []; right = tt; printed = refl; means = refl }
plain_characters (c ∷ cs) a f =
    let p = and_parts (is_allowed c) (list_all is_allowed cs) a in
    let q = and_parts (list_all is_free (encode c)) (list_all is_free (encodes cs)) (sym (list_all-append is_free (encode c) (encodes cs)) ∙ f) in
    let more = plain_characters cs p.1 q.1 in
    record {
      letters = Plain c ∷ more.letters;
      right = ((p.0, no_ampersand c q.0, no_less c q.0), more.right);
      printed = ap (λ (x : List ℕ). encode c ++ x) more.printed;
      means = ap (λ (x : List ℕ). encode c ++ x) more.means;
    }

pub plain_letters : (plain : List ℕ) → are_letters OfXml Character plain ≡ true → list_all is_free plain ≡ true → PlainLetters plain
plain_letters plain a f =
    let r = read_accepted OfXml refl plain a in
    subst PlainLetters r.same (plain_characters r.cs r.fit (subst (λ (x : List ℕ). list_all is_free x ≡ true) (sym r.same) f))

pub printed_append : (a b : List Letter) → printed_text (a ++ b) ≡ printed_text a ++ printed_text b
printed_append [] b = refl
printed_append (x ∷ a) b = ap (λ (t : List ℕ). printed_letter x ++ t) (printed_append a b) ∙ sym (append_assoc (printed_letter x) (printed_text a) (printed_text b))

pub means_append : (a b : List Letter) → text_of (a ++ b) ≡ text_of a ++ text_of b
means_append [] b = refl
means_append (x ∷ a) b = ap (λ (t : List ℕ). encode_utf8 (character_of x) ++ t) (means_append a b) ∙ sym (append_assoc (encode_utf8 (character_of x)) (text_of a) (text_of b))

pub right_append : (a b : List Letter) → AreLetters a → AreLetters b → AreLetters (a ++ b)
right_append [] b p q = q
right_append (x ∷ a) b p q = (p.0, right_append a b p.1 q)

-- a text and its closing tag were read
pub record TextBack (limits : Limits) (content : Content) (kept : List ℕ) (frames : List Frame) (count : ℕ) (bs : List ℕ) (spelled : Spelled) : Type 0 where
  pub letters : List Letter
  pub right : AreLetters letters
  pub inside : List ℕ
  pub white : IsWhite inside
  pub rest : List ℕ
  pub parts : bs ≡ printed_text letters ++ printed_shut (end_of content) inside ++ rest
  pub may : may_end content (kept ++ text_of letters) ≡ true
  pub goes : run limits (leave limits (AtTextEnd content (kept ++ text_of letters)) frames count) rest ≡ Read spelled

pub alone_text : (limits : Limits) (content : Content) (bytes : List ℕ) → Alone limits (AtTextEnd content bytes) (end_of content)
alone_text limits InMethod bytes = record { only = refl; goes_on = tt; shut = λ frames count. refl }
alone_text limits (InName before) bytes = record { only = refl; goes_on = tt; shut = λ frames count. refl }
alone_text limits any bytes = record { only = refl; goes_on = tt; shut = λ frames count. refl }

text_end : (limits : Limits) (content : Content) (kept : List ℕ) (frames : List Frame) (count : ℕ) (bs rest : List ℕ) (spelled : Spelled) (letters : List Letter) → AreLetters letters
    → bs ≡ printed_text letters ++ 60 ∷ rest → run limits (in_text content (kept ++ text_of letters) frames count) (60 ∷ rest) ≡ Read spelled
    → TextBack limits content kept frames count bs spelled
text_end limits content kept frames count bs rest spelled letters l p e =
    let all = kept ++ text_of letters in
    elim (cases_Bool (may_end content all)) [
      | inl m ↦
          let s = shut_behind limits (AtTextEnd content all) (end_of content) frames count (60 ∷ rest) spelled (alone_text limits content all) (rw m at e) in
          record {
            letters = letters;
            right = l;
            inside = s.inside;
            white = s.white;
            rest = s.rest;
            parts = p ∙ ap (λ (x : List ℕ). printed_text letters ++ x) s.parts ∙ sym (append_assoc (printed_text letters) (printed_shut (end_of content) s.inside) s.rest);
            may = m;
            goes = s.goes;
          }
      | inr m ↦ absurd (not_read limits count (suc (length rest)) spelled (rw m at e))
    ]

shorter_by : (plain rest bs : List ℕ) (b fuel : ℕ) → bs ≡ plain ++ b ∷ rest → length bs ≤ fuel → suc (length rest) ≤ fuel
shorter_by plain rest bs b fuel e l = omega (arith, ap length e, length-append plain (b ∷ rest))

pub text_back : (fuel : ℕ) (limits : Limits) (content : Content) (kept : List ℕ) (frames : List Frame) (count : ℕ) (bs : List ℕ) (spelled : Spelled) → length bs ≤ fuel
    → run limits (in_text content kept frames count) bs ≡ Read spelled → TextBack limits content kept frames count bs spelled
text_back zero limits content kept frames count bs spelled l e =
    let p = plain_back limits content kept Character frames count bs spelled e in
    let h = shorter_by p.plain p.rest bs p.b 0 p.parts l in absurd (omega arith)
text_back (suc fuel) limits content kept frames count bs spelled l e =
    let p = plain_back limits content kept Character frames count bs spelled e in
    let letters = plain_letters p.plain p.allowed p.free in
    let parts : bs ≡ printed_text letters.letters ++ p.b ∷ p.rest = p.parts ∙ ap (λ (x : List ℕ). x ++ p.b ∷ p.rest) (sym letters.printed) in
    let go = subst (λ (x : List ℕ). run limits (in_text content (kept ++ x) frames count) (p.b ∷ p.rest) ≡ Read spelled) (sym letters.means) p.goes in
    stopped fuel limits content kept frames count bs spelled letters.letters letters.right p.b p.rest parts (shorter_by p.plain p.rest bs p.b (suc fuel) p.parts l) p.stop go
    (λ kept bs l e. text_back fuel limits content kept frames count bs spelled l e)
  where
    stopped : (fuel : ℕ) (limits : Limits) (content : Content) (kept : List ℕ) (frames : List Frame) (count : ℕ) (bs : List ℕ) (spelled : Spelled) (letters : List Letter) → AreLetters letters
        → (b : ℕ) (rest : List ℕ) → bs ≡ printed_text letters ++ b ∷ rest → suc (length rest) ≤ suc fuel → (b ≡ 60) ⊎ (b ≡ 38)
        → run limits (in_text content (kept ++ text_of letters) frames count) (b ∷ rest) ≡ Read spelled
        → ((kept : List ℕ) (bs : List ℕ) → length bs ≤ fuel → run limits (in_text content kept frames count) bs ≡ Read spelled → TextBack limits content kept frames count bs spelled)
        → TextBack limits content kept frames count bs spelled
    stopped fuel limits content kept frames count bs spelled letters right b rest parts short (inl is) go again =
        text_end limits content kept frames count bs rest spelled letters right (parts ∙ ap (λ (x : ℕ). printed_text letters ++ x ∷ rest) is)
        (subst (λ (x : ℕ). run limits (in_text content (kept ++ text_of letters) frames count) (x ∷ rest) ≡ Read spelled) is go)
    stopped fuel limits content kept frames count bs spelled letters right b rest parts short (inr is) go again =
        let one = entity_back limits content (kept ++ text_of letters) frames count (38 ∷ rest) spelled
        (subst (λ (x : ℕ). run limits (in_text content (kept ++ text_of letters) frames count) (x ∷ rest) ≡ Read spelled) is go) in
        let more = again (kept ++ text_of letters ++ encode_utf8 (character_of one.letter)) one.rest (omega (arith, one.shorter)) one.goes in
        let means : kept ++ text_of letters ++ encode_utf8 (character_of one.letter) ++ text_of more.letters ≡ kept ++ text_of (letters ++ one.letter ∷ more.letters) =
        append_assoc (kept ++ text_of letters) (encode_utf8 (character_of one.letter)) (text_of more.letters)
        ∙ append_assoc kept (text_of letters) (encode_utf8 (character_of one.letter) ++ text_of more.letters)
        ∙ ap (λ (x : List ℕ). kept ++ x) (sym (means_append letters (one.letter ∷ more.letters))) in
        record {
          letters = letters ++ one.letter ∷ more.letters;
          right = right_append letters (one.letter ∷ more.letters) right (one.right, more.right);
          inside = more.inside;
          white = more.white;
          rest = more.rest;
          parts =
              parts ∙ ap (λ (x : ℕ). printed_text letters ++ x ∷ rest) is
              ∙ ap (λ (x : List ℕ). printed_text letters ++ x) (one.parts ∙ ap (λ (x : List ℕ). printed_letter one.letter ++ x) more.parts)
              ∙ joins (printed_text letters) (printed_letter one.letter) (printed_text more.letters) (printed_shut (end_of content) more.inside) more.rest
              ∙ ap (λ (x : List ℕ). x ++ printed_shut (end_of content) more.inside ++ more.rest) (sym (printed_append letters (one.letter ∷ more.letters)));
          may = subst (λ (x : List ℕ). may_end content x ≡ true) means more.may;
          goes = subst (λ (x : List ℕ). run limits (leave limits (AtTextEnd content x) frames count) more.rest ≡ Read spelled) means more.goes;
        }
      where
        joins : (a b c d e : List ℕ) → a ++ (b ++ (c ++ d ++ e)) ≡ a ++ (b ++ c) ++ d ++ e
        joins a b c d e = simp append_assoc refl

pub record DecimalBack (b : ℕ) : Type 0 where
  pub is : digit_value b < 10
  pub value : b - 48 ≡ digit_value b

pub decimal_back : (b : ℕ) → is_ascii_digit b ≡ true → DecimalBack b
decimal_back b h = record { is = grind (arith, nat_tests); value = grind (arith, nat_tests) }

-- the digits of an integer were read
record DigitsBack (limits : Limits) (short negative : Bool) (frames : List Frame) (count n : ℕ) (bs : List ℕ) (spelled : Spelled) : Type 0 where
  pub digits : List ℕ
  pub right : AllDigits 10 digits
  pub fits : digits_value_after 10 n digits ≤ most_of negative
  pub rest : List ℕ
  pub parts : bs ≡ digits ++ rest
  pub goes : run limits (at (Within (AtIntegerEnd short (signed negative (digits_value_after 10 n digits))) (words_of (tags_of (AtIntegerEnd short (signed negative (digits_value_after 10 n digits)))))) frames count) rest ≡ Read spelled

abbrev DigitsGo : Limits → Bool → Bool → Sign → List Frame → ℕ → ℕ → List ℕ → Spelled → Type 0
DigitsGo limits short negative sign frames count n bs spelled = run limits (at (Digits short negative sign n) frames count) bs ≡ Read spelled

-- after a digit
digit_on : (limits : Limits) (short negative : Bool) (sign : Sign) (frames : List Frame) (count n b : ℕ) (bs : List ℕ) (spelled : Spelled) → is_ascii_digit b ≡ true
    → DigitsGo limits short negative sign frames count n (b ∷ bs) spelled
    → (n * 10 + digit_value b ≤ most_of negative) × DigitsGo limits short negative Counted frames count (n * 10 + digit_value b) bs spelled
digit_on limits short negative sign frames count n b bs spelled d e = elim (cases_Bool (leb (n * 10 + (b - 48)) (most_of negative))) [
  | inl l ↦
      let s = decimal_back b d in
      let f : DigitsGo limits short negative Counted frames count (n * 10 + (b - 48)) bs spelled = rw (d, l) at e in (
        subst (λ (v : ℕ). n * 10 + v ≤ most_of negative) s.value (leb-true (n * 10 + (b - 48)) (most_of negative) l),
        subst (λ (v : ℕ). DigitsGo limits short negative Counted frames count (n * 10 + v) bs spelled) s.value f,
      )
  | inr l ↦ absurd (not_read limits count (suc (length bs)) spelled (rw (d, l) at e))
]

digits_back : (limits : Limits) (short negative : Bool) (frames : List Frame) (count n : ℕ) (bs : List ℕ) (spelled : Spelled) → n ≤ most_of negative
    → DigitsGo limits short negative Counted frames count n bs spelled → DigitsBack limits short negative frames count n bs spelled
digits_back limits short negative frames count n [] spelled l e = absurd (not_read limits count 0 spelled e)
digits_back limits short negative frames count n (b ∷ bs) spelled l e = elim (cases_Bool (is_ascii_digit b)) [
  | inl d ↦
      let on = digit_on limits short negative Counted frames count n b bs spelled d e in
      let more = digits_back limits short negative frames count (n * 10 + digit_value b) bs spelled on.0 on.1 in
      record { digits = b ∷ more.digits; right = ((decimal_back b d).is, more.right); fits = more.fits; rest = more.rest; parts = ap (λ (x : List ℕ). b ∷ x) more.parts; goes = more.goes }
  | inr d ↦ record { digits = []; right = tt; fits = l; rest = b ∷ bs; parts = refl; goes = rw d at e }
]

-- an integer was read
pub record IntegerBack (limits : Limits) (short : Bool) (frames : List Frame) (count : ℕ) (bs : List ℕ) (spelled : Spelled) : Type 0 where
  pub mark : Mark
  pub digits : List ℕ
  pub right : IsNumeral 10 digits
  pub fits : digits_value 10 digits ≤ most_of (is_minus mark)
  pub rest : List ℕ
  pub parts : bs ≡ printed_mark mark ++ digits ++ rest
  pub goes : run limits (at (Within (AtIntegerEnd short (signed (is_minus mark) (digits_value 10 digits))) (words_of (tags_of (AtIntegerEnd short (signed (is_minus mark) (digits_value 10 digits)))))) frames count) rest ≡ Read spelled

-- the first digit, after this sign
first_back : (limits : Limits) (short : Bool) (mark : Mark) (sign : Sign) (frames : List Frame) (count b : ℕ) (bs : List ℕ) (spelled : Spelled) → is_ascii_digit b ≡ true
    → DigitsGo limits short (is_minus mark) sign frames count 0 (b ∷ bs) spelled → IntegerBack limits short frames count (printed_mark mark ++ b ∷ bs) spelled
first_back limits short mark sign frames count b bs spelled d e =
    let on = digit_on limits short (is_minus mark) sign frames count 0 b bs spelled d e in
    let more = digits_back limits short (is_minus mark) frames count (0 * 10 + digit_value b) bs spelled on.0 on.1 in
    record {
      mark = mark;
      digits = b ∷ more.digits;
      right = (omega arith, ((decimal_back b d).is, more.right));
      fits = more.fits;
      rest = more.rest;
      parts = ap (λ (x : List ℕ). printed_mark mark ++ b ∷ x) more.parts ∙ sym (append_assoc (printed_mark mark) (b ∷ more.digits) more.rest);
      goes = more.goes;
    }

signed_back : (limits : Limits) (short : Bool) (mark : Mark) (frames : List Frame) (count : ℕ) (bs : List ℕ) (spelled : Spelled)
    → DigitsGo limits short (is_minus mark) Signed frames count 0 bs spelled → IntegerBack limits short frames count (printed_mark mark ++ bs) spelled
signed_back limits short mark frames count [] spelled e = absurd (not_read limits count 0 spelled e)
signed_back limits short mark frames count (b ∷ bs) spelled e = elim (cases_Bool (is_ascii_digit b)) [
  | inl d ↦ first_back limits short mark Signed frames count b bs spelled d e
  | inr d ↦ absurd (not_read limits count (suc (length bs)) spelled (rw d at e))
]

pub integer_back : (limits : Limits) (short : Bool) (frames : List Frame) (count : ℕ) (bs : List ℕ) (spelled : Spelled)
    → DigitsGo limits short false Fresh frames count 0 bs spelled → IntegerBack limits short frames count bs spelled
integer_back limits short frames count [] spelled e = absurd (not_read limits count 0 spelled e)
integer_back limits short frames count (b ∷ bs) spelled e = elim (cases_Bool (is_ascii_digit b)) [
  | inl d ↦ first_back limits short NoMark Fresh frames count b bs spelled d e
  | inr d ↦ elim (cases_Bool (eqb b 45)) [
    | inl m ↦
        subst (λ (x : ℕ). IntegerBack limits short frames count (x ∷ bs) spelled) (sym (eqb-true b 45 m))
        (signed_back limits short Minus frames count bs spelled (rw (d, m) at e))
    | inr m ↦ elim (cases_Bool (eqb b 43)) [
      | inl p ↦
          subst (λ (x : ℕ). IntegerBack limits short frames count (x ∷ bs) spelled) (sym (eqb-true b 43 p))
          (signed_back limits short Plus frames count bs spelled (rw (d, m, p) at e))
      | inr p ↦ absurd (not_read limits count (suc (length bs)) spelled (rw (d, m, p) at e))
    ]
  ]
]
