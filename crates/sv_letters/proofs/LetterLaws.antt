-- The bytes that may come one after the other are those of UTF-8 whose characters these letters have.
use Rattle.std.proofs.Common.{◌≡◌, ℕ, zero, suc, ◌+◌, ◌*◌, ◌-◌, ◌/◌, ◌%◌, ◌<◌, ◌≤◌, Bool, true, false, not, cond, ◌&&◌, ◌||◌, eqb, ltb, leb, List, [], ◌∷◌, ◌++◌, length, inl, inr, refl, sym, ap, ◌∙◌, arith, IsUtf8, subst, le_trans}
use Rattle.std.specs.Prelude.{chars}
use Rattle.std.specs.List.{list_all}
use Rattle.std.proofs.lemmas.Bool.{false≢true, cases_Bool, cases_lt, cases_eq, lt-ltb, le-ltb, lt-leb, le-leb, eq-eqb, ne_eqb, and_parts, leb-true}
use Rattle.std.proofs.lemmas.Str.{encode_ascii, encodes-chars, scalars-chars, chars-encodes}
use lib.Utf8.{scalar, scalars, encode, encodes, scalar_cases, low_scalar}
use Rattle.sv_letters.specs.Letters.{is_name_letter, is_allowed, is_letter, is_lead, is_private, whole_below, second_of_two, allows, after_continuation, after, are_letters}
use Rattle.sv_letters.specs.declared.letters.Letters.{Letters}
use Rattle.sv_letters.specs.declared.letters.Letters.TheVariants.{OfText, OfName, OfBytes, OfXml}
use Rattle.sv_letters.specs.declared.letters.Awaits.{Awaits}
use Rattle.sv_letters.specs.declared.letters.Awaits.TheVariants.{Character, Private, Continuation}

-- the letters are those of a text, whose bytes are UTF-8
abbrev pub IsText : Letters → Type 0
IsText letters = whole_below letters ≡ 128

last : (letters : Letters) (low high b : ℕ) (bs : List ℕ) → high ≤ 191 → low ≤ b → b ≤ high
    → are_letters letters (Continuation low high 0) (b ∷ bs) ≡ are_letters letters Character bs
last letters low high b bs h l u = rw (le-leb low b l, le-leb b high u) refl

inner : (letters : Letters) (low high more b : ℕ) (bs : List ℕ) → high ≤ 191 → low ≤ b → b ≤ high
    → are_letters letters (Continuation low high (suc more)) (b ∷ bs) ≡ are_letters letters (Continuation 128 191 more) bs
inner letters low high more b bs h l u = rw (le-leb low b l, le-leb b high u) refl

one : (letters : Letters) → IsText letters → (b : ℕ) (bs : List ℕ) → b < 128 → is_lead letters b ≡ true
    → are_letters letters Character (b ∷ bs) ≡ are_letters letters Character bs
one letters t b bs h e = rw (t, lt-ltb b 128 h, e) refl

lead_two : (letters : Letters) → IsText letters → (b : ℕ) (bs : List ℕ) → 194 ≤ b → b < 224
    → are_letters letters Character (b ∷ bs) ≡ are_letters letters (Continuation (second_of_two letters b) 191 0) bs
lead_two letters t b bs l u = rw (t, le-ltb b 128 (omega arith), le-leb 194 b l, le-leb b 244 (omega arith), lt-ltb b 224 u) refl

lead_three : (letters : Letters) → IsText letters → (b : ℕ) (bs : List ℕ) → is_private letters b ≡ false → 224 ≤ b → b < 240
    → are_letters letters Character (b ∷ bs) ≡ are_letters letters (Continuation (cond (eqb b 224) 160 128) (cond (eqb b 237) 159 191) 1) bs
lead_three letters t b bs p l u = rw (t, le-ltb b 128 (omega arith), le-leb 194 b (omega arith), le-leb b 244 (omega arith), le-ltb b 224 l, p, lt-ltb b 240 u) refl

not_private : (letters : Letters) (b : ℕ) → 240 ≤ b → is_private letters b ≡ false
not_private OfText b l = refl
not_private OfName b l = refl
not_private OfBytes b l = refl
not_private OfXml b l = ne_eqb b 239 (λ e. omega arith)

lead_four : (letters : Letters) → IsText letters → (b : ℕ) (bs : List ℕ) → 240 ≤ b → b ≤ 244
    → are_letters letters Character (b ∷ bs) ≡ are_letters letters (Continuation (cond (eqb b 240) 144 128) (cond (eqb b 244) 143 191) 2) bs
lead_four letters t b bs l u = rw (t, le-ltb b 128 (omega arith), le-leb 194 b (omega arith), le-leb b 244 u, le-ltb b 224 (omega arith), not_private letters b l, le-ltb b 240 l) refl

second_of_five : (a b c d e : Bool) → ((((a && b) && c) && d) && e) ≡ true → b ≡ true
second_of_five a b c d e h =
    let p = and_parts (((a && b) && c) && d) e h in
    let q = and_parts ((a && b) && c) d p.0 in
    let r = and_parts (a && b) c q.0 in
    (and_parts a b r.0).1

name_high : (c : ℕ) → 128 ≤ c → is_name_letter c ≡ true → 160 ≤ c
name_high c l e = elim (cases_lt 159 c) [
  | inl h ↦ omega arith
  | inr h ↦
      let d = second_of_five (ltb 32 c) (not (leb 127 c && leb c 159)) (not (eqb c 58)) (not (eqb c 47)) (not (eqb c 42)) e in
      absurd (false≢true (rw (le-leb 127 c (omega arith), le-leb c 159 h) at d))
]

-- above ASCII a name leaves out only U+0080 to U+009F
name_letter : (c : ℕ) → 160 ≤ c → is_name_letter c ≡ true
name_letter c l =
    rw (lt-ltb 32 c (omega arith), lt-leb c 159 (omega arith), le-leb 127 c (omega arith), ne_eqb c 58 (λ e. omega arith), ne_eqb c 47 (λ e. omega arith), ne_eqb c 42 (λ e. omega arith)) refl

xml_low : (c : ℕ) → 32 ≤ c → c < 55296 → is_allowed c ≡ true
xml_low c l u = rw (le-ltb c 32 l, lt-ltb c 55296 u) refl

xml_middle : (c : ℕ) → 57344 ≤ c → c < 65534 → is_allowed c ≡ true
xml_middle c l u = rw (le-ltb c 32 (omega arith), le-ltb c 55296 (omega arith), le-ltb c 57344 l, lt-ltb c 65534 u) refl

allowed_low : (letters : Letters) (c : ℕ) → 160 ≤ c → c < 55296 → is_letter letters c ≡ true
allowed_low OfText c l u = refl
allowed_low OfName c l u = name_letter c l
allowed_low OfBytes c l u = refl
allowed_low OfXml c l u = xml_low c (omega arith) u

allowed_middle : (letters : Letters) (c : ℕ) → 57344 ≤ c → c < 65534 → is_letter letters c ≡ true
allowed_middle OfText c l u = refl
allowed_middle OfName c l u = name_letter c (omega arith)
allowed_middle OfBytes c l u = refl
allowed_middle OfXml c l u = xml_middle c l u

allowed_high : (letters : Letters) (c : ℕ) → 65536 ≤ c → c < 1114112 → is_letter letters c ≡ true
allowed_high OfText c l u = refl
allowed_high OfName c l u = name_letter c (omega arith)
allowed_high OfBytes c l u = refl
allowed_high OfXml c l u =
    rw (le-ltb c 32 (omega arith), le-ltb c 55296 (omega arith), le-ltb c 57344 (omega arith), le-ltb c 65534 (omega arith), le-ltb c 65536 l, lt-ltb c 1114112 u) refl

lead_of : (letters : Letters) (c : ℕ) → c < 128 → is_letter letters c ≡ true → is_lead letters c ≡ true
lead_of OfText c u e = refl
lead_of OfName c u e = e
lead_of OfBytes c u e = refl
lead_of OfXml c u e = elim (cases_lt c 32) [
  | inl h ↦ let f : (eqb c 9 || eqb c 10 || eqb c 13) ≡ true = rw (lt-ltb c 32 h) at e in rw (lt-leb 32 c h) f
  | inr h ↦ rw (le-leb 32 c h) refl
]

letter_of : (letters : Letters) (c : ℕ) → c < 128 → is_lead letters c ≡ true → is_letter letters c ≡ true
letter_of OfText c u e = refl
letter_of OfName c u e = e
letter_of OfBytes c u e = refl
letter_of OfXml c u e = elim (cases_lt c 32) [
  | inl h ↦ let f : (eqb c 9 || eqb c 10 || eqb c 13) ≡ true = rw (lt-leb 32 c h) at e in rw (lt-ltb c 32 h) f
  | inr h ↦ xml_low c h (omega arith)
]

second_low : (letters : Letters) (c : ℕ) → 128 ≤ c → c < 2048 → is_letter letters c ≡ true → second_of_two letters (192 + c / 64) ≤ 128 + c % 64
second_low OfText c l u e = omega arith
second_low OfBytes c l u e = omega arith
second_low OfXml c l u e = omega arith
second_low OfName c l u e = elim (cases_eq (192 + c / 64) 194) [
  | inl q ↦ let h = name_high c l e in rw (eq-eqb (192 + c / 64) 194 q) (omega arith)
  | inr q ↦ rw (ne_eqb (192 + c / 64) 194 q) (omega arith)
]

two_letter : (letters : Letters) (x y : ℕ) → 194 ≤ x → x < 224 → second_of_two letters x ≤ y → y ≤ 191 → is_letter letters ((x - 192) * 64 + (y - 128)) ≡ true
two_letter OfText x y l u m n = refl
two_letter OfBytes x y l u m n = refl
two_letter OfXml x y l u m n = xml_low ((x - 192) * 64 + (y - 128)) (omega arith) (omega arith)
two_letter OfName x y l u m n = elim (cases_eq x 194) [
  | inl e ↦ let h : 160 ≤ y = rw (eq-eqb x 194 e) at m in name_letter ((x - 192) * 64 + (y - 128)) (omega arith)
  | inr e ↦ let h : 128 ≤ y = rw (ne_eqb x 194 e) at m in name_letter ((x - 192) * 64 + (y - 128)) (omega arith)
]

pub second_128 : (letters : Letters) (x : ℕ) → 128 ≤ second_of_two letters x
second_128 OfText x = omega arith
second_128 OfBytes x = omega arith
second_128 OfXml x = omega arith
second_128 OfName x = elim (cases_Bool (eqb x 194)) [ inl e ↦ rw e (omega arith) | inr e ↦ rw e (omega arith) ]

pub second_191 : (letters : Letters) (x : ℕ) → second_of_two letters x ≤ 191
second_191 OfText x = omega arith
second_191 OfBytes x = omega arith
second_191 OfXml x = omega arith
second_191 OfName x = elim (cases_Bool (eqb x 194)) [ inl e ↦ rw e (omega arith) | inr e ↦ rw e (omega arith) ]

-- XML leaves out the last two characters of three bytes
not_last : (c : ℕ) → c < 65536 → is_allowed c ≡ true → c < 65534
not_last c u e = elim (cases_lt c 65534) [
  | inl h ↦ h
  | inr h ↦ absurd (false≢true (rw (le-ltb c 32 (omega arith), le-ltb c 55296 (omega arith), le-ltb c 57344 (omega arith), le-ltb c 65534 h, lt-ltb c 65536 u) at e))
]

lead_private : (b : ℕ) (bs : List ℕ) → b ≡ 239 → are_letters OfXml Character (b ∷ bs) ≡ are_letters OfXml Private bs
lead_private b bs e = rw e refl

private_second : (b : ℕ) (bs : List ℕ) → 128 ≤ b → b ≤ 191 → are_letters OfXml Private (b ∷ bs) ≡ are_letters OfXml (Continuation 128 (cond (eqb b 191) 189 191) 0) bs
private_second b bs l u = rw (le-leb 128 b l, le-leb b 191 u) refl

three_low : (c : ℕ) → 2048 ≤ c → c < 65536 → cond (eqb (224 + c / 4096) 224) 160 128 ≤ 128 + (c / 64) % 64
three_low c l u = elim (cases_eq (224 + c / 4096) 224) [
  | inl q ↦ rw (eq-eqb (224 + c / 4096) 224 q) (omega arith)
  | inr q ↦ rw (ne_eqb (224 + c / 4096) 224 q) (omega arith)
]

three_high : (c : ℕ) → c < 65536 → scalar c ≡ true → 128 + (c / 64) % 64 ≤ cond (eqb (224 + c / 4096) 237) 159 191
three_high c u s = elim (cases_eq (224 + c / 4096) 237) [
  | inl q ↦
      let low : c < 55296 = elim (scalar_cases c s) [ inl h ↦ h | inr h ↦ absurd (omega arith) ] in
      rw (eq-eqb (224 + c / 4096) 237 q) (omega arith)
  | inr q ↦ rw (ne_eqb (224 + c / 4096) 237 q) (omega arith)
]

four_low : (c : ℕ) → 65536 ≤ c → cond (eqb (240 + c / 262144) 240) 144 128 ≤ 128 + (c / 4096) % 64
four_low c l = elim (cases_eq (240 + c / 262144) 240) [
  | inl q ↦ rw (eq-eqb (240 + c / 262144) 240 q) (omega arith)
  | inr q ↦ rw (ne_eqb (240 + c / 262144) 240 q) (omega arith)
]

four_high : (c : ℕ) → c < 1114112 → 128 + (c / 4096) % 64 ≤ cond (eqb (240 + c / 262144) 244) 143 191
four_high c u = elim (cases_eq (240 + c / 262144) 244) [
  | inl q ↦ rw (eq-eqb (240 + c / 262144) 244 q) (omega arith)
  | inr q ↦ rw (ne_eqb (240 + c / 262144) 244 q) (omega arith)
]

at_most_191 : (b : Bool) (n : ℕ) → n ≤ 191 → cond b n 191 ≤ 191
at_most_191 true n h = h
at_most_191 false n h = omega arith

three_plain : (letters : Letters) → IsText letters → (c : ℕ) → is_private letters (224 + c / 4096) ≡ false → 2048 ≤ c → c < 65536 → scalar c ≡ true → (rest : List ℕ)
    → are_letters letters Character ((224 + c / 4096) ∷ (128 + (c / 64) % 64) ∷ (128 + c % 64) ∷ rest) ≡ are_letters letters Character rest
three_plain letters t c p l u s rest =
    lead_three letters t (224 + c / 4096) ((128 + (c / 64) % 64) ∷ (128 + c % 64) ∷ rest) p (omega arith) (omega arith)
    ∙ inner letters _ _ 0 (128 + (c / 64) % 64) ((128 + c % 64) ∷ rest) (at_most_191 (eqb (224 + c / 4096) 237) 159 (omega arith)) (three_low c l u) (three_high c u s)
    ∙ last letters 128 191 (128 + c % 64) rest (omega arith) (omega arith) (omega arith)

third_high : (c : ℕ) → 224 + c / 4096 ≡ 239 → c < 65534 → 128 + c % 64 ≤ cond (eqb (128 + (c / 64) % 64) 191) 189 191
third_high c p u = elim (cases_eq (128 + (c / 64) % 64) 191) [
  | inl q ↦ rw (eq-eqb (128 + (c / 64) % 64) 191 q) (omega arith)
  | inr q ↦ rw (ne_eqb (128 + (c / 64) % 64) 191 q) (omega arith)
]

three_bytes : (letters : Letters) → IsText letters → (c : ℕ) → 2048 ≤ c → c < 65536 → scalar c ≡ true → is_letter letters c ≡ true → (rest : List ℕ)
    → are_letters letters Character ((224 + c / 4096) ∷ (128 + (c / 64) % 64) ∷ (128 + c % 64) ∷ rest) ≡ are_letters letters Character rest
three_bytes OfText t c l u s e rest = three_plain OfText t c refl l u s rest
three_bytes OfName t c l u s e rest = three_plain OfName t c refl l u s rest
three_bytes OfBytes t c l u s e rest = three_plain OfBytes t c refl l u s rest
three_bytes OfXml t c l u s e rest = elim (cases_eq (224 + c / 4096) 239) [
  | inl q ↦
      lead_private (224 + c / 4096) ((128 + (c / 64) % 64) ∷ (128 + c % 64) ∷ rest) q
      ∙ private_second (128 + (c / 64) % 64) ((128 + c % 64) ∷ rest) (omega arith) (omega arith)
      ∙ last OfXml 128 _ (128 + c % 64) rest (at_most_191 (eqb (128 + (c / 64) % 64) 191) 189 (omega arith)) (omega arith) (third_high c q (not_last c u e))
  | inr q ↦ three_plain OfXml t c (ne_eqb (224 + c / 4096) 239 q) l u s rest
]

pub accept_char : (letters : Letters) → IsText letters → (c : ℕ) → scalar c ≡ true → is_letter letters c ≡ true → (rest : List ℕ)
    → are_letters letters Character (encode c ++ rest) ≡ are_letters letters Character rest
unfolding encode
accept_char letters t c s e rest = elim (cases_lt c 128) [
  | inl h ↦ rw (lt-ltb c 128 h) (one letters t c rest h (lead_of letters c h e))
  | inr h ↦ elim (cases_lt c 2048) [
    | inl u ↦
        rw (le-ltb c 128 h, lt-ltb c 2048 u)
        (lead_two letters t (192 + c / 64) ((128 + c % 64) ∷ rest) (omega arith) (omega arith)
        ∙ last letters _ 191 (128 + c % 64) rest (omega arith) (second_low letters c h u e) (omega arith))
    | inr l ↦ elim (cases_lt c 65536) [
      | inl u ↦
          rw (le-ltb c 128 h, le-ltb c 2048 l, lt-ltb c 65536 u)
          (three_bytes letters t c l u s e rest)
      | inr l ↦
          let top : c < 1114112 = elim (scalar_cases c s) [ inl h ↦ omega arith | inr h ↦ h.1 ] in
          rw (le-ltb c 128 h, le-ltb c 2048 (omega arith), le-ltb c 65536 l)
          (lead_four letters t (240 + c / 262144) ((128 + (c / 4096) % 64) ∷ (128 + (c / 64) % 64) ∷ (128 + c % 64) ∷ rest) (omega arith) (omega arith)
          ∙ inner letters _ _ 1 (128 + (c / 4096) % 64) ((128 + (c / 64) % 64) ∷ (128 + c % 64) ∷ rest) (at_most_191 (eqb (240 + c / 262144) 244) 143 (omega arith)) (four_low c l) (four_high c top)
          ∙ inner letters 128 191 0 (128 + (c / 64) % 64) ((128 + c % 64) ∷ rest) (omega arith) (omega arith) (omega arith)
          ∙ last letters 128 191 (128 + c % 64) rest (omega arith) (omega arith) (omega arith))
    ]
  ]
]

accept_all : (letters : Letters) → IsText letters → (cs : List ℕ) → scalars cs ≡ true → list_all (is_letter letters) cs ≡ true → are_letters letters Character (encodes cs) ≡ true
accept_all letters t [] s e = refl
accept_all letters t (c ∷ cs) s e =
    let p = and_parts _ _ s in
    let q = and_parts _ _ e in
    accept_char letters t c p.0 q.0 (encodes cs) ∙ accept_all letters t cs p.1 q.1

-- the characters of bytes that are accepted
pub record Read (letters : Letters) (bs : List ℕ) : Type 0 where
  pub cs : List ℕ
  pub scalar : scalars cs ≡ true
  pub same : encodes cs ≡ bs
  pub fit : list_all (is_letter letters) cs ≡ true

record Next (letters : Letters) (low high more : ℕ) (bs : List ℕ) : Type 0 where
  b : ℕ
  rest : List ℕ
  is : bs ≡ b ∷ rest
  least : low ≤ b
  most : b ≤ high
  goes : are_letters letters (after_continuation more) rest ≡ true

next : (letters : Letters) (low high more : ℕ) (bs : List ℕ) → are_letters letters (Continuation low high more) bs ≡ true → Next letters low high more bs
next letters low high more [] e = cc e
next letters low high more (b ∷ bs) e =
    let p = and_parts _ _ e in
    let q = and_parts _ _ p.0 in
    record { b = b; rest = bs; is = refl; least = leb-true low b q.0; most = leb-true b high q.1; goes = p.1 }

encode_two : (x y : ℕ) → 194 ≤ x → x < 224 → 128 ≤ y → y ≤ 191 → encode ((x - 192) * 64 + (y - 128)) ≡ x ∷ y ∷ []
unfolding encode
encode_two x y l u m n =
    let c = (x - 192) * 64 + (y - 128) in
    let top : 192 + c / 64 ≡ x = omega arith in
    let low : 128 + c % 64 ≡ y = omega arith in
    rw (le-ltb c 128 (omega arith), lt-ltb c 2048 (omega arith), top, low) refl

encode_three : (x y z : ℕ) → 224 ≤ x → x < 240 → 128 ≤ y → y ≤ 191 → 128 ≤ z → z ≤ 191 → (x ≡ 224 → 160 ≤ y)
    → encode ((x - 224) * 4096 + (y - 128) * 64 + (z - 128)) ≡ x ∷ y ∷ z ∷ []
unfolding encode
encode_three x y z l u m n o p first =
    let c = (x - 224) * 4096 + (y - 128) * 64 + (z - 128) in
    let big : 2048 ≤ c = elim (cases_eq x 224) [ inl e ↦ let h = first e in omega arith | inr e ↦ omega arith ] in
    let top : 224 + c / 4096 ≡ x = omega arith in
    let middle : 128 + (c / 64) % 64 ≡ y = omega arith in
    let low : 128 + c % 64 ≡ z = omega arith in
    rw (le-ltb c 128 (omega arith), le-ltb c 2048 big, lt-ltb c 65536 (omega arith), top, middle, low) refl

encode_four : (x y z w : ℕ) → 240 ≤ x → x ≤ 244 → 128 ≤ y → y ≤ 191 → 128 ≤ z → z ≤ 191 → 128 ≤ w → w ≤ 191 → (x ≡ 240 → 144 ≤ y)
    → encode ((x - 240) * 262144 + (y - 128) * 4096 + (z - 128) * 64 + (w - 128)) ≡ x ∷ y ∷ z ∷ w ∷ []
unfolding encode
encode_four x y z w l u m n o p q r first =
    let c = (x - 240) * 262144 + (y - 128) * 4096 + (z - 128) * 64 + (w - 128) in
    let big : 65536 ≤ c = elim (cases_eq x 240) [ inl e ↦ let h = first e in omega arith | inr e ↦ omega arith ] in
    let top : 240 + c / 262144 ≡ x = omega arith in
    let second : 128 + (c / 4096) % 64 ≡ y = omega arith in
    let third : 128 + (c / 64) % 64 ≡ z = omega arith in
    let low : 128 + c % 64 ≡ w = omega arith in
    rw (le-ltb c 128 (omega arith), le-ltb c 2048 (omega arith), le-ltb c 65536 big, top, second, third, low) refl

scalar_low : (c : ℕ) → c < 55296 → scalar c ≡ true
scalar_low c h = low_scalar c h

scalar_high : (c : ℕ) → 57344 ≤ c → c < 1114112 → scalar c ≡ true
scalar_high c l u = rw (le-ltb c 55296 (omega arith), le-leb 57344 c l, lt-ltb c 1114112 u) refl

more : (letters : Letters) (c : ℕ) (front rest : List ℕ) → encode c ≡ front → scalar c ≡ true → is_letter letters c ≡ true → Read letters rest → Read letters (front ++ rest)
more letters c front rest e s l r = record {
  cs = c ∷ r.cs;
  scalar = rw (s, r.scalar) refl;
  same = rw (e, r.same) refl;
  fit = rw (l, r.fit) refl;
}

-- what reads every shorter list
abbrev Reads : ℕ → Letters → Type 0
Reads n letters = (bs : List ℕ) → length bs ≤ n → are_letters letters Character bs ≡ true → Read letters bs

with_two : (n : ℕ) (letters : Letters) → Reads n letters → (x : ℕ) (bs : List ℕ) → length bs ≤ n → 194 ≤ x → x < 224
    → are_letters letters (Continuation (second_of_two letters x) 191 0) bs ≡ true → Read letters (x ∷ bs)
with_two n letters again x bs h l u e =
    let y = next letters _ 191 0 bs e in
    let base = second_128 letters x in
    let least : 128 ≤ y.b = le_trans base y.least in
    let shorter : length y.rest ≤ n = omega (arith, ap length y.is) in
    let c = (x - 192) * 64 + (y.b - 128) in
    let r = more letters c (x ∷ y.b ∷ []) y.rest (encode_two x y.b l u least y.most) (scalar_low c (omega arith)) (two_letter letters x y.b l u y.least y.most) (again y.rest shorter y.goes) in
    subst (λ (q : List ℕ). Read letters (x ∷ q)) (sym y.is) r

at_least_128 : (b : Bool) (m n : ℕ) → 128 ≤ m → cond b m 128 ≤ n → 128 ≤ n
at_least_128 true m n l h = omega arith
at_least_128 false m n l h = h

at_most : (b : Bool) (m n : ℕ) → m ≤ 191 → n ≤ cond b m 191 → n ≤ 191
at_most true m n l h = omega arith
at_most false m n l h = h

low_where : (x n m : ℕ) (y : ℕ) → cond (eqb x n) m 128 ≤ y → x ≡ n → m ≤ y
low_where x n m y h e = rw (eq-eqb x n e) at h

high_where : (x n m : ℕ) (y : ℕ) → y ≤ cond (eqb x n) m 191 → x ≡ n → y ≤ m
high_where x n m y h e = rw (eq-eqb x n e) at h

above_letter : (letters : Letters) (x c : ℕ) → is_private letters x ≡ false → 238 ≤ x → 57344 ≤ c → c < 65536 → (x < 239 → c < 61440) → x < 240 → is_letter letters c ≡ true
above_letter OfText x c p l lo hi under u = refl
above_letter OfName x c p l lo hi under u = name_letter c (omega arith)
above_letter OfBytes x c p l lo hi under u = refl
above_letter OfXml x c p l lo hi under u = elim (cases_eq x 239) [
  | inl q ↦ absurd (false≢true (sym p ∙ eq-eqb x 239 q))
  | inr q ↦ let h = under (omega arith) in allowed_middle OfXml c lo (omega arith)
]

with_private : (n : ℕ) → Reads n OfXml → (x : ℕ) (bs : List ℕ) → length bs ≤ n → x ≡ 239 → are_letters OfXml Private bs ≡ true → Read OfXml (x ∷ bs)
with_private n again x [] h q e = cc e
with_private n again x (y ∷ bs) h q e =
    let p = and_parts (leb 128 y && leb y 191) (are_letters OfXml (Continuation 128 (cond (eqb y 191) 189 191) 0) bs) e in
    let v = and_parts (leb 128 y) (leb y 191) p.0 in
    let low = leb-true 128 y v.0 in
    let top = leb-true y 191 v.1 in
    let z = next OfXml 128 _ 0 bs p.1 in
    let z_most = at_most (eqb y 191) 189 z.b (omega arith) z.most in
    let shorter : length z.rest ≤ n = omega (arith, ap length z.is) in
    let c = (x - 224) * 4096 + (y - 128) * 64 + (z.b - 128) in
    let end : c < 65534 = elim (cases_eq y 191) [
      | inl w ↦ let f : z.b ≤ 189 = high_where y 191 189 z.b z.most w in omega arith
      | inr w ↦ omega arith
    ] in
    let r = more OfXml c (x ∷ y ∷ z.b ∷ []) z.rest (encode_three x y z.b (omega arith) (omega arith) low top z.least z_most (λ w. omega arith)) (scalar_high c (omega arith) (omega arith)) (allowed_middle OfXml c (omega arith) end) (again z.rest shorter z.goes) in
    subst (λ (q : List ℕ). Read OfXml (x ∷ y ∷ q)) (sym z.is) r

with_three : (n : ℕ) (letters : Letters) → Reads n letters → (x : ℕ) (bs : List ℕ) → length bs ≤ n → is_private letters x ≡ false → 224 ≤ x → x < 240
    → are_letters letters (Continuation (cond (eqb x 224) 160 128) (cond (eqb x 237) 159 191) 1) bs ≡ true → Read letters (x ∷ bs)
with_three n letters again x bs h p l u e =
    let y = next letters _ _ 1 bs e in
    let z = next letters 128 191 0 y.rest y.goes in
    let y_least = at_least_128 (eqb x 224) 160 y.b (omega arith) y.least in
    let y_most = at_most (eqb x 237) 159 y.b (omega arith) y.most in
    let first = low_where x 224 160 y.b y.least in
    let shorter : length z.rest ≤ n = omega (arith, ap length y.is, ap length z.is) in
    let c = (x - 224) * 4096 + (y.b - 128) * 64 + (z.b - 128) in
    let big : 160 ≤ c = elim (cases_eq x 224) [ inl q ↦ let f = first q in omega arith | inr q ↦ omega arith ] in
    let s : (scalar c ≡ true) × (is_letter letters c ≡ true) = elim (cases_lt x 238) [
      | inl below ↦ elim (cases_eq x 237) [
        | inl q ↦ let f = high_where x 237 159 y.b y.most q in (scalar_low c (omega arith), allowed_low letters c (omega arith) (omega arith))
        | inr q ↦ (scalar_low c (omega arith), allowed_low letters c (omega arith) (omega arith))
      ]
      | inr above ↦ (scalar_high c (omega arith) (omega arith), above_letter letters x c p above (omega arith) (omega arith) (λ q. omega arith) u)
    ] in
    let r = more letters c (x ∷ y.b ∷ z.b ∷ []) z.rest (encode_three x y.b z.b l u y_least y_most z.least z.most first) s.0 s.1 (again z.rest shorter z.goes) in
    subst (λ (q : List ℕ). Read letters (x ∷ q)) (sym (y.is ∙ ap (λ (q : List ℕ). y.b ∷ q) z.is)) r

with_four : (n : ℕ) (letters : Letters) → Reads n letters → (x : ℕ) (bs : List ℕ) → length bs ≤ n → 240 ≤ x → x ≤ 244
    → are_letters letters (Continuation (cond (eqb x 240) 144 128) (cond (eqb x 244) 143 191) 2) bs ≡ true → Read letters (x ∷ bs)
with_four n letters again x bs h l u e =
    let y = next letters _ _ 2 bs e in
    let z = next letters 128 191 1 y.rest y.goes in
    let w = next letters 128 191 0 z.rest z.goes in
    let y_least = at_least_128 (eqb x 240) 144 y.b (omega arith) y.least in
    let y_most = at_most (eqb x 244) 143 y.b (omega arith) y.most in
    let first = low_where x 240 144 y.b y.least in
    let shorter : length w.rest ≤ n = omega (arith, ap length y.is, ap length z.is, ap length w.is) in
    let c = (x - 240) * 262144 + (y.b - 128) * 4096 + (z.b - 128) * 64 + (w.b - 128) in
    let big : 65536 ≤ c = elim (cases_eq x 240) [ inl q ↦ let f = first q in omega arith | inr q ↦ omega arith ] in
    let top : c < 1114112 = elim (cases_eq x 244) [
      | inl q ↦ let f = high_where x 244 143 y.b y.most q in omega arith
      | inr q ↦ omega arith
    ] in
    let r = more letters c (x ∷ y.b ∷ z.b ∷ w.b ∷ []) w.rest (encode_four x y.b z.b w.b l u y_least y_most z.least z.most w.least w.most first) (scalar_high c (omega arith) top) (allowed_high letters c (omega arith) top) (again w.rest shorter w.goes) in
    subst (λ (q : List ℕ). Read letters (x ∷ q)) (sym (y.is ∙ ap (λ (q : List ℕ). y.b ∷ q) (z.is ∙ ap (λ (q : List ℕ). z.b ∷ q) w.is))) r

three_of : (n : ℕ) (letters : Letters) → IsText letters → Reads n letters → (x : ℕ) (bs : List ℕ) → length bs ≤ n → 224 ≤ x → x < 240
    → are_letters letters Character (x ∷ bs) ≡ true → Read letters (x ∷ bs)
three_of n OfText t again x bs h l u e = with_three n OfText again x bs h refl l u (rw (lead_three OfText t x bs refl l u) at e)
three_of n OfName t again x bs h l u e = with_three n OfName again x bs h refl l u (rw (lead_three OfName t x bs refl l u) at e)
three_of n OfBytes t again x bs h l u e = with_three n OfBytes again x bs h refl l u (rw (lead_three OfBytes t x bs refl l u) at e)
three_of n OfXml t again x bs h l u e = elim (cases_eq x 239) [
  | inl q ↦ with_private n again x bs h q (rw (lead_private x bs q) at e)
  | inr q ↦ let p = ne_eqb x 239 q in with_three n OfXml again x bs h p l u (rw (lead_three OfXml t x bs p l u) at e)
]

chars_of : (n : ℕ) (letters : Letters) → IsText letters → (bs : List ℕ) → length bs ≤ n → are_letters letters Character bs ≡ true → Read letters bs
chars_of n letters t [] h e = record { cs = []; scalar = refl; same = refl; fit = refl }
chars_of zero letters t (x ∷ bs) h e = absurd (omega arith)
chars_of (suc n) letters t (x ∷ bs) h e =
    let p = and_parts (allows letters Character x) (are_letters letters (after letters Character x) bs) e in
    elim (cases_lt x 128) [
      | inl u ↦
          let l : is_lead letters x ≡ true = rw (t, lt-ltb x 128 u) at p.0 in
          let rest : are_letters letters Character bs ≡ true = rw (one letters t x bs u l) at e in
          more letters x (x ∷ []) bs (encode_ascii x u) (low_scalar x (omega arith)) (letter_of letters x u l) (chars_of n letters t bs (omega arith) rest)
      | inr u ↦
          let w : leb 194 x && leb x 244 ≡ true = rw (t, le-ltb x 128 u) at p.0 in
          let v = and_parts (leb 194 x) (leb x 244) w in
          let low = leb-true 194 x v.0 in
          let top = leb-true x 244 v.1 in
          elim (cases_lt x 224) [
            | inl two ↦ with_two n letters (chars_of n letters t) x bs (omega arith) low two (rw (lead_two letters t x bs low two) at e)
            | inr w ↦ elim (cases_lt x 240) [
              | inl three ↦ three_of n letters t (chars_of n letters t) x bs (omega arith) w three e
              | inr four ↦ with_four n letters (chars_of n letters t) x bs (omega arith) four top (rw (lead_four letters t x bs four top) at e)
            ]
          ]
    ]

pub read_accepted : (letters : Letters) → IsText letters → (bs : List ℕ) → are_letters letters Character bs ≡ true → Read letters bs
read_accepted letters t bs e = chars_of (length bs) letters t bs (omega arith) e

pub accepts_read : (letters : Letters) → IsText letters → (bs : List ℕ) → IsUtf8 bs → list_all (is_letter letters) (chars bs) ≡ true → are_letters letters Character bs ≡ true
accepts_read letters t bs u e =
    let s = scalars-chars bs u in
    let same = encodes-chars bs u in
    subst (λ (q : List ℕ). are_letters letters Character q ≡ true) same (accept_all letters t (chars bs) s e)

pub read_utf8 : (letters : Letters) (bs : List ℕ) → Read letters bs → IsUtf8 bs
read_utf8 letters bs r = (r.cs, (r.scalar, r.same))

pub read_letters : (letters : Letters) (bs : List ℕ) → Read letters bs → list_all (is_letter letters) (chars bs) ≡ true
read_letters letters bs r =
    subst (λ (q : List ℕ). list_all (is_letter letters) q ≡ true) (sym (ap chars (sym r.same) ∙ chars-encodes r.cs r.scalar)) r.fit

pub letters_utf8 : (letters : Letters) → IsText letters → (bs : List ℕ) → are_letters letters Character bs ≡ true → IsUtf8 bs
letters_utf8 letters t bs e = read_utf8 letters bs (read_accepted letters t bs e)

-- some byte may come, and only such bytes as UTF-8 has within a character, if none that begins one
abbrev pub IsOpen : Awaits → Type 0
IsOpen Character = Unit {0}
IsOpen Private = Unit {0}
IsOpen (Continuation low high more) = (128 ≤ low) × (low ≤ high) × (high ≤ 191)

open_choice : (t : Bool) (x y : Awaits) → IsOpen x → IsOpen y → IsOpen (cond t x y)
open_choice true x y g h = g
open_choice false x y g h = h

-- two bounds that two leads set
open_bounds : (b m n low high : ℕ) (more : ℕ) → (m ≡ n → ⊥) → 128 ≤ low → low ≤ 191 → 128 ≤ high → high ≤ 191 → IsOpen (Continuation (cond (eqb b m) low 128) (cond (eqb b n) high 191) more)
open_bounds b m n low high more apart a b1 c d = elim (cases_eq b m) [
  | inl e ↦ rw (eq-eqb b m e, ne_eqb b n (λ f. apart (sym e ∙ f))) (omega arith, omega arith, omega arith)
  | inr e ↦ elim (cases_Bool (eqb b n)) [
    | inl f ↦ rw (ne_eqb b m e, f) (omega arith, omega arith, omega arith)
    | inr f ↦ rw (ne_eqb b m e, f) (omega arith, omega arith, omega arith)
  ]
]

open_top : (t : Bool) → IsOpen (Continuation 128 (cond t 189 191) 0)
open_top true = (omega arith, omega arith, omega arith)
open_top false = (omega arith, omega arith, omega arith)

pub after_open : (letters : Letters) (awaits : Awaits) (b : ℕ) → IsOpen (after letters awaits b)
after_open letters Character b =
    open_choice (ltb b (whole_below letters)) _ _ tt (open_choice (ltb b 224) _ _ (second_128 letters b, second_191 letters b, omega arith)
    (open_choice (is_private letters b) _ _ tt (open_choice (ltb b 240) _ _ (open_bounds b 224 237 160 159 1 (λ e. omega arith) (omega arith) (omega arith) (omega arith) (omega arith))
    (open_bounds b 240 244 144 143 2 (λ e. omega arith) (omega arith) (omega arith) (omega arith) (omega arith)))))
after_open letters Private b = open_top (eqb b 191)
after_open letters (Continuation low high zero) b = tt
after_open letters (Continuation low high (suc more)) b = (omega arith, omega arith, omega arith)

whole_byte : (letters : Letters) → whole_below letters ≤ 256
whole_byte OfText = omega arith
whole_byte OfName = omega arith
whole_byte OfBytes = omega arith
whole_byte OfXml = omega arith

pub allowed_byte : (letters : Letters) (awaits : Awaits) (b : ℕ) → IsOpen awaits → allows letters awaits b ≡ true → b < 256
allowed_byte letters Character b g e = elim (cases_lt b (whole_below letters)) [
  | inl h ↦ let w = whole_byte letters in omega arith
  | inr h ↦
      let f : (leb 194 b && leb b 244) ≡ true = rw (le-ltb b (whole_below letters) h) at e in
      let u = leb-true b 244 (and_parts (leb 194 b) (leb b 244) f).1 in
      omega arith
]
allowed_byte letters Private b g e = let u = leb-true b 191 (and_parts (leb 128 b) (leb b 191) e).1 in omega arith
allowed_byte letters (Continuation low high more) b g e =
    let u = leb-true b high (and_parts (leb low b) (leb b high) e).1 in
    let top = g.2 in
    omega arith
