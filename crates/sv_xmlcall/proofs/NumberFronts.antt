-- Prefixes of texts: where reading is refused within a text or a number.
use Rattle.std.proofs.Common.{◌≡◌, ℕ, zero, suc, ◌+◌, ◌-◌, ◌*◌, ◌<◌, ◌≤◌, Bool, true, false, eqb, leb, List, [], ◌∷◌, ◌++◌, length, inl, inr, refl, sym, ap, ◌∙◌, subst, arith, append_assoc, append-nil, length-append, codes, encode_utf8, ◌⊎◌, le_refl}
use Rattle.std.specs.Str.Parse.{digits_value, digits_value_after, IsNumeral, AllDigits}
use Rattle.std.specs.Char.{digit_value, is_ascii_digit}
use Rattle.std.proofs.lemmas.Bool.{cases_Bool, cases_lt, cases_eq, eqb-true, leb-true, lt-ltb, le-ltb}
use lib.Utf8.{encode}
use Rattle.sv_xmlcall.specs.Tags.{spelling}
use Rattle.sv_xmlcall.specs.Spelled.{signed}
use Rattle.sv_letters.specs.Letters.{is_allowed}
use Rattle.sv_xmlcall.specs.Spells.{IsWhite, Ampersand, Less, Greater, Quote, Apostrophe, Letter, Plain, Named, Numbered, character_of, printed_letter, number_sign, IsLetter, AreLetters, printed_text, text_of, printed_shut, Mark, NoMark, Plus, Minus, printed_mark, is_minus}
use Rattle.sv_xmlcall.specs.Machine.{Limits, AtTextEnd, AtEntity, AtIntegerEnd, Content, InMethod, InName, Frame, NotRead, Within, Hash, Numeral, Digits, Sign, Fresh, Signed, Counted, at, enter, leave, tags_of, words_of, run, base_of, most_of, is_digit, longer, end_of, may_end, is_empty, unless_many}
use Rattle.sv_letters.specs.declared.letters.Awaits.TheVariants.{Character}
use Rattle.sv_xmlcall.specs.declared.tag.Tag.{Tag}
use Rattle.sv_xmlcall.specs.declared.tag.Tag.TheVariants as tag
use Rattle.sv_xmlcall.proofs.Passing.{in_text}
use Rattle.sv_xmlcall.proofs.TagsBack.{IsOneOf}
use Rattle.sv_xmlcall.proofs.TextsBack.{digit_back, decimal_back, plain_letters, printed_append, means_append, right_append, alone_text}
use Rattle.sv_xmlcall.proofs.RefusedLaws.{unless_left}
use Rattle.sv_xmlcall.proofs.Fronts.{IsFront, front_none, front_on, front_behind, front_to, Good, good_here, good_behind, good_to, Halts, within_front}
use Rattle.sv_xmlcall.proofs.TextFronts.{shut_front, plain_front}

allowed_low : (c : ℕ) → 32 ≤ c → c < 55296 → is_allowed c ≡ true
allowed_low c l u = rw (le-ltb c 32 l, lt-ltb c 55296 u) refl

allowed_high : (c : ℕ) → 65536 ≤ c → c < 1114112 → is_allowed c ≡ true
allowed_high c l u = rw (le-ltb c 32 (omega arith), le-ltb c 55296 (omega arith), le-ltb c 57344 (omega arith), le-ltb c 65534 (omega arith), le-ltb c 65536 l, lt-ltb c 1114112 u) refl

-- digits with which a number becomes that of a character
record NumberEnd (hex seen : Bool) (n : ℕ) : Type 0 where
  pub digits : List ℕ
  pub right : AllDigits (base_of hex) digits
  pub some : seen ≡ false → 0 < length digits
  pub allowed : is_allowed (digits_value_after (base_of hex) n digits) ≡ true

zero_digits : (hex : Bool) → AllDigits (base_of hex) (48 ∷ 48 ∷ [])
zero_digits true = (omega arith, (omega arith, tt))
zero_digits false = (omega arith, (omega arith, tt))

zero_digit : (hex : Bool) → AllDigits (base_of hex) (48 ∷ [])
zero_digit true = (omega arith, tt)
zero_digit false = (omega arith, tt)

false_true : {P : Type 0} (b : Bool) → b ≡ true → b ≡ false → P
false_true true e f = cc f
false_true false e f = cc e

-- a number that is no character's yet
more_digits : (hex seen : Bool) (n : ℕ) → 1 ≤ n → n ≤ 1114111 → is_allowed n ≡ false → NumberEnd hex seen n
more_digits true seen n l u a = elim (cases_lt n 32) [
  | inl h ↦ record { digits = 48 ∷ 48 ∷ []; right = zero_digits true; some = λ q. omega arith; allowed = allowed_low ((n * 16 + 0) * 16 + 0) (omega arith) (omega arith) }
  | inr h ↦ elim (cases_lt n 55296) [
    | inl k ↦ false_true (is_allowed n) (allowed_low n h k) a
    | inr k ↦ elim (cases_lt n 65536) [
      | inl m ↦ record { digits = 48 ∷ []; right = zero_digit true; some = λ q. omega arith; allowed = allowed_high (n * 16 + 0) (omega arith) (omega arith) }
      | inr m ↦ false_true (is_allowed n) (allowed_high n m (omega arith)) a
    ]
  ]
]
more_digits false seen n l u a = elim (cases_lt n 32) [
  | inl h ↦ record { digits = 48 ∷ 48 ∷ []; right = zero_digits false; some = λ q. omega arith; allowed = allowed_low ((n * 10 + 0) * 10 + 0) (omega arith) (omega arith) }
  | inr h ↦ elim (cases_lt n 55296) [
    | inl k ↦ false_true (is_allowed n) (allowed_low n h k) a
    | inr k ↦ elim (cases_lt n 65536) [
      | inl m ↦ record { digits = 48 ∷ []; right = zero_digit false; some = λ q. omega arith; allowed = allowed_high (n * 10 + 0) (omega arith) (omega arith) }
      | inr m ↦ false_true (is_allowed n) (allowed_high n m (omega arith)) a
    ]
  ]
]

sixty_five : (hex seen : Bool) → NumberEnd hex seen 0
sixty_five true seen = record { digits = 52 ∷ 49 ∷ []; right = (omega arith, (omega arith, tt)); some = λ q. omega arith; allowed = refl }
sixty_five false seen = record { digits = 54 ∷ 53 ∷ []; right = (omega arith, (omega arith, tt)); some = λ q. omega arith; allowed = refl }

number_end : (hex seen : Bool) (n : ℕ) → n ≤ 1114111 → (seen ≡ false → n ≡ 0) → NumberEnd hex seen n
number_end hex seen n u z = elim (cases_eq n 0) [
  | inl e ↦ subst (λ (x : ℕ). NumberEnd hex seen x) (sym e) (sixty_five hex seen)
  | inr e ↦ elim (cases_Bool (is_allowed n)) [
    | inl a ↦ record { digits = []; right = tt; some = λ q. absurd (e (z q)); allowed = a }
    | inr a ↦ more_digits hex seen n (omega arith) u a
  ]
]

abbrev NumeralFronts : Bool → Bool → ℕ → (List ℕ → Type 0) → Type 0
NumeralFronts hex seen n P = (digits : List ℕ) → AllDigits (base_of hex) digits → (seen ≡ false → 0 < length digits) → is_allowed (digits_value_after (base_of hex) n digits) ≡ true
    → (g : List ℕ) → IsFront g (digits ++ codes ";") → P g

abbrev NumeralBehind : Limits → Content → List ℕ → List Frame → ℕ → Bool → Bool → ℕ → List ℕ → ℕ → (List ℕ → Type 0) → Type 0
NumeralBehind limits content kept frames count hex seen n bs left P = (digits rest : List ℕ) → AllDigits (base_of hex) digits → (seen ≡ false → 0 < length digits)
    → is_allowed (digits_value_after (base_of hex) n digits) ≡ true → bs ≡ digits ++ codes ";" ++ rest
    → run limits (in_text content (kept ++ encode_utf8 (digits_value_after (base_of hex) n digits)) frames count) rest ≡ NotRead left
    → Good (λ g. P (digits ++ codes ";" ++ g)) rest left

numeral_here : (limits : Limits) (count : ℕ) (hex seen : Bool) (n : ℕ) (bs : List ℕ) (left : ℕ) (P : List ℕ → Type 0) → n ≤ 1114111 → (seen ≡ false → n ≡ 0) → NumeralFronts hex seen n P
    → unless_many limits count (NotRead (length bs)) ≡ NotRead left → Good P bs left
numeral_here limits count hex seen n bs left P u z fail e =
    let d = number_end hex seen n u z in
    good_here P bs left (unless_left limits count (length bs) left e).1 (fail d.digits d.right d.some d.allowed [] (front_none (d.digits ++ codes ";")))

numeral_front : (limits : Limits) (content : Content) (kept : List ℕ) (frames : List Frame) (count : ℕ) (hex seen : Bool) (n : ℕ) (bs : List ℕ) (left : ℕ) (P : List ℕ → Type 0)
    → n ≤ 1114111 → (seen ≡ false → n ≡ 0) → NumeralFronts hex seen n P → NumeralBehind limits content kept frames count hex seen n bs left P
    → run limits (at (Numeral content kept hex seen n) frames count) bs ≡ NotRead left → Good P bs left
numeral_front limits content kept frames count hex seen n [] left P u z fail more e = numeral_here limits count hex seen n [] left P u z fail e
numeral_front limits content kept frames count hex seen n (b ∷ bs) left P u z fail more e = elim (cases_Bool (is_digit hex b)) [
  | inl d ↦ elim (cases_Bool (leb (longer hex n b) 1114111)) [
    | inl l ↦
        let s = digit_back hex b d in
        let f : run limits (at (Numeral content kept hex true (longer hex n b)) frames count) bs ≡ NotRead left = rw (d, l) at e in
        let g = subst (λ (v : ℕ). run limits (at (Numeral content kept hex true (n * base_of hex + v)) frames count) bs ≡ NotRead left) s.value f in
        good_behind P (b ∷ []) bs (b ∷ bs) left refl
        (numeral_front limits content kept frames count hex true (n * base_of hex + digit_value b) bs left (λ x. P (b ∷ x))
        (subst (λ (v : ℕ). n * base_of hex + v ≤ 1114111) s.value (leb-true (longer hex n b) 1114111 l)) (λ q. false_true true refl q)
        (λ digits r m a x i. fail (b ∷ digits) (s.is, r) (λ q. omega arith) a (b ∷ x) (i.0, ap (λ (y : List ℕ). b ∷ y) i.1))
        (λ digits rest r m a p q. more (b ∷ digits) rest (s.is, r) (λ q. omega arith) a (ap (λ (y : List ℕ). b ∷ y) p) q)
        g)
    | inr l ↦ numeral_here limits count hex seen n (b ∷ bs) left P u z fail (rw (d, l) at e)
  ]
  | inr d ↦ elim (cases_Bool (eqb b 59)) [
    | inl s ↦ elim (cases_Bool seen) [
      | inl t ↦ elim (cases_Bool (is_allowed n)) [
        | inl a ↦
            let is = eqb-true b 59 s in
            let p : b ∷ bs ≡ codes ";" ++ bs = ap (λ (x : ℕ). x ∷ bs) is in
            good_behind P (codes ";") bs (b ∷ bs) left p (more [] bs tt (λ q. false_true seen t q) a p (rw (d, s, t, a) at e))
        | inr a ↦ numeral_here limits count hex seen n (b ∷ bs) left P u z fail (rw (d, s, t, a) at e)
      ]
      | inr t ↦ numeral_here limits count hex seen n (b ∷ bs) left P u z fail (rw (d, s, t) at e)
    ]
    | inr s ↦ numeral_here limits count hex seen n (b ∷ bs) left P u z fail (rw (d, s) at e)
  ]
]

abbrev LetterFronts : (List ℕ → Type 0) → Type 0
LetterFronts P = (letter : Letter) → IsLetter letter → (g : List ℕ) → IsFront g (printed_letter letter) → P g

abbrev LetterBehind : Limits → Content → List ℕ → List Frame → ℕ → List ℕ → ℕ → (List ℕ → Type 0) → Type 0
LetterBehind limits content kept frames count bs left P = (letter : Letter) (rest : List ℕ) → IsLetter letter → bs ≡ printed_letter letter ++ rest → length rest < length bs
    → run limits (in_text content (kept ++ encode_utf8 (character_of letter)) frames count) rest ≡ NotRead left → Good (λ g. P (printed_letter letter ++ g)) rest left

behind : (b : ℕ) (front rest bs : List ℕ) → bs ≡ (b ∷ front) ++ rest → length rest < length bs
behind b front rest bs e = omega (arith, ap length e, length-append front rest)

numeral_parts : (a digits rest : List ℕ) → a ++ (digits ++ codes ";" ++ rest) ≡ a ++ digits ++ codes ";" ++ rest
numeral_parts a digits rest = simp append_assoc refl

numeral_begins : (a digits g : List ℕ) → IsFront g (digits ++ codes ";") → IsFront (a ++ g) (a ++ digits ++ codes ";")
numeral_begins a digits g f = front_to (a ++ g) (a ++ (digits ++ codes ";")) (a ++ digits ++ codes ";") (front_behind a g (digits ++ codes ";") f) (sym (append_assoc a digits (codes ";")))

a_letter : IsLetter (Numbered false (codes "65"))
a_letter = ((omega arith, (omega arith, (omega arith, tt))), refl)

-- after `&#`
hash_front : (limits : Limits) (content : Content) (kept : List ℕ) (frames : List Frame) (count : ℕ) (bs : List ℕ) (left : ℕ) (P : List ℕ → Type 0)
    → LetterFronts P → LetterBehind limits content kept frames count (codes "&#" ++ bs) left P
    → run limits (at (Hash content kept) frames count) bs ≡ NotRead left → Good (λ g. P (codes "&#" ++ g)) bs left
hash_front limits content kept frames count [] left P fail more e =
    good_here (λ g. P (codes "&#" ++ g)) [] left (unless_left limits count 0 left e).1 (fail (Numbered false (codes "65")) a_letter (codes "&#") (codes "65;", refl))
hash_front limits content kept frames count (b ∷ bs) left P fail more e = elim (cases_Bool (eqb b 120)) [
  | inl x ↦
      let is = eqb-true b 120 x in
      let f : run limits (at (Numeral content kept true false 0) frames count) bs ≡ NotRead left = rw x at e in
      good_behind (λ g. P (codes "&#" ++ g)) (codes "x") bs (b ∷ bs) left (ap (λ (y : ℕ). y ∷ bs) is)
      (numeral_front limits content kept frames count true false 0 bs left (λ g. P (number_sign true ++ g)) (omega arith) (λ q. refl)
      (λ digits r m a g i. fail (Numbered true digits) ((m refl, r), a) (number_sign true ++ g) (numeral_begins (number_sign true) digits g i))
      (λ digits rest r m a p q.
      let parts : codes "&#" ++ b ∷ bs ≡ printed_letter (Numbered true digits) ++ rest =
      ap (λ (y : ℕ). codes "&#" ++ y ∷ bs) is ∙ ap (λ (y : List ℕ). number_sign true ++ y) p ∙ numeral_parts (number_sign true) digits rest in
      good_to (λ g. P (printed_letter (Numbered true digits) ++ g)) (λ g. P (number_sign true ++ (digits ++ codes ";" ++ g))) rest left
      (λ g y. subst P (sym (numeral_parts (number_sign true) digits g)) y)
      (more (Numbered true digits) rest ((m refl, r), a) parts (behind 38 (35 ∷ 120 ∷ digits ++ codes ";") rest (codes "&#" ++ b ∷ bs) parts) q))
      f)
  | inr x ↦
      let f : run limits (at (Numeral content kept false false 0) frames count) (b ∷ bs) ≡ NotRead left = rw x at e in
      numeral_front limits content kept frames count false false 0 (b ∷ bs) left (λ g. P (number_sign false ++ g)) (omega arith) (λ q. refl)
      (λ digits r m a g i. fail (Numbered false digits) ((m refl, r), a) (number_sign false ++ g) (numeral_begins (number_sign false) digits g i))
      (λ digits rest r m a p q.
      let parts : codes "&#" ++ b ∷ bs ≡ printed_letter (Numbered false digits) ++ rest =
      ap (λ (y : List ℕ). number_sign false ++ y) p ∙ numeral_parts (number_sign false) digits rest in
      good_to (λ g. P (printed_letter (Numbered false digits) ++ g)) (λ g. P (number_sign false ++ (digits ++ codes ";" ++ g))) rest left
      (λ g y. subst P (sym (numeral_parts (number_sign false) digits g)) y)
      (more (Numbered false digits) rest ((m refl, r), a) parts (behind 38 (35 ∷ digits ++ codes ";") rest (codes "&#" ++ b ∷ bs) parts) q))
      f
]

entity_begins : (content : Content) (kept : List ℕ) (P : List ℕ → Type 0) → LetterFronts P → (t : Tag) → IsOneOf t (tags_of (AtEntity content kept)) → (g : List ℕ) → IsFront g (spelling t) → P g
entity_begins content kept P fail t (inl is) g f = fail (Named Ampersand) tt g (subst (λ (x : Tag). IsFront g (spelling x)) is f)
entity_begins content kept P fail t (inr (inl is)) g f = fail (Named Less) tt g (subst (λ (x : Tag). IsFront g (spelling x)) is f)
entity_begins content kept P fail t (inr (inr (inl is))) g f = fail (Named Greater) tt g (subst (λ (x : Tag). IsFront g (spelling x)) is f)
entity_begins content kept P fail t (inr (inr (inr (inl is)))) g f = fail (Named Quote) tt g (subst (λ (x : Tag). IsFront g (spelling x)) is f)
entity_begins content kept P fail t (inr (inr (inr (inr (inl is))))) g f = fail (Named Apostrophe) tt g (subst (λ (x : Tag). IsFront g (spelling x)) is f)
entity_begins content kept P fail t (inr (inr (inr (inr (inr (inl is)))))) g f =
    fail (Numbered false (codes "65")) a_letter g (front_on g (codes "&#") (codes "65;") (subst (λ (x : Tag). IsFront g (spelling x)) is f))
entity_begins content kept P fail t (inr (inr (inr (inr (inr (inr o)))))) g f = absurd o

abbrev EntityHalts : Limits → Content → List ℕ → List Frame → ℕ → Tag → List ℕ → ℕ → Type 0
EntityHalts limits content kept frames count t rest left = Halts limits (enter limits (AtEntity content kept) t frames count) count rest left

named_front : (limits : Limits) (content : Content) (kept : List ℕ) (frames : List Frame) (count : ℕ) (bs : List ℕ) (left : ℕ) (P : List ℕ → Type 0) (t : Tag) (rest : List ℕ) (letter : Letter) (front : List ℕ)
    → IsLetter letter → printed_letter letter ≡ 38 ∷ front → spelling t ≡ printed_letter letter → bs ≡ spelling t ++ rest
    → LetterBehind limits content kept frames count bs left P
    → run limits (in_text content (kept ++ encode_utf8 (character_of letter)) frames count) rest ≡ NotRead left → Good (λ g. P (spelling t ++ g)) rest left
named_front limits content kept frames count bs left P t rest letter front l head is p more e =
    let q : bs ≡ printed_letter letter ++ rest = p ∙ ap (λ (x : List ℕ). x ++ rest) is in
    subst (λ (x : List ℕ). Good (λ g. P (x ++ g)) rest left) (sym is)
    (more letter rest l q (behind 38 front rest bs (q ∙ ap (λ (x : List ℕ). x ++ rest) head)) e)

entity_behind : (limits : Limits) (content : Content) (kept : List ℕ) (frames : List Frame) (count : ℕ) (bs : List ℕ) (left : ℕ) (P : List ℕ → Type 0)
    → LetterFronts P → LetterBehind limits content kept frames count bs left P → (t : Tag) (rest : List ℕ) → IsOneOf t (tags_of (AtEntity content kept)) → bs ≡ spelling t ++ rest
    → EntityHalts limits content kept frames count t rest left → Good (λ g. P (spelling t ++ g)) rest left
unfolding encode
entity_behind limits content kept frames count bs left P fail more t rest (inl is) p h =
    named_front limits content kept frames count bs left P t rest (Named Ampersand) (codes "amp;") tt refl (ap spelling is) p more (subst (λ (x : Tag). EntityHalts limits content kept frames count x rest left) is h)
entity_behind limits content kept frames count bs left P fail more t rest (inr (inl is)) p h =
    named_front limits content kept frames count bs left P t rest (Named Less) (codes "lt;") tt refl (ap spelling is) p more (subst (λ (x : Tag). EntityHalts limits content kept frames count x rest left) is h)
entity_behind limits content kept frames count bs left P fail more t rest (inr (inr (inl is))) p h =
    named_front limits content kept frames count bs left P t rest (Named Greater) (codes "gt;") tt refl (ap spelling is) p more (subst (λ (x : Tag). EntityHalts limits content kept frames count x rest left) is h)
entity_behind limits content kept frames count bs left P fail more t rest (inr (inr (inr (inl is)))) p h =
    named_front limits content kept frames count bs left P t rest (Named Quote) (codes "quot;") tt refl (ap spelling is) p more (subst (λ (x : Tag). EntityHalts limits content kept frames count x rest left) is h)
entity_behind limits content kept frames count bs left P fail more t rest (inr (inr (inr (inr (inl is))))) p h =
    named_front limits content kept frames count bs left P t rest (Named Apostrophe) (codes "apos;") tt refl (ap spelling is) p more (subst (λ (x : Tag). EntityHalts limits content kept frames count x rest left) is h)
entity_behind limits content kept frames count bs left P fail more t rest (inr (inr (inr (inr (inr (inl is)))))) p h =
    let q : bs ≡ codes "&#" ++ rest = p ∙ ap (λ (x : Tag). spelling x ++ rest) is in
    subst (λ (x : Tag). Good (λ g. P (spelling x ++ g)) rest left) (sym is)
    (hash_front limits content kept frames count rest left P fail (subst (λ (x : List ℕ). LetterBehind limits content kept frames count x left P) q more)
    (subst (λ (x : Tag). EntityHalts limits content kept frames count x rest left) is h))
entity_behind limits content kept frames count bs left P fail more t rest (inr (inr (inr (inr (inr (inr o)))))) p h = absurd o

entity_front : (limits : Limits) (content : Content) (kept : List ℕ) (frames : List Frame) (count : ℕ) (bs : List ℕ) (left : ℕ) (P : List ℕ → Type 0)
    → LetterFronts P → LetterBehind limits content kept frames count bs left P
    → run limits (at (Within (AtEntity content kept) (words_of (tags_of (AtEntity content kept)))) frames count) bs ≡ NotRead left → Good P bs left
entity_front limits content kept frames count bs left P fail more e =
    within_front limits (AtEntity content kept) frames count bs left P (tag.Ampersand, inl refl)
    (λ t i g f. entity_begins content kept P fail t i g f)
    (λ t rest i p h. entity_behind limits content kept frames count bs left P fail more t rest i p h)
    e

abbrev pub TextFronts : Content → List ℕ → (List ℕ → Type 0) → Type 0
TextFronts content kept P = (letters : List Letter) → AreLetters letters → (inside : List ℕ) → IsWhite inside → may_end content (kept ++ text_of letters) ≡ true
    → (g : List ℕ) → IsFront g (printed_text letters ++ printed_shut (end_of content) inside) → P g

abbrev pub TextBehind : Limits → Content → List ℕ → List Frame → ℕ → List ℕ → ℕ → (List ℕ → Type 0) → Type 0
TextBehind limits content kept frames count bs left P = (letters : List Letter) → AreLetters letters → (inside : List ℕ) → IsWhite inside → (rest : List ℕ) → may_end content (kept ++ text_of letters) ≡ true
    → bs ≡ printed_text letters ++ printed_shut (end_of content) inside ++ rest → run limits (leave limits (AtTextEnd content (kept ++ text_of letters)) frames count) rest ≡ NotRead left
    → Good (λ g. P (printed_text letters ++ printed_shut (end_of content) inside ++ g)) rest left

-- letters before a text
fronts_behind : (content : Content) (kept : List ℕ) (P : List ℕ → Type 0) (before : List Letter) → AreLetters before → TextFronts content kept P
    → TextFronts content (kept ++ text_of before) (λ g. P (printed_text before ++ g))
fronts_behind content kept P before b fail = λ letters l inside w may g f.
    let means : kept ++ text_of before ++ text_of letters ≡ kept ++ text_of (before ++ letters) = append_assoc kept (text_of before) (text_of letters) ∙ ap (λ (x : List ℕ). kept ++ x) (sym (means_append before letters)) in
    fail (before ++ letters) (right_append before letters b l) inside w (subst (λ (x : List ℕ). may_end content x ≡ true) means may) (printed_text before ++ g)
    (front_to (printed_text before ++ g) (printed_text before ++ (printed_text letters ++ printed_shut (end_of content) inside)) (printed_text (before ++ letters) ++ printed_shut (end_of content) inside)
    (front_behind (printed_text before) g (printed_text letters ++ printed_shut (end_of content) inside) f)
    (sym (append_assoc (printed_text before) (printed_text letters) (printed_shut (end_of content) inside)) ∙ ap (λ (x : List ℕ). x ++ printed_shut (end_of content) inside) (sym (printed_append before letters))))

joined : (a b s r : List ℕ) → a ++ (b ++ s ++ r) ≡ a ++ b ++ s ++ r
joined a b s r = simp append_assoc refl

text_behind : (limits : Limits) (content : Content) (kept : List ℕ) (frames : List Frame) (count : ℕ) (bs rest : List ℕ) (left : ℕ) (P : List ℕ → Type 0) (before : List Letter) → AreLetters before
    → bs ≡ printed_text before ++ rest → TextBehind limits content kept frames count bs left P → TextBehind limits content (kept ++ text_of before) frames count rest left (λ g. P (printed_text before ++ g))
text_behind limits content kept frames count bs rest left P before b p more = λ letters l inside w behind may q e.
    let means : kept ++ text_of before ++ text_of letters ≡ kept ++ text_of (before ++ letters) = append_assoc kept (text_of before) (text_of letters) ∙ ap (λ (x : List ℕ). kept ++ x) (sym (means_append before letters)) in
    let shut = printed_shut (end_of content) inside in
    let prints : (g : List ℕ) → printed_text before ++ (printed_text letters ++ shut ++ g) ≡ printed_text (before ++ letters) ++ shut ++ g =
    λ g. joined (printed_text before) (printed_text letters) shut g ∙ ap (λ (x : List ℕ). x ++ shut ++ g) (sym (printed_append before letters)) in
    good_to (λ g. P (printed_text (before ++ letters) ++ shut ++ g)) (λ g. P (printed_text before ++ (printed_text letters ++ shut ++ g))) behind left
    (λ g x. subst P (sym (prints g)) x)
    (more (before ++ letters) (right_append before letters b l) inside w behind (subst (λ (x : List ℕ). may_end content x ≡ true) means may)
    (p ∙ ap (λ (x : List ℕ). printed_text before ++ x) q ∙ prints behind)
    (subst (λ (x : List ℕ). run limits (leave limits (AtTextEnd content x) frames count) behind ≡ NotRead left) means e))

no_true : false ≡ true → ⊥
no_true e = cc e

differs : (n m : ℕ) → eqb n m ≡ false → eqb m m ≡ true → n ≡ m → ⊥
differs n m f t e = no_true (sym f ∙ ap (λ (x : ℕ). eqb x m) e ∙ t)

pub an_a : AreLetters (Plain 97 ∷ [])
an_a = ((refl, (λ e. differs 97 38 refl refl e), (λ e. differs 97 60 refl refl e)), tt)

some_front : (a : List ℕ) (b : ℕ) (c : List ℕ) → is_empty (a ++ b ∷ c) ≡ false
some_front [] b c = refl
some_front (x ∷ a) b c = refl

may_end_some : (content : Content) (a : List ℕ) (b : ℕ) (c : List ℕ) → may_end content (a ++ b ∷ c) ≡ true
may_end_some InMethod a b c = rw (some_front a b c) refl
may_end_some (InName before) a b c = refl
may_end_some any a b c = refl

-- a further letter may always come
may_go_on : (content : Content) (kept : List ℕ) (letters : List Letter) → may_end content (kept ++ text_of (letters ++ Plain 97 ∷ [])) ≡ true
unfolding encode
may_go_on content kept letters =
    subst (λ (x : List ℕ). may_end content x ≡ true)
    (append_assoc kept (text_of letters) (97 ∷ []) ∙ ap (λ (x : List ℕ). kept ++ x) (sym (means_append letters (Plain 97 ∷ []))))
    (may_end_some content (kept ++ text_of letters) 97 [])

-- letters of a text begin one
letters_begin : (content : Content) (kept : List ℕ) (P : List ℕ → Type 0) → TextFronts content kept P → (letters : List Letter) → AreLetters letters → (g : List ℕ) → IsFront g (printed_text letters) → P g
letters_begin content kept P fail letters l g f =
    fail (letters ++ Plain 97 ∷ []) (right_append letters (Plain 97 ∷ []) l an_a) [] refl (may_go_on content kept letters) g
    (front_on g (printed_text (letters ++ Plain 97 ∷ [])) (printed_shut (end_of content) [])
    (front_to g (printed_text letters ++ printed_text (Plain 97 ∷ [])) (printed_text (letters ++ Plain 97 ∷ [])) (front_on g (printed_text letters) (printed_text (Plain 97 ∷ [])) f) (sym (printed_append letters (Plain 97 ∷ [])))))

-- at the `<` that ends a text
text_stop : (limits : Limits) (content : Content) (kept : List ℕ) (frames : List Frame) (count : ℕ) (rest : List ℕ) (left : ℕ) (P : List ℕ → Type 0)
    → TextFronts content kept P → TextBehind limits content kept frames count (60 ∷ rest) left P
    → run limits (in_text content kept frames count) (60 ∷ rest) ≡ NotRead left → Good P (60 ∷ rest) left
text_stop limits content kept frames count rest left P fail more e = elim (cases_Bool (may_end content kept)) [
  | inl m ↦
      let may : may_end content (kept ++ []) ≡ true = subst (λ (x : List ℕ). may_end content x ≡ true) (sym (append-nil kept)) m in
      shut_front limits (AtTextEnd content kept) (end_of content) frames count (60 ∷ rest) left P (alone_text limits content kept)
      (λ inside w g f. fail [] tt inside w may g f)
      (λ inside w behind p q. more [] tt inside w behind may p
      (subst (λ (x : List ℕ). run limits (leave limits (AtTextEnd content x) frames count) behind ≡ NotRead left) (sym (append-nil kept)) q))
      (rw m at e)
  | inr m ↦ good_here P (60 ∷ rest) left (unless_left limits count (suc (length rest)) left (rw m at e)).1 (letters_begin content kept P fail [] tt [] (front_none []))
]

shorter_by : (plain rest bs : List ℕ) (b fuel : ℕ) → bs ≡ plain ++ b ∷ rest → length bs ≤ fuel → suc (length rest) ≤ fuel
shorter_by plain rest bs b fuel e l = omega (arith, ap length e, length-append plain (b ∷ rest))

one_letter : (P : List ℕ → Type 0) (letter : Letter) (rest : List ℕ) (left : ℕ) → Good (λ g. P (printed_text (letter ∷ []) ++ g)) rest left → Good (λ g. P (printed_letter letter ++ g)) rest left
one_letter P letter rest left g = subst (λ (x : List ℕ). Good (λ g. P (x ++ g)) rest left) (append-nil (printed_letter letter)) g

pub text_front : (fuel : ℕ) (limits : Limits) (content : Content) (kept : List ℕ) (frames : List Frame) (count : ℕ) (bs : List ℕ) (left : ℕ) (P : List ℕ → Type 0) → length bs < fuel
    → TextFronts content kept P → TextBehind limits content kept frames count bs left P
    → run limits (in_text content kept frames count) bs ≡ NotRead left → Good P bs left
text_front zero limits content kept frames count bs left P l fail more e = absurd (omega arith)
text_front (suc fuel) limits content kept frames count bs left P l fail more e =
    plain_front limits content kept Character frames count bs left P tt
    (λ plain a f g i.
    let pl = plain_letters plain a f in
    letters_begin content kept P fail pl.letters pl.right g (front_to g plain (printed_text pl.letters) i (sym pl.printed)))
    (λ plain b rest a f p stop q.
    let pl = plain_letters plain a f in
    let fits : suc (length rest) ≤ fuel = let s = shorter_by plain rest bs b (length bs) p (le_refl (length bs)) in omega arith in
    subst (λ (x : List ℕ). Good (λ g. P (x ++ g)) (b ∷ rest) left) pl.printed
    (stopped fuel limits content (kept ++ text_of pl.letters) frames count b rest left (λ g. P (printed_text pl.letters ++ g)) fits
    (fronts_behind content kept P pl.letters pl.right fail)
    (text_behind limits content kept frames count bs (b ∷ rest) left P pl.letters pl.right (p ∙ ap (λ (x : List ℕ). x ++ b ∷ rest) (sym pl.printed)) more)
    stop (subst (λ (x : List ℕ). run limits (in_text content (kept ++ x) frames count) (b ∷ rest) ≡ NotRead left) (sym pl.means) q)
    (λ kept bs P l fail more e. text_front fuel limits content kept frames count bs left P l fail more e)))
    e
  where
    stopped : (fuel : ℕ) (limits : Limits) (content : Content) (kept : List ℕ) (frames : List Frame) (count b : ℕ) (rest : List ℕ) (left : ℕ) (P : List ℕ → Type 0) → suc (length rest) ≤ fuel
        → TextFronts content kept P → TextBehind limits content kept frames count (b ∷ rest) left P → (b ≡ 60) ⊎ (b ≡ 38)
        → run limits (in_text content kept frames count) (b ∷ rest) ≡ NotRead left
        → ((kept bs : List ℕ) (P : List ℕ → Type 0) → length bs < fuel → TextFronts content kept P → TextBehind limits content kept frames count bs left P
        → run limits (in_text content kept frames count) bs ≡ NotRead left → Good P bs left)
        → Good P (b ∷ rest) left
    stopped fuel limits content kept frames count b rest left P l fail more (inl is) e again =
        subst (λ (x : ℕ). Good P (x ∷ rest) left) (sym is)
        (text_stop limits content kept frames count rest left P fail (subst (λ (x : ℕ). TextBehind limits content kept frames count (x ∷ rest) left P) is more)
        (subst (λ (x : ℕ). run limits (in_text content kept frames count) (x ∷ rest) ≡ NotRead left) is e))
    stopped fuel limits content kept frames count b rest left P l fail more (inr is) e again =
        let more' = subst (λ (x : ℕ). TextBehind limits content kept frames count (x ∷ rest) left P) is more in
        let e' = subst (λ (x : ℕ). run limits (in_text content kept frames count) (x ∷ rest) ≡ NotRead left) is e in
        subst (λ (x : ℕ). Good P (x ∷ rest) left) (sym is)
        (entity_front limits content kept frames count (38 ∷ rest) left P
        (λ letter r g f. letters_begin content kept P fail (letter ∷ []) (r, tt) g (front_to g (printed_letter letter) (printed_text (letter ∷ [])) f (sym (append-nil (printed_letter letter)))))
        (λ letter behind r p s q.
        one_letter P letter behind left
        (again (kept ++ text_of (letter ∷ [])) behind (λ g. P (printed_text (letter ∷ []) ++ g)) (omega arith)
        (fronts_behind content kept P (letter ∷ []) (r, tt) fail)
        (text_behind limits content kept frames count (38 ∷ rest) behind left P (letter ∷ []) (r, tt) (p ∙ ap (λ (x : List ℕ). x ++ behind) (sym (append-nil (printed_letter letter)))) more')
        (subst (λ (x : List ℕ). run limits (in_text content (kept ++ x) frames count) behind ≡ NotRead left) (sym (append-nil (encode_utf8 (character_of letter)))) q)))
        e')

-- the digits of an integer
abbrev DigitsFronts : Bool → ℕ → (List ℕ → Type 0) → Type 0
DigitsFronts negative n P = (digits : List ℕ) → AllDigits 10 digits → digits_value_after 10 n digits ≤ most_of negative → (g : List ℕ) → IsFront g digits → P g

abbrev DigitsBehind : Limits → Bool → Bool → List Frame → ℕ → ℕ → List ℕ → ℕ → (List ℕ → Type 0) → Type 0
DigitsBehind limits short negative frames count n bs left P = (digits rest : List ℕ) → AllDigits 10 digits → digits_value_after 10 n digits ≤ most_of negative → bs ≡ digits ++ rest
    → run limits (at (Within (AtIntegerEnd short (signed negative (digits_value_after 10 n digits))) (words_of (tags_of (AtIntegerEnd short (signed negative (digits_value_after 10 n digits)))))) frames count) rest ≡ NotRead left
    → Good (λ g. P (digits ++ g)) rest left

abbrev DigitsHalt : Limits → Bool → Bool → Sign → List Frame → ℕ → ℕ → List ℕ → ℕ → Type 0
DigitsHalt limits short negative sign frames count n bs left = run limits (at (Digits short negative sign n) frames count) bs ≡ NotRead left

digits_front : (limits : Limits) (short negative : Bool) (frames : List Frame) (count n : ℕ) (bs : List ℕ) (left : ℕ) (P : List ℕ → Type 0) → n ≤ most_of negative
    → DigitsFronts negative n P → DigitsBehind limits short negative frames count n bs left P
    → DigitsHalt limits short negative Counted frames count n bs left → Good P bs left
digits_front limits short negative frames count n [] left P l fail more e = good_here P [] left (unless_left limits count 0 left e).1 (fail [] tt l [] (front_none []))
digits_front limits short negative frames count n (b ∷ bs) left P l fail more e = elim (cases_Bool (is_ascii_digit b)) [
  | inl d ↦ elim (cases_Bool (leb (n * 10 + (b - 48)) (most_of negative))) [
    | inl m ↦
        let s = decimal_back b d in
        let f : DigitsHalt limits short negative Counted frames count (n * 10 + (b - 48)) bs left = rw (d, m) at e in
        let g = subst (λ (v : ℕ). DigitsHalt limits short negative Counted frames count (n * 10 + v) bs left) s.value f in
        let fits = subst (λ (v : ℕ). n * 10 + v ≤ most_of negative) s.value (leb-true (n * 10 + (b - 48)) (most_of negative) m) in
        good_behind P (b ∷ []) bs (b ∷ bs) left refl
        (digits_front limits short negative frames count (n * 10 + digit_value b) bs left (λ x. P (b ∷ x)) fits
        (λ digits r k x i. fail (b ∷ digits) (s.is, r) k (b ∷ x) (i.0, ap (λ (y : List ℕ). b ∷ y) i.1))
        (λ digits rest r k p q. more (b ∷ digits) rest (s.is, r) k (ap (λ (y : List ℕ). b ∷ y) p) q)
        g)
    | inr m ↦ good_here P (b ∷ bs) left (unless_left limits count (suc (length bs)) left (rw (d, m) at e)).1 (fail [] tt l [] (front_none []))
  ]
  | inr d ↦ more [] (b ∷ bs) tt l refl (rw d at e)
]

abbrev pub IntegerFronts : (List ℕ → Type 0) → Type 0
IntegerFronts P = (mark : Mark) (digits : List ℕ) → IsNumeral 10 digits → digits_value 10 digits ≤ most_of (is_minus mark) → (g : List ℕ) → IsFront g (printed_mark mark ++ digits) → P g

abbrev pub IntegerBehind : Limits → Bool → List Frame → ℕ → List ℕ → ℕ → (List ℕ → Type 0) → Type 0
IntegerBehind limits short frames count bs left P = (mark : Mark) (digits rest : List ℕ) → IsNumeral 10 digits → digits_value 10 digits ≤ most_of (is_minus mark) → bs ≡ printed_mark mark ++ digits ++ rest
    → run limits (at (Within (AtIntegerEnd short (signed (is_minus mark) (digits_value 10 digits))) (words_of (tags_of (AtIntegerEnd short (signed (is_minus mark) (digits_value 10 digits)))))) frames count) rest ≡ NotRead left
    → Good (λ g. P (printed_mark mark ++ digits ++ g)) rest left

pub zero_fits : (negative : Bool) → digits_value 10 (codes "0") ≤ most_of negative
zero_fits true = omega arith
zero_fits false = omega arith

pub zero_numeral : IsNumeral 10 (codes "0")
zero_numeral = (omega arith, (omega arith, tt))

-- the first digit after this mark
first_front : (limits : Limits) (short : Bool) (mark : Mark) (sign : Sign) (frames : List Frame) (count b : ℕ) (bs : List ℕ) (left : ℕ) (P : List ℕ → Type 0) → is_ascii_digit b ≡ true
    → IntegerFronts P → IntegerBehind limits short frames count (printed_mark mark ++ b ∷ bs) left P
    → DigitsHalt limits short (is_minus mark) sign frames count 0 (b ∷ bs) left → Good (λ g. P (printed_mark mark ++ g)) (b ∷ bs) left
first_front limits short mark sign frames count b bs left P d fail more e = elim (cases_Bool (leb (0 * 10 + (b - 48)) (most_of (is_minus mark)))) [
  | inl m ↦
      let s = decimal_back b d in
      let f : DigitsHalt limits short (is_minus mark) Counted frames count (0 * 10 + (b - 48)) bs left = rw (d, m) at e in
      let g = subst (λ (v : ℕ). DigitsHalt limits short (is_minus mark) Counted frames count (0 * 10 + v) bs left) s.value f in
      let fits = subst (λ (v : ℕ). 0 * 10 + v ≤ most_of (is_minus mark)) s.value (leb-true (0 * 10 + (b - 48)) (most_of (is_minus mark)) m) in
      good_behind (λ x. P (printed_mark mark ++ x)) (b ∷ []) bs (b ∷ bs) left refl
      (digits_front limits short (is_minus mark) frames count (0 * 10 + digit_value b) bs left (λ x. P (printed_mark mark ++ b ∷ x)) fits
      (λ digits r k x i. fail mark (b ∷ digits) (omega arith, (s.is, r)) k (printed_mark mark ++ b ∷ x) (front_behind (printed_mark mark) (b ∷ x) (b ∷ digits) (i.0, ap (λ (y : List ℕ). b ∷ y) i.1)))
      (λ digits rest r k p q.
      good_to (λ x. P (printed_mark mark ++ b ∷ digits ++ x)) (λ x. P (printed_mark mark ++ (b ∷ digits ++ x))) rest left
      (λ x y. subst P (append_assoc (printed_mark mark) (b ∷ digits) x) y)
      (more mark (b ∷ digits) rest (omega arith, (s.is, r)) k
      (ap (λ (y : List ℕ). printed_mark mark ++ b ∷ y) p ∙ sym (append_assoc (printed_mark mark) (b ∷ digits) rest)) q))
      g)
  | inr m ↦ good_here (λ x. P (printed_mark mark ++ x)) (b ∷ bs) left (unless_left limits count (suc (length bs)) left (rw (d, m) at e)).1
      (fail mark (codes "0") zero_numeral (zero_fits (is_minus mark)) (printed_mark mark ++ []) (front_behind (printed_mark mark) [] (codes "0") (front_none (codes "0"))))
]

signed_front : (limits : Limits) (short : Bool) (mark : Mark) (frames : List Frame) (count : ℕ) (bs : List ℕ) (left : ℕ) (P : List ℕ → Type 0)
    → IntegerFronts P → IntegerBehind limits short frames count (printed_mark mark ++ bs) left P
    → DigitsHalt limits short (is_minus mark) Signed frames count 0 bs left → Good (λ g. P (printed_mark mark ++ g)) bs left
signed_front limits short mark frames count [] left P fail more e =
    good_here (λ x. P (printed_mark mark ++ x)) [] left (unless_left limits count 0 left e).1
    (fail mark (codes "0") zero_numeral (zero_fits (is_minus mark)) (printed_mark mark ++ []) (front_behind (printed_mark mark) [] (codes "0") (front_none (codes "0"))))
signed_front limits short mark frames count (b ∷ bs) left P fail more e = elim (cases_Bool (is_ascii_digit b)) [
  | inl d ↦ first_front limits short mark Signed frames count b bs left P d fail more e
  | inr d ↦ good_here (λ x. P (printed_mark mark ++ x)) (b ∷ bs) left (unless_left limits count (suc (length bs)) left (rw d at e)).1
      (fail mark (codes "0") zero_numeral (zero_fits (is_minus mark)) (printed_mark mark ++ []) (front_behind (printed_mark mark) [] (codes "0") (front_none (codes "0"))))
]

pub integer_front : (limits : Limits) (short : Bool) (frames : List Frame) (count : ℕ) (bs : List ℕ) (left : ℕ) (P : List ℕ → Type 0)
    → IntegerFronts P → IntegerBehind limits short frames count bs left P → DigitsHalt limits short false Fresh frames count 0 bs left → Good P bs left
integer_front limits short frames count [] left P fail more e = good_here P [] left (unless_left limits count 0 left e).1 (fail NoMark (codes "0") zero_numeral (zero_fits false) [] (front_none (codes "0")))
integer_front limits short frames count (b ∷ bs) left P fail more e = elim (cases_Bool (is_ascii_digit b)) [
  | inl d ↦ first_front limits short NoMark Fresh frames count b bs left P d fail more e
  | inr d ↦ elim (cases_Bool (eqb b 45)) [
    | inl m ↦
        let is = eqb-true b 45 m in
        good_behind P (codes "-") bs (b ∷ bs) left (ap (λ (x : ℕ). x ∷ bs) is)
        (signed_front limits short Minus frames count bs left P fail (subst (λ (x : ℕ). IntegerBehind limits short frames count (x ∷ bs) left P) is more) (rw (d, m) at e))
    | inr m ↦ elim (cases_Bool (eqb b 43)) [
      | inl p ↦
          let is = eqb-true b 43 p in
          good_behind P (codes "+") bs (b ∷ bs) left (ap (λ (x : ℕ). x ∷ bs) is)
          (signed_front limits short Plus frames count bs left P fail (subst (λ (x : ℕ). IntegerBehind limits short frames count (x ∷ bs) left P) is more) (rw (d, m, p) at e))
      | inr p ↦ good_here P (b ∷ bs) left (unless_left limits count (suc (length bs)) left (rw (d, m, p) at e)).1 (fail NoMark (codes "0") zero_numeral (zero_fits false) [] (front_none (codes "0")))
    ]
  ]
]
