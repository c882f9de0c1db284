-- What a printed piece of a text does to a state, whatever follows it: white space, closing tags, texts and numbers.
use Rattle.std.proofs.Common.{◌≡◌, ◌≢◌, ℕ, ◌+◌, ◌-◌, ◌*◌, ◌<◌, ◌≤◌, Bool, true, false, not, ◌&&◌, eqb, List, [], ◌∷◌, ◌++◌, inl, inr, refl, sym, ap, ◌∙◌, subst, arith, codes, append_assoc, append-nil, encode_utf8, le_trans, ◌/◌, ◌%◌, ◌⊎◌}
use Rattle.std.specs.List.{list_all}
use Rattle.std.specs.Str.Parse.{digits_value, digits_value_after, IsNumeral, AllDigits}
use Rattle.std.specs.Char.{digit_value, is_ascii_digit}
use Rattle.std.proofs.lemmas.Bool.{cases_Bool, cases_lt, and_parts, lt-ltb, le-ltb, le-leb, ne_eqb}
use Rattle.std.proofs.lemmas.Bool.Decides.{nat_tests}
use Rattle.std.proofs.lemmas.Str.{encode_ascii}
use lib.Utf8.{encode, scalar_cases}
use Rattle.sv_xmlcall.specs.Tags.{spelling}
use Rattle.sv_xmlcall.specs.Spelled.{is_white}
use Rattle.sv_letters.specs.Letters.{is_allowed, allows, after, are_letters, is_whole}
use Rattle.sv_xmlcall.specs.Spells.{IsWhite, Entity, Ampersand, Letter, Plain, Named, Numbered, character_of, printed_letter, printed_entity, entity_character, number_sign, IsLetter, AreLetters, printed_text, text_of, Ending, IsEnding, printed_shut, printed_end}
use Rattle.sv_xmlcall.specs.Machine.{Limits, Expecting, Content, InBare, Frame, State, TooDeep, At, Close, Chars, Hash, Numeral, Opened, Digits, Counted, Sign, at, run, leave, base_of, most_of, is_digit, longer}
use Rattle.sv_xmlcall.specs.Machine.{digit_value as value_of_digit}
use Rattle.sv_letters.specs.declared.letters.Letters.TheVariants.{OfXml}
use Rattle.sv_letters.specs.declared.letters.Awaits.{Awaits}
use Rattle.sv_letters.specs.declared.letters.Awaits.TheVariants.{Character, Private, Continuation}
use Rattle.sv_xmlcall.specs.declared.tag.Tag.{Tag}
use Rattle.sv_letters.proofs.LetterLaws.{accept_char}
use Rattle.sv_xmlcall.proofs.Texts.{allowed_scalar}

-- these bytes lead from one state to another
pub record Passes (limits : Limits) (before : State) (bytes : List ℕ) (behind : State) : Type 0 where
  pub goes : (rest : List ℕ) → run limits before (bytes ++ rest) ≡ run limits behind rest

-- these bytes open a value inside too many others
pub record Stops (limits : Limits) (before : State) (bytes : List ℕ) : Type 0 where
  pub stops : (rest : List ℕ) → run limits before (bytes ++ rest) ≡ TooDeep

infixl 10 ◌▷◌
pub ◌▷◌ : {limits : Limits} {s t u : State} {a b : List ℕ} → Passes limits s a t → Passes limits t b u → Passes limits s (a ++ b) u
◌▷◌ {limits} {s} {t} {u} {a} {b} p q = record { goes = λ rest. ap (run limits s) (append_assoc a b rest) ∙ p.goes (b ++ rest) ∙ q.goes rest }

infixl 10 ◌▷!◌
pub ◌▷!◌ : {limits : Limits} {s t : State} {a b : List ℕ} → Passes limits s a t → Stops limits t b → Stops limits s (a ++ b)
◌▷!◌ {limits} {s} {t} {a} {b} p q = record { stops = λ rest. ap (run limits s) (append_assoc a b rest) ∙ p.goes (b ++ rest) ∙ q.stops rest }

infixl 10 ◌!▷◌
pub ◌!▷◌ : {limits : Limits} {s : State} {a : List ℕ} → Stops limits s a → (b : List ℕ) → Stops limits s (a ++ b)
◌!▷◌ {limits} {s} {a} p b = record { stops = λ rest. ap (run limits s) (append_assoc a b rest) ∙ p.stops (b ++ rest) }

pub nothing : {limits : Limits} {s : State} → Passes limits s [] s
nothing = record { goes = λ rest. refl }

pub to_state : {limits : Limits} {s t u : State} {a : List ℕ} → Passes limits s a t → t ≡ u → Passes limits s a u
to_state {limits} {s} {t} {u} {a} p e = subst (λ (x : State). Passes limits s a x) e p

-- white space before a tag
pub white : (limits : Limits) (place : Expecting) (frames : List Frame) (count : ℕ) (gap : List ℕ) → IsWhite gap
    → Passes limits (at (At place) frames count) gap (at (At place) frames count)
white limits place frames count [] w = nothing
white limits place frames count (b ∷ bs) w =
    let p = and_parts (is_white b) (list_all is_white bs) w in
    record { goes = λ rest. rw p.0 ((white limits place frames count bs p.1).goes rest) }

-- white space after `<value>`
pub white_opened : (limits : Limits) (kept : List ℕ) (frames : List Frame) (count : ℕ) (gap : List ℕ) → IsWhite gap
    → Passes limits (at (Opened kept) frames count) gap (at (Opened (kept ++ gap)) frames count)
white_opened limits kept frames count [] w = to_state nothing (ap (λ (k : List ℕ). at (Opened k) frames count) (sym (append-nil kept)))
white_opened limits kept frames count (b ∷ bs) w =
    let p = and_parts (is_white b) (list_all is_white bs) w in
    to_state (record { goes = λ rest. rw p.0 ((white_opened limits (kept ++ b ∷ []) frames count bs p.1).goes rest) })
    (ap (λ (k : List ℕ). at (Opened k) frames count) (append_assoc kept (b ∷ []) bs))

-- the end of a closing tag
pub shut : (limits : Limits) (place : Expecting) (frames : List Frame) (count : ℕ) (inside : List ℕ) → IsWhite inside
    → Passes limits (at (Close place) frames count) (inside ++ codes ">") (leave limits place frames count)
shut limits place frames count [] w = record { goes = λ rest. refl }
shut limits place frames count (b ∷ bs) w =
    let p = and_parts (is_white b) (list_all is_white bs) w in
    record { goes = λ rest. rw p.0 ((shut limits place frames count bs p.1).goes rest) }

-- a closing tag after a text
pub shuts : (limits : Limits) (before : State) (t : Tag) (place : Expecting) (frames : List Frame) (count : ℕ) (inside : List ℕ)
    → Passes limits before (spelling t) (at (Close place) frames count) → IsWhite inside
    → Passes limits before (printed_shut t inside) (leave limits place frames count)
shuts limits before t place frames count inside p w = record {
  goes = λ rest.
      ap (run limits before) (ap (λ (x : List ℕ). x ++ rest) (append_assoc (spelling t) inside (codes ">")))
      ∙ (p ▷ shut limits place frames count inside w).goes rest;
}

-- a closing tag after white space
pub ends : (limits : Limits) (t : Tag) (place : Expecting) (frames : List Frame) (count : ℕ) (ending : Ending)
    → Passes limits (at (At place) frames count) (spelling t) (at (Close place) frames count) → IsEnding ending
    → Passes limits (at (At place) frames count) (printed_end t ending) (leave limits place frames count)
ends limits t place frames count ending p w =
    white limits place frames count ending.before w.0 ▷ shuts limits (at (At place) frames count) t place frames count ending.inside p w.1

abbrev pub in_text : Content → List ℕ → List Frame → ℕ → State
in_text content kept frames count = at (Chars content kept Character) frames count

abbrev pub is_free : ℕ → Bool
is_free b = not (eqb b 60) && not (eqb b 38)

pub whole_is : (awaits : Awaits) → is_whole awaits ≡ true → awaits ≡ Character
whole_is Character e = refl
whole_is Private e = cc e
whole_is (Continuation low high more) e = cc e

not_false : (a : Bool) → not a ≡ true → a ≡ false
not_false false e = refl
not_false true e = cc e

-- bytes of characters that XML allows, without `<` and `&`
bytes_pass : (limits : Limits) (content : Content) (kept : List ℕ) (awaits : Awaits) (frames : List Frame) (count : ℕ) (bs : List ℕ)
    → are_letters OfXml awaits bs ≡ true → list_all is_free bs ≡ true
    → Passes limits (at (Chars content kept awaits) frames count) bs (in_text content (kept ++ bs) frames count)
bytes_pass limits content kept awaits frames count [] a f =
    to_state nothing (ap (λ (w : Awaits). at (Chars content kept w) frames count) (whole_is awaits a) ∙ ap (λ (k : List ℕ). in_text content k frames count) (sym (append-nil kept)))
bytes_pass limits content kept awaits frames count (b ∷ bs) a f =
    let p = and_parts (allows OfXml awaits b) (are_letters OfXml (after OfXml awaits b) bs) a in
    let q = and_parts (is_free b) (list_all is_free bs) f in
    let r = and_parts (not (eqb b 60)) (not (eqb b 38)) q.0 in
    to_state
    (record {
      goes = λ rest. rw (not_false (eqb b 60) r.0, not_false (eqb b 38) r.1, p.0)
          ((bytes_pass limits content (kept ++ b ∷ []) (after OfXml awaits b) frames count bs p.1 q.1).goes rest);
    })
    (ap (λ (k : List ℕ). in_text content k frames count) (append_assoc kept (b ∷ []) bs))

pub free_high : (b : ℕ) → 128 ≤ b → is_free b ≡ true
free_high b h = rw (ne_eqb b 60 (λ e. omega arith), ne_eqb b 38 (λ e. omega arith)) refl

free_char : (c : ℕ) → c ≢ 38 → c ≢ 60 → list_all is_free (encode c) ≡ true
unfolding encode
free_char c a b = elim (cases_lt c 128) [
  | inl h ↦ rw (lt-ltb c 128 h, ne_eqb c 60 b, ne_eqb c 38 a) refl
  | inr h ↦ elim (cases_lt c 2048) [
    | inl u ↦ rw (le-ltb c 128 h, lt-ltb c 2048 u, free_high (192 + c / 64) (omega arith), free_high (128 + c % 64) (omega arith)) refl
    | inr l ↦ elim (cases_lt c 65536) [
      | inl u ↦ rw (le-ltb c 128 h, le-ltb c 2048 l, lt-ltb c 65536 u, free_high (224 + c / 4096) (omega arith), free_high (128 + (c / 64) % 64) (omega arith), free_high (128 + c % 64) (omega arith)) refl
      | inr m ↦ rw (le-ltb c 128 h, le-ltb c 2048 l, le-ltb c 65536 m, free_high (240 + c / 262144) (omega arith), free_high (128 + (c / 4096) % 64) (omega arith), free_high (128 + (c / 64) % 64) (omega arith), free_high (128 + c % 64) (omega arith)) refl
    ]
  ]
]

letters_of_char : (c : ℕ) → is_allowed c ≡ true → are_letters OfXml Character (encode c) ≡ true
letters_of_char c e =
    subst (λ (x : List ℕ). are_letters OfXml Character x ≡ true) (append-nil (encode c)) (accept_char OfXml refl c (allowed_scalar c e) e [])

plain_pass : (limits : Limits) (content : Content) (kept : List ℕ) (frames : List Frame) (count : ℕ) (c : ℕ) → IsLetter (Plain c)
    → Passes limits (in_text content kept frames count) (encode_utf8 c) (in_text content (kept ++ encode_utf8 c) frames count)
plain_pass limits content kept frames count c l = bytes_pass limits content kept Character frames count (encode c) (letters_of_char c l.0) (free_char c l.1 l.2)

named_pass : (limits : Limits) (content : Content) (kept : List ℕ) (frames : List Frame) (count : ℕ) (entity : Entity)
    → Passes limits (in_text content kept frames count) (printed_entity entity) (in_text content (kept ++ encode (entity_character entity)) frames count)
unfolding encode
named_pass limits content kept frames count Ampersand = record { goes = λ rest. refl }
named_pass limits content kept frames count any = record { goes = λ rest. refl }

-- a digit of std's is one of the reader's, with the same value
pub record SameDigit (hex : Bool) (b : ℕ) : Type 0 where
  pub is : is_digit hex b ≡ true
  pub value : value_of_digit b ≡ digit_value b

same_digit : (hex : Bool) (b : ℕ) → digit_value b < base_of hex → SameDigit hex b
same_digit true b h = record { is = grind (arith, nat_tests); value = grind (arith, nat_tests) }
same_digit false b h = record { is = grind (arith, nat_tests); value = grind (arith, nat_tests) }

pub record DecimalDigit (b : ℕ) : Type 0 where
  pub is : is_ascii_digit b ≡ true
  pub value : b - 48 ≡ digit_value b

pub decimal_digit : (b : ℕ) → digit_value b < 10 → DecimalDigit b
decimal_digit b h = record { is = grind (arith, nat_tests); value = grind (arith, nat_tests) }

one_more : (hex : Bool) (n d : ℕ) → n ≤ n * base_of hex + d
one_more true n d = omega arith
one_more false n d = omega arith

pub number_grows : (hex : Bool) (n : ℕ) (ds : List ℕ) → n ≤ digits_value_after (base_of hex) n ds
number_grows hex n [] = omega arith
number_grows hex n (d ∷ ds) =
    let h = number_grows hex (n * base_of hex + digit_value d) ds in
    let l = one_more hex n (digit_value d) in omega arith

numeral_step : (limits : Limits) (content : Content) (kept : List ℕ) (frames : List Frame) (count : ℕ) (hex seen : Bool) (n d : ℕ)
    → SameDigit hex d → n * base_of hex + digit_value d ≤ 1114111
    → Passes limits (at (Numeral content kept hex seen n) frames count) (d ∷ []) (at (Numeral content kept hex true (n * base_of hex + digit_value d)) frames count)
numeral_step limits content kept frames count hex seen n d s l =
    let m : longer hex n d ≤ 1114111 = subst (λ (v : ℕ). n * base_of hex + v ≤ 1114111) (sym s.value) l in
    record {
      goes = λ rest. rw (s.is, le-leb (longer hex n d) 1114111 m)
          (ap (λ (v : ℕ). run limits (at (Numeral content kept hex true (n * base_of hex + v)) frames count) rest) s.value);
    }

numeral_more : (limits : Limits) (content : Content) (kept : List ℕ) (frames : List Frame) (count : ℕ) (hex : Bool) (n : ℕ) (ds : List ℕ)
    → AllDigits (base_of hex) ds → digits_value_after (base_of hex) n ds ≤ 1114111
    → Passes limits (at (Numeral content kept hex true n) frames count) ds (at (Numeral content kept hex true (digits_value_after (base_of hex) n ds)) frames count)
numeral_more limits content kept frames count hex n [] a l = nothing
numeral_more limits content kept frames count hex n (d ∷ ds) a l =
    let h = number_grows hex (n * base_of hex + digit_value d) ds in
    numeral_step limits content kept frames count hex true n d (same_digit hex d a.0) (omega arith)
    ▷ numeral_more limits content kept frames count hex (n * base_of hex + digit_value d) ds a.1 l

hash_step : (limits : Limits) (content : Content) (kept : List ℕ) (frames : List Frame) (count : ℕ) (d : ℕ) → digit_value d < 10
    → Passes limits (at (Hash content kept) frames count) (d ∷ []) (at (Numeral content kept false true (0 * 10 + digit_value d)) frames count)
hash_step limits content kept frames count d h =
    let s = same_digit false d h in
    let x : eqb d 120 ≡ false = grind (arith, nat_tests) in
    let one = numeral_step limits content kept frames count false false 0 d s (omega arith) in
    record { goes = λ rest. rw x (one.goes rest) }

semicolon : (limits : Limits) (content : Content) (kept : List ℕ) (frames : List Frame) (count : ℕ) (hex : Bool) (n : ℕ) → is_allowed n ≡ true
    → Passes limits (at (Numeral content kept hex true n) frames count) (codes ";") (in_text content (kept ++ encode_utf8 n) frames count)
semicolon limits content kept frames count true n e = record { goes = λ rest. rw e refl }
semicolon limits content kept frames count false n e = record { goes = λ rest. rw e refl }

allowed_top : (c : ℕ) → is_allowed c ≡ true → c ≤ 1114111
allowed_top c e = elim (scalar_cases c (allowed_scalar c e)) [
  | inl h ↦ omega arith
  | inr h ↦ omega arith
]

numbered_pass : (limits : Limits) (content : Content) (kept : List ℕ) (frames : List Frame) (count : ℕ) (hex : Bool) (digits : List ℕ) → IsLetter (Numbered hex digits)
    → Passes limits (in_text content kept frames count) (printed_letter (Numbered hex digits)) (in_text content (kept ++ encode_utf8 (digits_value (base_of hex) digits)) frames count)
numbered_pass limits content kept frames count hex [] l = absurd (omega (arith, l.0.0))
numbered_pass limits content kept frames count true (d ∷ ds) l =
    let n = digits_value 16 (d ∷ ds) in
    let top : digits_value_after 16 (0 * 16 + digit_value d) ds ≤ 1114111 = allowed_top n l.1 in
    let grows = number_grows true (0 * 16 + digit_value d) ds in
    let begin : Passes limits (in_text content kept frames count) (number_sign true) (at (Numeral content kept true false 0) frames count) = record { goes = λ rest. refl } in
    let first = numeral_step limits content kept frames count true false 0 d (same_digit true d l.0.1.0) (omega arith) in
    let more = numeral_more limits content kept frames count true (0 * 16 + digit_value d) ds l.0.1.1 top in
    begin ▷ (first ▷ more) ▷ semicolon limits content kept frames count true n l.1
numbered_pass limits content kept frames count false (d ∷ ds) l =
    let n = digits_value 10 (d ∷ ds) in
    let top : digits_value_after 10 (0 * 10 + digit_value d) ds ≤ 1114111 = allowed_top n l.1 in
    let begin : Passes limits (in_text content kept frames count) (number_sign false) (at (Hash content kept) frames count) = record { goes = λ rest. refl } in
    let first = hash_step limits content kept frames count d l.0.1.0 in
    let more = numeral_more limits content kept frames count false (0 * 10 + digit_value d) ds l.0.1.1 top in
    begin ▷ (first ▷ more) ▷ semicolon limits content kept frames count false n l.1

letter_pass : (limits : Limits) (content : Content) (kept : List ℕ) (frames : List Frame) (count : ℕ) (letter : Letter) → IsLetter letter
    → Passes limits (in_text content kept frames count) (printed_letter letter) (in_text content (kept ++ encode_utf8 (character_of letter)) frames count)
letter_pass limits content kept frames count (Plain c) l = plain_pass limits content kept frames count c l
letter_pass limits content kept frames count (Named entity) l = named_pass limits content kept frames count entity
letter_pass limits content kept frames count (Numbered hex digits) l = numbered_pass limits content kept frames count hex digits l

-- a text
pub text_pass : (limits : Limits) (content : Content) (kept : List ℕ) (frames : List Frame) (count : ℕ) (letters : List Letter) → AreLetters letters
    → Passes limits (in_text content kept frames count) (printed_text letters) (in_text content (kept ++ text_of letters) frames count)
text_pass limits content kept frames count [] l = to_state nothing (ap (λ (k : List ℕ). in_text content k frames count) (sym (append-nil kept)))
text_pass limits content kept frames count (letter ∷ letters) l =
    to_state
    (letter_pass limits content kept frames count letter l.0 ▷ text_pass limits content (kept ++ encode_utf8 (character_of letter)) frames count letters l.1)
    (ap (λ (k : List ℕ). in_text content k frames count) (append_assoc kept (encode_utf8 (character_of letter)) (text_of letters)))

-- how a text begins after `<value>`, where it is not with white space
pub record Begins (letter : Letter) : Type 0 where
  pub b : ℕ
  pub bs : List ℕ
  pub is : printed_letter letter ≡ b ∷ bs
  pub dark : is_white b ≡ false
  pub free : eqb b 60 ≡ false

dark_high : (b : ℕ) → 128 ≤ b → is_white b ≡ false
dark_high b h = grind (arith, nat_tests)

begins_char : (c : ℕ) → is_white c ≡ false → c ≢ 60 → Begins (Plain c)
unfolding encode
begins_char c w n = elim (cases_lt c 128) [
  | inl h ↦ record { b = c; bs = []; is = rw (lt-ltb c 128 h) refl; dark = w; free = ne_eqb c 60 n }
  | inr h ↦ elim (cases_lt c 2048) [
    | inl u ↦ record { b = 192 + c / 64; bs = (128 + c % 64) ∷ []; is = rw (le-ltb c 128 h, lt-ltb c 2048 u) refl; dark = dark_high (192 + c / 64) (omega arith); free = ne_eqb (192 + c / 64) 60 (λ e. omega arith) }
    | inr l ↦ elim (cases_lt c 65536) [
      | inl u ↦ record { b = 224 + c / 4096; bs = (128 + (c / 64) % 64) ∷ (128 + c % 64) ∷ []; is = rw (le-ltb c 128 h, le-ltb c 2048 l, lt-ltb c 65536 u) refl; dark = dark_high (224 + c / 4096) (omega arith); free = ne_eqb (224 + c / 4096) 60 (λ e. omega arith) }
      | inr m ↦ record { b = 240 + c / 262144; bs = (128 + (c / 4096) % 64) ∷ (128 + (c / 64) % 64) ∷ (128 + c % 64) ∷ []; is = rw (le-ltb c 128 h, le-ltb c 2048 l, le-ltb c 65536 m) refl; dark = dark_high (240 + c / 262144) (omega arith); free = ne_eqb (240 + c / 262144) 60 (λ e. omega arith) }
    ]
  ]
]

begins_named : (entity : Entity) → Begins (Named entity)
begins_named Ampersand = record { b = 38; bs = _; is = refl; dark = refl; free = refl }
begins_named any = record { b = 38; bs = _; is = refl; dark = refl; free = refl }

begins_numbered : (hex : Bool) (digits : List ℕ) → Begins (Numbered hex digits)
begins_numbered true digits = record { b = 38; bs = _; is = refl; dark = refl; free = refl }
begins_numbered false digits = record { b = 38; bs = _; is = refl; dark = refl; free = refl }

-- after `<value>` a text that is not white is read as any other
pub dark_text : (limits : Limits) (kept : List ℕ) (frames : List Frame) (count : ℕ) (letter : Letter) (bytes : List ℕ) → Begins letter
    → run limits (at (Opened kept) frames count) (printed_letter letter ++ bytes) ≡ run limits (in_text InBare kept frames count) (printed_letter letter ++ bytes)
dark_text limits kept frames count letter bytes s =
    subst (λ (x : List ℕ). run limits (at (Opened kept) frames count) (x ++ bytes) ≡ run limits (in_text InBare kept frames count) (x ++ bytes)) (sym s.is)
    (rw (s.dark, s.free) refl)

pub white_char : (c : ℕ) → is_white c ≡ true → encode_utf8 c ≡ c ∷ []
white_char c w = let h : c < 128 = grind (arith, nat_tests) in encode_ascii c h

pub begins : (letter : Letter) → IsLetter letter → ((c : ℕ) × (letter ≡ Plain c) × (is_white c ≡ true)) ⊎ Begins letter
begins (Plain c) l = elim (cases_Bool (is_white c)) [
  | inl w ↦ inl (c, refl, w)
  | inr d ↦ inr (begins_char c d l.2)
]
begins (Named entity) l = inr (begins_named entity)
begins (Numbered hex digits) l = inr (begins_numbered hex digits)

-- the digits of an integer
int_step : (limits : Limits) (short negative : Bool) (sign : Sign) (frames : List Frame) (count n d : ℕ) → DecimalDigit d → n * 10 + digit_value d ≤ most_of negative
    → Passes limits (at (Digits short negative sign n) frames count) (d ∷ []) (at (Digits short negative Counted (n * 10 + digit_value d)) frames count)
int_step limits short negative sign frames count n d s l =
    let m : n * 10 + (d - 48) ≤ most_of negative = subst (λ (v : ℕ). n * 10 + v ≤ most_of negative) (sym s.value) l in
    record {
      goes = λ rest. rw (s.is, le-leb (n * 10 + (d - 48)) (most_of negative) m)
          (ap (λ (v : ℕ). run limits (at (Digits short negative Counted (n * 10 + v)) frames count) rest) s.value);
    }

int_more : (limits : Limits) (short negative : Bool) (frames : List Frame) (count n : ℕ) (ds : List ℕ) → AllDigits 10 ds → digits_value_after 10 n ds ≤ most_of negative
    → Passes limits (at (Digits short negative Counted n) frames count) ds (at (Digits short negative Counted (digits_value_after 10 n ds)) frames count)
int_more limits short negative frames count n [] a l = nothing
int_more limits short negative frames count n (d ∷ ds) a l =
    let h = number_grows false (n * 10 + digit_value d) ds in
    int_step limits short negative Counted frames count n d (decimal_digit d a.0) (le_trans h l)
    ▷ int_more limits short negative frames count (n * 10 + digit_value d) ds a.1 l

pub int_pass : (limits : Limits) (short negative : Bool) (sign : Sign) (frames : List Frame) (count : ℕ) (ds : List ℕ) → IsNumeral 10 ds → digits_value 10 ds ≤ most_of negative
    → Passes limits (at (Digits short negative sign 0) frames count) ds (at (Digits short negative Counted (digits_value 10 ds)) frames count)
int_pass limits short negative sign frames count [] a l = absurd (omega (arith, a.0))
int_pass limits short negative sign frames count (d ∷ ds) a l =
    let h = number_grows false (0 * 10 + digit_value d) ds in
    int_step limits short negative sign frames count 0 d (decimal_digit d a.1.0) (le_trans h l)
    ▷ int_more limits short negative frames count (0 * 10 + digit_value d) ds a.1.1 l
