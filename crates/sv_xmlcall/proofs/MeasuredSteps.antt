-- What is read within the limits, beside what is read without, from whatever place after the declaration.
use Rattle.std.proofs.Common.{◌≡◌, ℕ, zero, suc, ◌+◌, ◌<◌, ◌≤◌, ◌*◌, ◌-◌, Bool, true, false, ◌&&◌, eqb, leb, List, [], ◌∷◌, ◌++◌, length, Result, Ok, Err, inl, inr, refl, sym, ap, ◌∙◌, subst, arith, ℤ, encode_utf8, ◌⊎◌}
use Rattle.std.specs.Char.{is_ascii_digit}
use Rattle.std.proofs.lemmas.Bool.{cases_Bool, and_parts}
use Rattle.sv_xmlcall.specs.Tags.{tag_at}
use Rattle.sv_xmlcall.specs.Spelled.{is_white, signed}
use Rattle.sv_letters.specs.Letters.{is_allowed, allows, after}
use Rattle.sv_xmlcall.specs.Machine.{Limits, the_limits, Frame, Content, InBare, Expecting, AtForm, AtTextEnd, AtEntity, AtIntegerEnd, AtTruthEnd, Sign, Fresh, Signed, Counted, Control, At, Within, Close, Chars, Hash, Numeral, Opened, Digits, TruthDigit, Prolog, Stuck, State, Step, Go, NotRead, Verdict, leave, next_of, run, unless_many, may_end, is_between, is_digit, is_hex_digit, longer, most_of, tags_of, words_of}
use Rattle.sv_letters.specs.declared.letters.Letters.TheVariants.{OfXml}
use Rattle.sv_letters.specs.declared.letters.Awaits.{Awaits}
use Rattle.sv_letters.specs.declared.letters.Awaits.TheVariants.{Character}
use Rattle.sv_xmlcall.specs.declared.tag.Tag.{Tag}
use Rattle.sv_xmlcall.proofs.Words.{follow}
use Rattle.sv_xmlcall.proofs.TagsBack.{tag_back, run_tag}
use Rattle.sv_xmlcall.proofs.NestedBack.{tag_shorter}
use Rattle.sv_xmlcall.proofs.Fronts.{TagBroken, tag_broken}
use Rattle.sv_xmlcall.proofs.OpeningLaws.{other_than, part_calm}
use Rattle.sv_xmlcall.proofs.Measures.{far, capped, Measured, Judged, behind, measured_to, measured_calm, measured_here, measured_byte, judged_end, judged_bad, judged_step, judged_same}
use Rattle.sv_xmlcall.proofs.MeasuredTags.{Inside, in_content, in_place, closing, Stands, left_behind}
use Rattle.sv_xmlcall.proofs.MeasuredPlaces.{tag_entered}

-- what holds of each shorter text, in whatever state
abbrev Shorter : ℕ → List Frame → ℕ → List ℕ → Type 0
Shorter n frames count bs = (control : Control) (frames2 : List Frame) (count2 around : ℕ) (rest : List ℕ) → length rest < length bs → length frames2 ≤ suc (length frames) → count2 ≤ suc count → Stands control frames2 around
    → Judged n control frames2 count2 around rest

-- room for as many values as bytes are left
abbrev Room : ℕ → List Frame → ℕ → List ℕ → Type 0
Room n frames count bs = (length frames + length bs ≤ n) × (count + length bs ≤ n)

pub white_free : (b : ℕ) → is_white b ≡ true → eqb b 60 ≡ false
white_free b w = other_than is_white b 60 refl w

broken_tag : (n : ℕ) (place : Expecting) (frames : List Frame) (count around : ℕ) (bs : List ℕ) (left : ℕ) → count ≤ n → (left ≡ length bs) ⊎ TagBroken (tags_of place) bs left
    → Measured (unless_many (far n) count (NotRead left)) (unless_many the_limits (capped count) (NotRead left)) around count bs
broken_tag n place frames count around bs left c (inl l) = measured_here n around count (NotRead left) bs c (inl (ap NotRead l))
broken_tag n place frames count around bs left c (inr b) =
    measured_calm n around count (NotRead left) bs b.word.front b.word.bad c b.word.parts (part_calm b.t b.word.front b.word.part) (inl (ap NotRead (sym b.word.size)))

tag_of : (n : ℕ) (place : Expecting) (frames : List Frame) (count around : ℕ) (bs : List ℕ) (r : Result (Tag × List ℕ) ℕ) → Room n frames count bs → in_place place frames around → Shorter n frames count bs → tag_at (tags_of place) bs ≡ r
    → 1 ≤ length bs → Measured (follow (far n) place frames count r) (follow the_limits place frames (capped count) r) around count bs
tag_of n place frames count around bs (Ok r) room s again q some =
    let f = tag_back (tags_of place) (length bs) bs r q in
    let less = tag_shorter r.0 r.1 bs f.1 in
    let fewer = room.0 in
    let lower = room.1 in
    bytes_to (sym f.1)
    (tag_entered n place frames count around r.1 (omega arith) (omega arith) s (λ control frames2 count2 around l k h. again control frames2 count2 around r.1 less l k h) r.0 f.0)
  where
    bytes_to : {far_off near : Verdict} {around count : ℕ} {a b : List ℕ} → a ≡ b → Measured far_off near around count a → Measured far_off near around count b
    bytes_to {far_off} {near} {around} {count} {a} {b} e m = subst (λ (x : List ℕ). Measured far_off near around count x) e m
tag_of n place frames count around bs (Err left) room s again q some =
    let lower = room.1 in
    broken_tag n place frames count around bs left (omega arith) (tag_broken (tags_of place) (length bs) bs left q)

-- in a tag of which nothing is read
tag_measured : (n : ℕ) (place : Expecting) (frames : List Frame) (count around b : ℕ) (bs : List ℕ) → Room n frames count (b ∷ bs) → in_place place frames around → Shorter n frames count (b ∷ bs)
    → Judged n (Within place (words_of (tags_of place))) frames count around (b ∷ bs)
tag_measured n place frames count around b bs room s again =
    measured_to _ _ _ _ around count (b ∷ bs) (run_tag (far n) place frames count (b ∷ bs)) (run_tag the_limits place frames (capped count) (b ∷ bs))
    (tag_of n place frames count around (b ∷ bs) (tag_at (tags_of place) (b ∷ bs)) room s again refl (omega arith))

-- before a tag
place_measured : (n : ℕ) (place : Expecting) (frames : List Frame) (count around b : ℕ) (bs : List ℕ) → Room n frames count (b ∷ bs) → in_place place frames around → Shorter n frames count (b ∷ bs)
    → Judged n (At place) frames count around (b ∷ bs)
place_measured n place frames count around b bs room s again = elim (cases_Bool (is_white b)) [
  | inl w ↦ judged_step n (At place) (At place) frames count around b bs (white_free b w) (λ limits count. rw w refl) (again (At place) frames count around bs (omega arith) (omega arith) (omega arith) s)
  | inr w ↦ judged_same n (At place) (Within place (words_of (tags_of place))) frames count around b bs (λ limits count. rw w refl) (tag_measured n place frames count around b bs room s again)
]

-- at the end of a closing tag
close_measured : (n : ℕ) (place : Expecting) (frames : List Frame) (count around b : ℕ) (bs : List ℕ) → Room n frames count (b ∷ bs) → closing place frames around → Shorter n frames count (b ∷ bs)
    → Judged n (Close place) frames count around (b ∷ bs)
close_measured n place frames count around b bs room s again = elim (cases_Bool (is_white b)) [
  | inl w ↦ judged_step n (Close place) (Close place) frames count around b bs (white_free b w) (λ limits count. rw w refl) (again (Close place) frames count around bs (omega arith) (omega arith) (omega arith) s)
  | inr w ↦ elim (cases_Bool (eqb b 62)) [
    | inl c ↦
        let v = left_behind n place frames count around s in
        measured_byte _ _ around count b bs (other_than (λ x. eqb x 62) b 60 refl c)
        (measured_to _ _ _ _ around count bs
        (ap (λ (x : Step). behind (far n) x count bs) (left_step (far n) place frames count b w c) ∙ ap (λ (x : State). run (far n) x bs) v.far_is)
        (ap (λ (x : Step). behind the_limits x (capped count) bs) (left_step the_limits place frames (capped count) b w c) ∙ ap (λ (x : State). run the_limits x bs) v.near_is)
        (again v.control v.frames2 count around bs (omega arith) v.few (omega arith) v.stands))
    | inr c ↦ let lower = room.1 in judged_bad n (Close place) frames count around b bs (omega arith) (λ limits count. rw (w, c) refl)
  ]
]
  where
    left_step : (limits : Limits) (place : Expecting) (frames : List Frame) (count b : ℕ) → is_white b ≡ false → eqb b 62 ≡ true → next_of limits (Close place) frames count b ≡ Go (leave limits place frames count)
    left_step limits place frames count b w c = rw (w, c) refl

-- in a text
chars_measured : (n : ℕ) (content : Content) (kept : List ℕ) (awaits : Awaits) (frames : List Frame) (count around b : ℕ) (bs : List ℕ) → Room n frames count (b ∷ bs) → in_content content frames around → Shorter n frames count (b ∷ bs)
    → Judged n (Chars content kept awaits) frames count around (b ∷ bs)
chars_measured n content kept awaits frames count around b bs room s again = elim (cases_Bool (eqb b 60)) [
  | inl e ↦ elim (cases_Bool (is_between awaits && may_end content kept)) [
    | inl m ↦
        judged_same n (Chars content kept awaits) (Within (AtTextEnd content kept) (words_of (tags_of (AtTextEnd content kept)))) frames count around b bs (λ limits count. rw (e, m) refl)
        (tag_measured n (AtTextEnd content kept) frames count around b bs room s again)
    | inr m ↦ let lower = room.1 in judged_bad n (Chars content kept awaits) frames count around b bs (omega arith) (λ limits count. rw (e, m) refl)
  ]
  | inr e ↦ elim (cases_Bool (eqb b 38)) [
    | inl a ↦ elim (cases_Bool (is_between awaits)) [
      | inl m ↦
          judged_same n (Chars content kept awaits) (Within (AtEntity content kept) (words_of (tags_of (AtEntity content kept)))) frames count around b bs (λ limits count. rw (e, a, m) refl)
          (tag_measured n (AtEntity content kept) frames count around b bs room s again)
      | inr m ↦ let lower = room.1 in judged_bad n (Chars content kept awaits) frames count around b bs (omega arith) (λ limits count. rw (e, a, m) refl)
    ]
    | inr a ↦ elim (cases_Bool (allows OfXml awaits b)) [
      | inl l ↦
          judged_step n (Chars content kept awaits) (Chars content (kept ++ b ∷ []) (after OfXml awaits b)) frames count around b bs e (λ limits count. rw (e, a, l) refl)
          (again (Chars content (kept ++ b ∷ []) (after OfXml awaits b)) frames count around bs (omega arith) (omega arith) (omega arith) s)
      | inr l ↦ let lower = room.1 in judged_bad n (Chars content kept awaits) frames count around b bs (omega arith) (λ limits count. rw (e, a, l) refl)
    ]
  ]
]

digit_free : (hex : Bool) (b : ℕ) → is_digit hex b ≡ true → eqb b 60 ≡ false
digit_free true b d = other_than is_hex_digit b 60 refl d
digit_free false b d = other_than is_ascii_digit b 60 refl d

-- in the number of an entity
numeral_measured : (n : ℕ) (content : Content) (kept : List ℕ) (hex seen : Bool) (m : ℕ) (frames : List Frame) (count around b : ℕ) (bs : List ℕ) → Room n frames count (b ∷ bs) → in_content content frames around → Shorter n frames count (b ∷ bs)
    → Judged n (Numeral content kept hex seen m) frames count around (b ∷ bs)
numeral_measured n content kept hex seen m frames count around b bs room s again = elim (cases_Bool (is_digit hex b)) [
  | inl d ↦ elim (cases_Bool (leb (longer hex m b) 1114111)) [
    | inl l ↦
        judged_step n (Numeral content kept hex seen m) (Numeral content kept hex true (longer hex m b)) frames count around b bs (digit_free hex b d) (λ limits count. rw (d, l) refl)
        (again (Numeral content kept hex true (longer hex m b)) frames count around bs (omega arith) (omega arith) (omega arith) s)
    | inr l ↦ let lower = room.1 in judged_bad n (Numeral content kept hex seen m) frames count around b bs (omega arith) (λ limits count. rw (d, l) refl)
  ]
  | inr d ↦ elim (cases_Bool (eqb b 59 && seen && is_allowed m)) [
    | inl c ↦
        judged_step n (Numeral content kept hex seen m) (Chars content (kept ++ encode_utf8 m) Character) frames count around b bs (other_than (λ x. eqb x 59) b 60 refl (and_parts (eqb b 59) seen (and_parts (eqb b 59 && seen) (is_allowed m) c).0).0)
        (λ limits count. rw (d, c) refl)
        (again (Chars content (kept ++ encode_utf8 m) Character) frames count around bs (omega arith) (omega arith) (omega arith) s)
    | inr c ↦ let lower = room.1 in judged_bad n (Numeral content kept hex seen m) frames count around b bs (omega arith) (λ limits count. rw (d, c) refl)
  ]
]

hash_measured : (n : ℕ) (content : Content) (kept : List ℕ) (frames : List Frame) (count around b : ℕ) (bs : List ℕ) → Room n frames count (b ∷ bs) → in_content content frames around → Shorter n frames count (b ∷ bs)
    → Judged n (Hash content kept) frames count around (b ∷ bs)
hash_measured n content kept frames count around b bs room s again = elim (cases_Bool (eqb b 120)) [
  | inl x ↦
      judged_step n (Hash content kept) (Numeral content kept true false 0) frames count around b bs (other_than (λ x. eqb x 120) b 60 refl x) (λ limits count. rw x refl)
      (again (Numeral content kept true false 0) frames count around bs (omega arith) (omega arith) (omega arith) s)
  | inr x ↦
      judged_same n (Hash content kept) (Numeral content kept false false 0) frames count around b bs (λ limits count. rw x refl)
      (numeral_measured n content kept false false 0 frames count around b bs room s again)
]

-- after `<value>`
opened_measured : (n : ℕ) (white : List ℕ) (frames : List Frame) (count around b : ℕ) (bs : List ℕ) → Room n frames count (b ∷ bs) → Inside frames around → Shorter n frames count (b ∷ bs)
    → Judged n (Opened white) frames count around (b ∷ bs)
opened_measured n white frames count around b bs room s again = elim (cases_Bool (is_white b)) [
  | inl w ↦
      judged_step n (Opened white) (Opened (white ++ b ∷ [])) frames count around b bs (white_free b w) (λ limits count. rw w refl)
      (again (Opened (white ++ b ∷ [])) frames count around bs (omega arith) (omega arith) (omega arith) s)
  | inr w ↦ elim (cases_Bool (eqb b 60)) [
    | inl e ↦
        judged_same n (Opened white) (Within (AtForm white) (words_of (tags_of (AtForm white)))) frames count around b bs (λ limits count. rw (w, e) refl)
        (tag_measured n (AtForm white) frames count around b bs room s again)
    | inr e ↦
        judged_same n (Opened white) (Chars InBare white Character) frames count around b bs (λ limits count. rw (w, e) refl)
        (chars_measured n InBare white Character frames count around b bs room s again)
  ]
]

sign_measured : (n : ℕ) (short negative : Bool) (sign : Sign) (m : ℕ) (frames : List Frame) (count around b : ℕ) (bs : List ℕ) → Room n frames count (b ∷ bs) → Inside frames around → Shorter n frames count (b ∷ bs)
    → is_ascii_digit b ≡ false → Judged n (Digits short negative sign m) frames count around (b ∷ bs)
sign_measured n short negative Fresh m frames count around b bs room s again d = elim (cases_Bool (eqb b 45)) [
  | inl x ↦
      judged_step n (Digits short negative Fresh m) (Digits short true Signed m) frames count around b bs (other_than (λ x. eqb x 45) b 60 refl x) (λ limits count. rw (d, x) refl)
      (again (Digits short true Signed m) frames count around bs (omega arith) (omega arith) (omega arith) s)
  | inr x ↦ elim (cases_Bool (eqb b 43)) [
    | inl y ↦
        judged_step n (Digits short negative Fresh m) (Digits short false Signed m) frames count around b bs (other_than (λ x. eqb x 43) b 60 refl y) (λ limits count. rw (d, x, y) refl)
        (again (Digits short false Signed m) frames count around bs (omega arith) (omega arith) (omega arith) s)
    | inr y ↦ let lower = room.1 in judged_bad n (Digits short negative Fresh m) frames count around b bs (omega arith) (λ limits count. rw (d, x, y) refl)
  ]
]
sign_measured n short negative Signed m frames count around b bs room s again d = let lower = room.1 in judged_bad n (Digits short negative Signed m) frames count around b bs (omega arith) (λ limits count. rw d refl)
sign_measured n short negative Counted m frames count around b bs room s again d =
    let place = AtIntegerEnd short (signed negative m) in
    judged_same n (Digits short negative Counted m) (Within place (words_of (tags_of place))) frames count around b bs (λ limits count. rw d refl)
    (tag_measured n place frames count around b bs room (integer_place short (signed negative m) frames around s) again)
  where
    integer_place : (short : Bool) (number : ℤ) (frames : List Frame) (around : ℕ) → Inside frames around → in_place (AtIntegerEnd short number) frames around
    integer_place short number frames around s = s

-- in an integer
digits_measured : (n : ℕ) (short negative : Bool) (sign : Sign) (m : ℕ) (frames : List Frame) (count around b : ℕ) (bs : List ℕ) → Room n frames count (b ∷ bs) → Inside frames around → Shorter n frames count (b ∷ bs)
    → Judged n (Digits short negative sign m) frames count around (b ∷ bs)
digits_measured n short negative sign m frames count around b bs room s again = elim (cases_Bool (is_ascii_digit b)) [
  | inl d ↦ elim (cases_Bool (leb (m * 10 + (b - 48)) (most_of negative))) [
    | inl l ↦
        judged_step n (Digits short negative sign m) (Digits short negative Counted (m * 10 + (b - 48))) frames count around b bs (other_than is_ascii_digit b 60 refl d) (λ limits count. rw (d, l) refl)
        (again (Digits short negative Counted (m * 10 + (b - 48))) frames count around bs (omega arith) (omega arith) (omega arith) s)
    | inr l ↦ let lower = room.1 in judged_bad n (Digits short negative sign m) frames count around b bs (omega arith) (λ limits count. rw (d, l) refl)
  ]
  | inr d ↦ sign_measured n short negative sign m frames count around b bs room s again d
]

abbrev truth_end : Bool → Control
truth_end b = Within (AtTruthEnd b) (words_of (tags_of (AtTruthEnd b)))

-- before the digit of a boolean
truth_measured : (n : ℕ) (frames : List Frame) (count around b : ℕ) (bs : List ℕ) → Room n frames count (b ∷ bs) → Inside frames around → Shorter n frames count (b ∷ bs)
    → Judged n TruthDigit frames count around (b ∷ bs)
truth_measured n frames count around b bs room s again = elim (cases_Bool (eqb b 48)) [
  | inl x ↦
      judged_step n TruthDigit (truth_end false) frames count around b bs (other_than (λ x. eqb x 48) b 60 refl x) (λ limits count. rw x refl)
      (again (truth_end false) frames count around bs (omega arith) (omega arith) (omega arith) (s, refl))
  | inr x ↦ elim (cases_Bool (eqb b 49)) [
    | inl y ↦
        judged_step n TruthDigit (truth_end true) frames count around b bs (other_than (λ x. eqb x 49) b 60 refl y) (λ limits count. rw (x, y) refl)
        (again (truth_end true) frames count around bs (omega arith) (omega arith) (omega arith) (s, refl))
    | inr y ↦ let lower = room.1 in judged_bad n TruthDigit frames count around b bs (omega arith) (λ limits count. rw (x, y) refl)
  ]
]

byte_measured : (n : ℕ) (control : Control) (frames : List Frame) (count around b : ℕ) (bs : List ℕ) → Room n frames count (b ∷ bs) → Stands control frames around → Shorter n frames count (b ∷ bs)
    → Judged n control frames count around (b ∷ bs)
byte_measured n (At place) frames count around b bs room s again = place_measured n place frames count around b bs room s again
byte_measured n (Within place words) frames count around b bs room s again =
    subst (λ (x : List (List ℕ × Tag)). Judged n (Within place x) frames count around (b ∷ bs)) (sym s.1) (tag_measured n place frames count around b bs room s.0 again)
byte_measured n (Close place) frames count around b bs room s again = close_measured n place frames count around b bs room s again
byte_measured n (Chars content kept awaits) frames count around b bs room s again = chars_measured n content kept awaits frames count around b bs room s again
byte_measured n (Hash content kept) frames count around b bs room s again = hash_measured n content kept frames count around b bs room s again
byte_measured n (Numeral content kept hex seen m) frames count around b bs room s again = numeral_measured n content kept hex seen m frames count around b bs room s again
byte_measured n (Opened white) frames count around b bs room s again = opened_measured n white frames count around b bs room s again
byte_measured n (Digits short negative sign m) frames count around b bs room s again = digits_measured n short negative sign m frames count around b bs room s again
byte_measured n TruthDigit frames count around b bs room s again = truth_measured n frames count around b bs room s again
byte_measured n (Prolog document question awaits) frames count around b bs room s again = absurd s
byte_measured n Stuck frames count around b bs room s again = let lower = room.1 in judged_bad n Stuck frames count around b bs (omega arith) (λ limits count. refl)

-- from whatever place
pub measured : (fuel n : ℕ) (control : Control) (frames : List Frame) (count around : ℕ) (bs : List ℕ) → length bs ≤ fuel → Room n frames count bs → Stands control frames around → Judged n control frames count around bs
measured fuel n control frames count around [] l room s = let lower = room.1 in judged_end n control frames count around (omega arith)
measured zero n control frames count around (b ∷ bs) l room s = absurd (omega arith)
measured (suc fuel) n control frames count around (b ∷ bs) l room s =
    let fewer = room.0 in
    let lower = room.1 in
    byte_measured n control frames count around b bs room s
    (λ control2 frames2 count2 around2 rest less f k h. measured fuel n control2 frames2 count2 around2 rest (omega arith) (omega arith, omega arith) h)
