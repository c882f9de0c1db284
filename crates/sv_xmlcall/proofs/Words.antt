-- Reading one of some words byte by byte is reading it word by word, where none of them begins another.
use Rattle.std.proofs.Common.{◌≡◌, ℕ, suc, ◌≤◌, Bool, true, false, not, ◌&&◌, ◌||◌, eqb, List, [], ◌∷◌, length, min, Result, Ok, Err, inl, inr, refl, sym, ap, ◌∙◌, arith, subst}
use Rattle.std.proofs.lemmas.Bool.{cases_Bool, and_parts, eqb-true}
use Rattle.sv_xmlcall.specs.Tags.{spelling, word_at, or_later, tag_from}
use Rattle.sv_xmlcall.specs.Machine.{Limits, Expecting, Frame, Verdict, NotRead, Within, at, words_of, going_on, within, enter, run, on_step, unless_many}
use Rattle.sv_xmlcall.specs.declared.tag.Tag.{Tag}

-- a word and what it stands for
abbrev pub Word : Type 0
Word = List ℕ × Tag

abbrev pub words_from : List Word → ℕ → List ℕ → Result (Tag × List ℕ) ℕ
words_from [] least bs = Err least
words_from ((w, t) ∷ words) least bs = or_later t (λ l. words_from words l bs) least (word_at w bs)

or_later_same : (t : Tag) (f g : ℕ → Result (Tag × List ℕ) ℕ) (least : ℕ) (r : Result (List ℕ) ℕ) → ((l : ℕ) → f l ≡ g l) → or_later t f least r ≡ or_later t g least r
or_later_same t f g least (Ok rest) h = refl
or_later_same t f g least (Err left) h = h (min least left)

pub tag_words : (tags : List Tag) (least : ℕ) (bs : List ℕ) → tag_from tags least bs ≡ words_from (words_of tags) least bs
tag_words [] least bs = refl
tag_words (t ∷ tags) least bs =
    or_later_same t (λ l. tag_from tags l bs) (λ l. words_from (words_of tags) l bs) least (word_at (spelling t) bs) (λ l. tag_words tags l bs)

abbrev pub is_front : List ℕ → List ℕ → Bool
is_front [] v = true
is_front (w ∷ ws) [] = false
is_front (w ∷ ws) (v ∷ vs) = eqb w v && is_front ws vs

abbrev pub conflict : List ℕ → List ℕ → Bool
conflict w v = is_front w v || is_front v w

abbrev pub clashes : List ℕ → List Word → Bool
clashes w [] = false
clashes w ((v, t) ∷ words) = conflict w v || clashes w words

-- none of the words begins another
abbrev pub parted : List Word → Bool
parted [] = true
parted ((w, t) ∷ words) = not (clashes w words) && parted words

-- none of them is empty
abbrev pub nonempty : List Word → Bool
nonempty [] = true
nonempty (([], t) ∷ words) = false
nonempty ((w ∷ ws, t) ∷ words) = nonempty words

or_false : (a b : Bool) → (a || b) ≡ false → (a ≡ false) × (b ≡ false)
or_false false false e = (refl, refl)
or_false true b e = cc e
or_false false true e = cc e

not_true : (a : Bool) → not a ≡ true → a ≡ false
not_true false e = refl
not_true true e = cc e

eqb_swap : (a b : ℕ) → eqb a b ≡ true → eqb b a ≡ true
eqb_swap a b e = subst (λ (x : ℕ). eqb x a ≡ true) (eqb-true a b e) (subst (λ (x : ℕ). eqb a x ≡ true) (sym (eqb-true a b e)) e)

clashes_on : (b : ℕ) (ws : List ℕ) (words : List Word) → clashes (b ∷ ws) words ≡ false → clashes ws (going_on b words) ≡ false
clashes_on b ws [] e = refl
clashes_on b ws (([], t) ∷ words) e = clashes_on b ws words (or_false (conflict (b ∷ ws) []) (clashes (b ∷ ws) words) e).1
clashes_on b ws ((v ∷ vs, t) ∷ words) e = elim (cases_Bool (eqb b v)) [
  | inl same ↦
      let both = or_false (conflict (b ∷ ws) (v ∷ vs)) (clashes (b ∷ ws) words) e in
      let rest = clashes_on b ws words both.1 in
      let here : conflict ws vs ≡ false = rw (same, eqb_swap b v same) at both.0 in
      rw (same, here, rest) refl
  | inr other ↦ rw other (clashes_on b ws words (or_false (conflict (b ∷ ws) (v ∷ vs)) (clashes (b ∷ ws) words) e).1)
]

pub parted_on : (b : ℕ) (words : List Word) → parted words ≡ true → parted (going_on b words) ≡ true
parted_on b [] e = refl
parted_on b (([], t) ∷ words) e = parted_on b words (and_parts (not (clashes [] words)) (parted words) e).1
parted_on b ((w ∷ ws, t) ∷ words) e = elim (cases_Bool (eqb b w)) [
  | inl same ↦
      let both = and_parts (not (clashes (w ∷ ws) words)) (parted words) e in
      let is : b ≡ w = eqb-true b w same in
      let free : clashes (b ∷ ws) words ≡ false = subst (λ (x : ℕ). clashes (x ∷ ws) words ≡ false) (sym is) (not_true (clashes (w ∷ ws) words) both.0) in
      rw (same, clashes_on b ws words free, parted_on b words both.1) refl
  | inr other ↦ rw other (parted_on b words (and_parts (not (clashes (w ∷ ws) words)) (parted words) e).1)
]

none_empty : (w : ℕ) (ws : List ℕ) (words : List Word) → clashes (w ∷ ws) words ≡ false → nonempty words ≡ true
none_empty w ws [] e = refl
none_empty w ws (([], t) ∷ words) e = cc e
none_empty w ws ((v ∷ vs, t) ∷ words) e = none_empty w ws words (or_false (conflict (w ∷ ws) (v ∷ vs)) (clashes (w ∷ ws) words) e).1

abbrev Refused : ℕ → Result (List ℕ) ℕ
Refused n = Err n

err_left : (m n : ℕ) → Refused m ≡ Refused n → m ≡ n
err_left m n e = cc e

word_left : (w bs : List ℕ) (left : ℕ) → word_at w bs ≡ Err left → left ≤ length bs
word_left [] bs left e = cc e
word_left (w ∷ ws) [] left e = let h : 0 ≡ left = cc e in omega arith
word_left (w ∷ ws) (b ∷ bs) left e = elim (cases_Bool (eqb b w)) [
  | inl same ↦ let h = word_left ws bs left (rw same at e) in omega arith
  | inr other ↦ let h = err_left (suc (length bs)) left (rw other at e) in omega arith
]

min_bound : (a b c : ℕ) → a ≤ c → min a b ≤ c
min_bound a b c h = omega arith

after_word : (r : Result (List ℕ) ℕ) (words : List Word) (b : ℕ) (bs : List ℕ) (least : ℕ) (t : Tag) → least ≤ suc (length bs)
    → ((m : ℕ) → m ≤ suc (length bs) → words_from words m (b ∷ bs) ≡ words_from (going_on b words) m bs)
    → or_later t (λ l. words_from words l (b ∷ bs)) least r ≡ or_later t (λ l. words_from (going_on b words) l bs) least r
after_word (Ok rest) words b bs least t l again = refl
after_word (Err left) words b bs least t l again = again (min least left) (min_bound least left (suc (length bs)) l)

one_byte : (words : List Word) (b : ℕ) (bs : List ℕ) (least : ℕ) → nonempty words ≡ true → least ≤ suc (length bs)
    → words_from words least (b ∷ bs) ≡ words_from (going_on b words) least bs
one_byte [] b bs least n l = refl
one_byte (([], t) ∷ words) b bs least n l = cc n
one_byte ((w ∷ ws, t) ∷ words) b bs least n l = elim (cases_Bool (eqb b w)) [
  | inl same ↦ rw same (after_word (word_at ws bs) words b bs least t l (λ m h. one_byte words b bs m n h))
  | inr other ↦
      let m : min least (suc (length bs)) ≡ least = omega arith in
      rw (other, m) (one_byte words b bs least n l)
]

least_of : (t : Tag) (f : ℕ → Result (Tag × List ℕ) ℕ) (n : ℕ) (r : Result (List ℕ) ℕ) → ((left : ℕ) → r ≡ Err left → left ≤ n) → or_later t f (suc n) r ≡ or_later t f n r
least_of t f n (Ok rest) h = refl
least_of t f n (Err left) h = let l = h left refl in ap f (omega arith)

one_less : (w : List ℕ) (t : Tag) (words : List Word) (bs : List ℕ) → words_from ((w, t) ∷ words) (suc (length bs)) bs ≡ words_from ((w, t) ∷ words) (length bs) bs
one_less w t words bs = least_of t (λ l. words_from words l bs) (length bs) (word_at w bs) (word_left w bs)

pub nothing_left : (words : List Word) → nonempty words ≡ true → words_from words 0 [] ≡ Err 0
nothing_left [] n = refl
nothing_left (([], t) ∷ words) n = cc n
nothing_left ((w ∷ ws, t) ∷ words) n = nothing_left words n

-- how reading goes on after a tag of a place, or where none stands
abbrev pub follow : Limits → Expecting → List Frame → ℕ → Result (Tag × List ℕ) ℕ → Verdict
follow limits place frames count (Ok r) =
    on_step (enter limits place r.0 frames count) (λ s. run limits s r.1) (unless_many limits count (NotRead (suc (length r.1))))
follow limits place frames count (Err left) = unless_many limits count (NotRead left)

-- what holds of each shorter list
abbrev Shorter : Limits → Expecting → List Frame → ℕ → List ℕ → Type 0
Shorter limits place frames count bs = (words : List Word) → nonempty words ≡ true → parted words ≡ true
    → run limits (at (Within place words) frames count) bs ≡ follow limits place frames count (words_from words (length bs) bs)

one_step : (limits : Limits) (place : Expecting) (frames : List Frame) (count : ℕ) (bs : List ℕ) → Shorter limits place frames count bs
    → (words : List Word) → parted words ≡ true
    → on_step (within limits place words frames count) (λ s. run limits s bs) (unless_many limits count (NotRead (suc (length bs))))
    ≡ follow limits place frames count (words_from words (suc (length bs)) bs)
one_step limits place frames count bs again [] p = refl
one_step limits place frames count bs again (([], t) ∷ words) p = refl
one_step limits place frames count bs again ((w ∷ ws, t) ∷ words) p =
    let n = none_empty w ws words (not_true (clashes (w ∷ ws) words) (and_parts (not (clashes (w ∷ ws) words)) (parted words) p).0) in
    again ((w ∷ ws, t) ∷ words) n p ∙ ap (follow limits place frames count) (sym (one_less (w ∷ ws) t words bs))

pub run_within : (limits : Limits) (place : Expecting) (frames : List Frame) (count : ℕ) (bs : List ℕ) → Shorter limits place frames count bs
run_within limits place frames count [] words n p = ap (follow limits place frames count) (sym (nothing_left words n))
run_within limits place frames count (b ∷ bs) words n p =
    one_step limits place frames count bs (run_within limits place frames count bs) (going_on b words) (parted_on b words p)
    ∙ ap (follow limits place frames count) (sym (one_byte words b bs (suc (length bs)) n (omega arith)))
