-- Prefixes of texts: where reading is refused within a tag, the bytes before begin the tag.
use Rattle.std.proofs.Common.{◌≡◌, ℕ, suc, true, eqb, List, [], ◌∷◌, ◌++◌, length, Result, Ok, Err, min, inl, inr, refl, sym, ap, ◌∙◌, arith, append_assoc, codes, ◌⊎◌}
use Rattle.std.proofs.lemmas.Bool.{cases_Bool, cases_lt, eqb-true}
use Rattle.sv_xmlcall.specs.Tags.{spelling, word_at, or_later, tag_from, tag_at}
use Rattle.sv_xmlcall.specs.Spelled.{is_white}
use Rattle.sv_xmlcall.specs.Spells.{IsWhite}
use Rattle.sv_xmlcall.specs.Machine.{Limits, Expecting, Frame, Step, NotRead, At, Within, Close, at, enter, leave, tags_of, words_of, run, on_step, unless_many}
use Rattle.sv_xmlcall.specs.Running.{IsOpen}
use Rattle.sv_xmlcall.specs.declared.tag.Tag.{Tag}
use Rattle.sv_xmlcall.proofs.Words.{follow}
use Rattle.sv_xmlcall.proofs.TagsBack.{IsOneOf, run_tag, tag_back, open_end}
use Rattle.sv_xmlcall.proofs.RefusedLaws.{unless_left}

-- these bytes begin a text
abbrev pub IsFront : List ℕ → List ℕ → Type 0
IsFront front text = (more : List ℕ) × (front ++ more ≡ text)

pub front_none : (text : List ℕ) → IsFront [] text
front_none text = (text, refl)

pub front_on : (g a b : List ℕ) → IsFront g a → IsFront g (a ++ b)
front_on g a b f = (f.0 ++ b, sym (append_assoc g f.0 b) ∙ ap (λ (x : List ℕ). x ++ b) f.1)

pub front_behind : (a g t : List ℕ) → IsFront g t → IsFront (a ++ g) (a ++ t)
front_behind a g t f = (f.0, append_assoc a g f.0 ∙ ap (λ (x : List ℕ). a ++ x) f.1)

pub front_to : (g a b : List ℕ) → IsFront g a → a ≡ b → IsFront g b
front_to g a b f e = (f.0, f.1 ∙ e)

-- the bytes before those that are left have a property
pub record Good (P : List ℕ → Type 0) (bs : List ℕ) (left : ℕ) : Type 0 where
  pub front : List ℕ
  pub bad : List ℕ
  pub parts : bs ≡ front ++ bad
  pub size : length bad ≡ left
  pub good : P front

pub good_here : (P : List ℕ → Type 0) (bs : List ℕ) (left : ℕ) → length bs ≡ left → P [] → Good P bs left
good_here P bs left l p = record { front = []; bad = bs; parts = refl; size = l; good = p }

pub good_behind : (P : List ℕ → Type 0) (a rest bs : List ℕ) (left : ℕ) → bs ≡ a ++ rest → Good (λ g. P (a ++ g)) rest left → Good P bs left
good_behind P a rest bs left e g =
    record { front = a ++ g.front; bad = g.bad; parts = e ∙ ap (λ (x : List ℕ). a ++ x) g.parts ∙ sym (append_assoc a g.front g.bad); size = g.size; good = g.good }

pub good_to : (P Q : List ℕ → Type 0) (bs : List ℕ) (left : ℕ) → ((g : List ℕ) → P g → Q g) → Good P bs left → Good Q bs left
good_to P Q bs left f g = record { front = g.front; bad = g.bad; parts = g.parts; size = g.size; good = f g.front g.good }

-- reading is refused after this step, where so many bytes are left
abbrev pub Halts : Limits → Step → ℕ → List ℕ → ℕ → Type 0
Halts limits step count rest left = on_step step (λ s. run limits s rest) (unless_many limits count (NotRead (suc (length rest)))) ≡ NotRead left

-- these bytes begin a word, and are not all of it
abbrev pub IsPart : List ℕ → List ℕ → Type 0
IsPart front word = (next : ℕ) × ((more : List ℕ) × (front ++ next ∷ more ≡ word))

pub part_front : (front word : List ℕ) → IsPart front word → IsFront front word
part_front front word p = (p.0 ∷ p.1.0, p.1.1)

-- a word breaks off
pub record WordBroken (w bs : List ℕ) (left : ℕ) : Type 0 where
  pub front : List ℕ
  pub bad : List ℕ
  pub parts : bs ≡ front ++ bad
  pub size : length bad ≡ left
  pub part : IsPart front w

abbrev Whole : List ℕ → Result (List ℕ) ℕ
Whole rest = Ok rest

abbrev Broken : ℕ → Result (List ℕ) ℕ
Broken left = Err left

whole_not : {P : Type 0} (rest : List ℕ) (left : ℕ) → Whole rest ≡ Err left → P
whole_not rest left e = cc e

broken_is : (x y : ℕ) → Broken x ≡ Err y → x ≡ y
broken_is x y e = cc e

word_broken : (w bs : List ℕ) (left : ℕ) → word_at w bs ≡ Err left → WordBroken w bs left
word_broken [] bs left e = whole_not bs left e
word_broken (w ∷ ws) [] left e = record { front = []; bad = []; parts = refl; size = broken_is 0 left e; part = (w, (ws, refl)) }
word_broken (w ∷ ws) (b ∷ bs) left e = elim (cases_Bool (eqb b w)) [
  | inl same ↦ word_more w ws b bs left (eqb-true b w same) (word_broken ws bs left (rw same at e))
  | inr other ↦ record { front = []; bad = b ∷ bs; parts = refl; size = broken_is (suc (length bs)) left (rw other at e); part = (w, (ws, refl)) }
]
  where
    word_more : (w : ℕ) (ws : List ℕ) (b : ℕ) (bs : List ℕ) (left : ℕ) → b ≡ w → WordBroken ws bs left → WordBroken (w ∷ ws) (b ∷ bs) left
    word_more w ws b bs left is m = record {
      front = w ∷ m.front;
      bad = m.bad;
      parts = ap (λ (x : ℕ). x ∷ bs) is ∙ ap (λ (x : List ℕ). w ∷ x) m.parts;
      size = m.size;
      part = (m.part.0, (m.part.1.0, ap (λ (x : List ℕ). w ∷ x) m.part.1.1));
    }

-- one of some tags breaks off
pub record TagBroken (tags : List Tag) (bs : List ℕ) (left : ℕ) : Type 0 where
  pub t : Tag
  pub one_of : IsOneOf t tags
  pub word : WordBroken (spelling t) bs left

abbrev Tagged : Tag × List ℕ → Result (Tag × List ℕ) ℕ
Tagged r = Ok r

abbrev NoTag : ℕ → Result (Tag × List ℕ) ℕ
NoTag n = Err n

tagged_not : {P : Type 0} (r : Tag × List ℕ) (left : ℕ) → Tagged r ≡ Err left → P
tagged_not r left e = cc e

no_tag_is : (x y : ℕ) → NoTag x ≡ Err y → x ≡ y
no_tag_is x y e = cc e

later_broken : (t : Tag) (tags : List Tag) (least : ℕ) (bs : List ℕ) (left : ℕ) (w : Result (List ℕ) ℕ)
    → ((least : ℕ) → tag_from tags least bs ≡ Err left → (left ≡ least) ⊎ TagBroken tags bs left) → word_at (spelling t) bs ≡ w
    → or_later t (λ l. tag_from tags l bs) least w ≡ Err left → (left ≡ least) ⊎ TagBroken (t ∷ tags) bs left
later_broken t tags least bs left (Ok rest) again w e = tagged_not (t, rest) left e
later_broken t tags least bs left (Err l) again w e = lift t tags least bs left l w (again (min least l) e)
  where
    lift : (t : Tag) (tags : List Tag) (least : ℕ) (bs : List ℕ) (left l : ℕ) → word_at (spelling t) bs ≡ Err l
        → (left ≡ min least l) ⊎ TagBroken tags bs left → (left ≡ least) ⊎ TagBroken (t ∷ tags) bs left
    lift t tags least bs left l w (inr b) = inr (record { t = b.t; one_of = inr b.one_of; word = b.word })
    lift t tags least bs left l w (inl is) = elim (cases_lt l least) [
      | inl h ↦ let same : l ≡ left = omega arith in inr (record { t = t; one_of = inl refl; word = word_broken (spelling t) bs left (w ∙ ap Broken same) })
      | inr h ↦ inl (omega arith)
    ]

pub tag_broken : (tags : List Tag) (least : ℕ) (bs : List ℕ) (left : ℕ) → tag_from tags least bs ≡ Err left → (left ≡ least) ⊎ TagBroken tags bs left
tag_broken [] least bs left e = inl (sym (no_tag_is least left e))
tag_broken (t ∷ tags) least bs left e = later_broken t tags least bs left (word_at (spelling t) bs) (λ l f. tag_broken tags l bs left f) refl e

-- some tag may stand at a place
abbrev pub SomeTag : Expecting → Type 0
SomeTag place = (t : Tag) × IsOneOf t (tags_of place)

-- what holds of each prefix of a tag of a place
abbrev pub FrontsOf : Expecting → (List ℕ → Type 0) → Type 0
FrontsOf place P = (t : Tag) → IsOneOf t (tags_of place) → (g : List ℕ) → IsFront g (spelling t) → P g

abbrev pub Behind : Limits → Expecting → List Frame → ℕ → List ℕ → ℕ → (List ℕ → Type 0) → Type 0
Behind limits place frames count bs left P = (t : Tag) (rest : List ℕ) → IsOneOf t (tags_of place) → bs ≡ spelling t ++ rest
    → Halts limits (enter limits place t frames count) count rest left → Good (λ g. P (spelling t ++ g)) rest left

within_case : (limits : Limits) (place : Expecting) (frames : List Frame) (count : ℕ) (bs : List ℕ) (left : ℕ) (P : List ℕ → Type 0) → SomeTag place
    → FrontsOf place P → Behind limits place frames count bs left P → (r : Result (Tag × List ℕ) ℕ) → tag_at (tags_of place) bs ≡ r
    → follow limits place frames count r ≡ NotRead left → Good P bs left
within_case limits place frames count bs left P some fail more (Ok r) q e =
    let f = tag_back (tags_of place) (length bs) bs r q in
    good_behind P (spelling r.0) r.1 bs left f.1 (more r.0 r.1 f.0 f.1 e)
within_case limits place frames count bs left P some fail more (Err l) q e =
    let is = (unless_left limits count l left e).1 in
    broken_case (tag_broken (tags_of place) (length bs) bs left (q ∙ ap NoTag is))
  where
    broken_case : (left ≡ length bs) ⊎ TagBroken (tags_of place) bs left → Good P bs left
    broken_case (inl l) = good_here P bs left (sym l) (fail some.0 some.1 [] (front_none (spelling some.0)))
    broken_case (inr b) = record { front = b.word.front; bad = b.word.bad; parts = b.word.parts; size = b.word.size; good = fail b.t b.one_of b.word.front (part_front b.word.front (spelling b.t) b.word.part) }

-- within a tag of which nothing is read
pub within_front : (limits : Limits) (place : Expecting) (frames : List Frame) (count : ℕ) (bs : List ℕ) (left : ℕ) (P : List ℕ → Type 0) → SomeTag place
    → FrontsOf place P → Behind limits place frames count bs left P
    → run limits (at (Within place (words_of (tags_of place))) frames count) bs ≡ NotRead left → Good P bs left
within_front limits place frames count bs left P some fail more e =
    within_case limits place frames count bs left P some fail more (tag_at (tags_of place) bs) refl (sym (run_tag limits place frames count bs) ∙ e)

abbrev pub GapFronts : Expecting → (List ℕ → Type 0) → Type 0
GapFronts place P = (gap : List ℕ) → IsWhite gap → (t : Tag) → IsOneOf t (tags_of place) → (g : List ℕ) → IsFront g (spelling t) → P (gap ++ g)

abbrev pub GapBehind : Limits → Expecting → List Frame → ℕ → List ℕ → ℕ → (List ℕ → Type 0) → Type 0
GapBehind limits place frames count bs left P = (gap : List ℕ) → IsWhite gap → (t : Tag) (rest : List ℕ) → IsOneOf t (tags_of place) → bs ≡ gap ++ spelling t ++ rest
    → Halts limits (enter limits place t frames count) count rest left → Good (λ g. P (gap ++ spelling t ++ g)) rest left

white_on : (b : ℕ) (gap : List ℕ) → is_white b ≡ true → IsWhite gap → IsWhite (b ∷ gap)
white_on b gap w g = rw (w, g) refl

-- before a tag
pub ahead_front : (limits : Limits) (place : Expecting) (frames : List Frame) (count : ℕ) (bs : List ℕ) (left : ℕ) (P : List ℕ → Type 0) → IsOpen place → SomeTag place
    → GapFronts place P → GapBehind limits place frames count bs left P
    → run limits (at (At place) frames count) bs ≡ NotRead left → Good P bs left
ahead_front limits place frames count [] left P o some fail more e =
    let f : unless_many limits count (NotRead 0) ≡ NotRead left = ap (unless_many limits count) (sym (open_end place o)) ∙ e in
    good_here P [] left (unless_left limits count 0 left f).1 (fail [] refl some.0 some.1 [] (front_none (spelling some.0)))
ahead_front limits place frames count (b ∷ bs) left P o some fail more e = elim (cases_Bool (is_white b)) [
  | inl w ↦
      good_behind P (b ∷ []) bs (b ∷ bs) left refl
      (ahead_front limits place frames count bs left (λ g. P (b ∷ g)) o some
      (λ gap h t i g f. fail (b ∷ gap) (white_on b gap w h) t i g f)
      (λ gap h t rest i p f. more (b ∷ gap) (white_on b gap w h) t rest i (ap (λ (x : List ℕ). b ∷ x) p) f)
      (rw w at e))
  | inr w ↦
      within_front limits place frames count (b ∷ bs) left P some (λ t i g f. fail [] refl t i g f)
      (λ t rest i p f. more [] refl t rest i p f) (rw w at e)
]

abbrev pub ShutBehind : Limits → Expecting → List Frame → ℕ → List ℕ → ℕ → (List ℕ → Type 0) → Type 0
ShutBehind limits place frames count bs left P = (inside : List ℕ) → IsWhite inside → (rest : List ℕ) → bs ≡ inside ++ codes ">" ++ rest
    → run limits (leave limits place frames count) rest ≡ NotRead left → Good (λ g. P (inside ++ codes ">" ++ g)) rest left

-- at the end of a closing tag
pub close_front : (limits : Limits) (place : Expecting) (frames : List Frame) (count : ℕ) (bs : List ℕ) (left : ℕ) (P : List ℕ → Type 0)
    → ((inside : List ℕ) → IsWhite inside → P inside) → ShutBehind limits place frames count bs left P
    → run limits (at (Close place) frames count) bs ≡ NotRead left → Good P bs left
close_front limits place frames count [] left P fail more e = good_here P [] left (unless_left limits count 0 left e).1 (fail [] refl)
close_front limits place frames count (b ∷ bs) left P fail more e = elim (cases_Bool (is_white b)) [
  | inl w ↦
      good_behind P (b ∷ []) bs (b ∷ bs) left refl
      (close_front limits place frames count bs left (λ g. P (b ∷ g)) (λ inside h. fail (b ∷ inside) (white_on b inside w h))
      (λ inside h rest p f. more (b ∷ inside) (white_on b inside w h) rest (ap (λ (x : List ℕ). b ∷ x) p) f)
      (rw w at e))
  | inr w ↦ elim (cases_Bool (eqb b 62)) [
    | inl c ↦
        let is = eqb-true b 62 c in
        good_behind P (codes ">") bs (b ∷ bs) left (ap (λ (x : ℕ). x ∷ bs) is) (more [] refl bs (ap (λ (x : ℕ). x ∷ bs) is) (rw (w, c) at e))
    | inr c ↦ good_here P (b ∷ bs) left (unless_left limits count (suc (length bs)) left (rw (w, c) at e)).1 (fail [] refl)
  ]
]
