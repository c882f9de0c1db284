-- Which tag was read, where a text is read from before a tag, within one, or at the end of a closing tag.
use Rattle.std.proofs.Common.{◌≡◌, ℕ, suc, true, leb, ltb, eqb, List, [], ◌∷◌, ◌++◌, length, Result, Ok, Err, min, inl, inr, refl, sym, ap, ◌∙◌, subst, append_assoc, codes, ◌⊎◌}
use Rattle.std.proofs.lemmas.Bool.{cases_Bool, eqb-true}
use Rattle.sv_xmlcall.specs.Tags.{spelling, word_at, or_later, tag_from, tag_at}
use Rattle.sv_xmlcall.specs.Spelled.{Spelled, is_white}
use Rattle.sv_xmlcall.specs.Spells.{IsWhite, Ending, IsEnding, printed_shut, printed_end}
use Rattle.sv_xmlcall.specs.Machine.{Limits, Expecting, AtDone, AtStart, Frame, Step, Go, Bad, Deep, Read, NotRead, TooMany, TooDeep, At, Within, Close, Opened, at, goes, enter, leave, finished, tags_of, words_of, run, on_step, unless_many, open_value, empty_value, after_value, counted}
use Rattle.sv_xmlcall.specs.Trees.{text}
use Rattle.sv_xmlcall.specs.Running.{IsOpen}
use Rattle.sv_xmlcall.specs.declared.tag.Tag.{Tag}
use Rattle.sv_xmlcall.proofs.Words.{tag_words, run_within, follow}
use Rattle.sv_xmlcall.proofs.Runs.{fit}

-- the text that is left is read to its end from this step
abbrev pub Continues : Limits → Step → List ℕ → Spelled → Type 0
Continues limits (Go s) rest spelled = run limits s rest ≡ Read spelled
Continues limits Bad rest spelled = ⊥
Continues limits Deep rest spelled = ⊥

many_read : (spelled : Spelled) → TooMany ≡ Read spelled → ⊥
many_read spelled e = cc e

left_read : (m : ℕ) (spelled : Spelled) → NotRead m ≡ Read spelled → ⊥
left_read m spelled e = cc e

deep_read : (spelled : Spelled) → TooDeep ≡ Read spelled → ⊥
deep_read spelled e = cc e

pub not_read : (limits : Limits) (count m : ℕ) (spelled : Spelled) → unless_many limits count (NotRead m) ≡ Read spelled → ⊥
not_read limits count m spelled e = elim (cases_Bool (ltb limits.values count)) [
  | inl f ↦ let g : TooMany ≡ Read spelled = rw f at e in many_read spelled g
  | inr f ↦ let g : NotRead m ≡ Read spelled = rw f at e in left_read m spelled g
]

pub continues : (limits : Limits) (step : Step) (count m : ℕ) (rest : List ℕ) (spelled : Spelled)
    → on_step step (λ s. run limits s rest) (unless_many limits count (NotRead m)) ≡ Read spelled → Continues limits step rest spelled
continues limits (Go s) count m rest spelled e = e
continues limits Bad count m rest spelled e = not_read limits count m spelled e
continues limits Deep count m rest spelled e = deep_read spelled e

abbrev pub IsOneOf : Tag → List Tag → Type 0
IsOneOf t [] = ⊥
IsOneOf t (u ∷ tags) = (t ≡ u) ⊎ IsOneOf t tags

-- a tag of a place was read
pub record Entered (limits : Limits) (place : Expecting) (frames : List Frame) (count : ℕ) (bs : List ℕ) (spelled : Spelled) : Type 0 where
  pub t : Tag
  pub one_of : IsOneOf t (tags_of place)
  pub rest : List ℕ
  pub parts : bs ≡ spelling t ++ rest
  pub goes : Continues limits (enter limits place t frames count) rest spelled

abbrev Whole : List ℕ → Result (List ℕ) ℕ
Whole rest = Ok rest

abbrev Broken : ℕ → Result (List ℕ) ℕ
Broken left = Err left

whole_is : (x y : List ℕ) → Whole x ≡ Ok y → x ≡ y
whole_is x y e = cc e

broken_not : {P : Type 0} (left : ℕ) (rest : List ℕ) → Broken left ≡ Ok rest → P
broken_not left rest e = cc e

word_back : (w bs rest : List ℕ) → word_at w bs ≡ Ok rest → bs ≡ w ++ rest
word_back [] bs rest e = whole_is bs rest e
word_back (w ∷ ws) [] rest e = broken_not 0 rest e
word_back (w ∷ ws) (b ∷ bs) rest e = elim (cases_Bool (eqb b w)) [
  | inl same ↦
      let more = word_back ws bs rest (rw same at e) in
      ap (λ (x : ℕ). x ∷ bs) (eqb-true b w same) ∙ ap (λ (x : List ℕ). w ∷ x) more
  | inr other ↦ broken_not (suc (length bs)) rest (rw other at e)
]

abbrev Tagged : Tag × List ℕ → Result (Tag × List ℕ) ℕ
Tagged r = Ok r

abbrev NoTag : ℕ → Result (Tag × List ℕ) ℕ
NoTag n = Err n

tagged_is : (x y : Tag × List ℕ) → Tagged x ≡ Ok y → x ≡ y
tagged_is x y e = cc e

not_tag : {P : Type 0} (n : ℕ) (r : Tag × List ℕ) → NoTag n ≡ Ok r → P
not_tag n r e = cc e

abbrev pub Found : List Tag → List ℕ → Tag × List ℕ → Type 0
Found tags bs r = IsOneOf r.0 tags × (bs ≡ spelling r.0 ++ r.1)

later_back : (t : Tag) (tags : List Tag) (least : ℕ) (bs : List ℕ) (w : Result (List ℕ) ℕ) (r : Tag × List ℕ)
    → ((least : ℕ) → tag_from tags least bs ≡ Ok r → Found tags bs r) → word_at (spelling t) bs ≡ w
    → or_later t (λ l. tag_from tags l bs) least w ≡ Ok r → Found (t ∷ tags) bs r
later_back t tags least bs (Ok rest) r again w e =
    subst (λ (x : Tag × List ℕ). Found (t ∷ tags) bs x) (tagged_is (t, rest) r e) (inl refl, word_back (spelling t) bs rest w)
later_back t tags least bs (Err left) r again w e = let f = again (min least left) e in (inr f.0, f.1)

pub tag_back : (tags : List Tag) (least : ℕ) (bs : List ℕ) (r : Tag × List ℕ) → tag_from tags least bs ≡ Ok r → Found tags bs r
tag_back [] least bs r e = not_tag least r e
tag_back (t ∷ tags) least bs r e = later_back t tags least bs (word_at (spelling t) bs) r (λ l f. tag_back tags l bs r f) refl e

pub run_tag : (limits : Limits) (place : Expecting) (frames : List Frame) (count : ℕ) (bs : List ℕ)
    → run limits (at (Within place (words_of (tags_of place))) frames count) bs ≡ follow limits place frames count (tag_at (tags_of place) bs)
run_tag limits place frames count bs =
    let f = fit place in
    run_within limits place frames count bs (words_of (tags_of place)) f.full f.apart
    ∙ ap (follow limits place frames count) (sym (tag_words (tags_of place) (length bs) bs))

follow_back : (limits : Limits) (place : Expecting) (frames : List Frame) (count : ℕ) (bs : List ℕ) (spelled : Spelled) (r : Result (Tag × List ℕ) ℕ)
    → tag_at (tags_of place) bs ≡ r → follow limits place frames count r ≡ Read spelled → Entered limits place frames count bs spelled
follow_back limits place frames count bs spelled (Ok r) t e =
    let f = tag_back (tags_of place) (length bs) bs r t in
    record { t = r.0; one_of = f.0; rest = r.1; parts = f.1; goes = continues limits (enter limits place r.0 frames count) count (suc (length r.1)) r.1 spelled e }
follow_back limits place frames count bs spelled (Err left) t e = absurd (not_read limits count left spelled e)

-- within a tag of which nothing is read
pub entered : (limits : Limits) (place : Expecting) (frames : List Frame) (count : ℕ) (bs : List ℕ) (spelled : Spelled)
    → run limits (at (Within place (words_of (tags_of place))) frames count) bs ≡ Read spelled → Entered limits place frames count bs spelled
entered limits place frames count bs spelled e =
    follow_back limits place frames count bs spelled (tag_at (tags_of place) bs) refl (sym (run_tag limits place frames count bs) ∙ e)

pub open_end : (place : Expecting) → IsOpen place → finished (At place) ≡ NotRead 0
open_end (AtDone spelled) o = absurd o
open_end (AtStart document) o = refl
open_end place o = refl

-- white space and a tag of a place were read
pub record Ahead (limits : Limits) (place : Expecting) (frames : List Frame) (count : ℕ) (bs : List ℕ) (spelled : Spelled) : Type 0 where
  pub gap : List ℕ
  pub white : IsWhite gap
  pub t : Tag
  pub one_of : IsOneOf t (tags_of place)
  pub rest : List ℕ
  pub parts : bs ≡ gap ++ spelling t ++ rest
  pub goes : Continues limits (enter limits place t frames count) rest spelled

-- before a tag
pub ahead : (limits : Limits) (place : Expecting) (frames : List Frame) (count : ℕ) (bs : List ℕ) (spelled : Spelled) → IsOpen place
    → run limits (at (At place) frames count) bs ≡ Read spelled → Ahead limits place frames count bs spelled
ahead limits place frames count [] spelled o e =
    absurd (not_read limits count 0 spelled (ap (unless_many limits count) (sym (open_end place o)) ∙ e))
ahead limits place frames count (b ∷ bs) spelled o e = elim (cases_Bool (is_white b)) [
  | inl w ↦
      let a = ahead limits place frames count bs spelled o (rw w at e) in
      record { gap = b ∷ a.gap; white = rw (w, a.white) refl; t = a.t; one_of = a.one_of; rest = a.rest; parts = ap (λ (x : List ℕ). b ∷ x) a.parts; goes = a.goes }
  | inr w ↦
      let n = entered limits place frames count (b ∷ bs) spelled (rw w at e) in
      record { gap = []; white = refl; t = n.t; one_of = n.one_of; rest = n.rest; parts = n.parts; goes = n.goes }
]

-- the end of a closing tag was read
pub record Shut (limits : Limits) (place : Expecting) (frames : List Frame) (count : ℕ) (bs : List ℕ) (spelled : Spelled) : Type 0 where
  pub inside : List ℕ
  pub white : IsWhite inside
  pub rest : List ℕ
  pub parts : bs ≡ inside ++ codes ">" ++ rest
  pub goes : run limits (leave limits place frames count) rest ≡ Read spelled

pub shut_back : (limits : Limits) (place : Expecting) (frames : List Frame) (count : ℕ) (bs : List ℕ) (spelled : Spelled)
    → run limits (at (Close place) frames count) bs ≡ Read spelled → Shut limits place frames count bs spelled
shut_back limits place frames count [] spelled e = absurd (not_read limits count 0 spelled e)
shut_back limits place frames count (b ∷ bs) spelled e = elim (cases_Bool (is_white b)) [
  | inl w ↦
      let a = shut_back limits place frames count bs spelled (rw w at e) in
      record { inside = b ∷ a.inside; white = rw (w, a.white) refl; rest = a.rest; parts = ap (λ (x : List ℕ). b ∷ x) a.parts; goes = a.goes }
  | inr w ↦ elim (cases_Bool (eqb b 62)) [
    | inl f ↦ record { inside = []; white = refl; rest = bs; parts = ap (λ (x : ℕ). x ∷ bs) (eqb-true b 62 f); goes = rw (w, f) at e }
    | inr f ↦ absurd (not_read limits count (suc (length bs)) spelled (rw (w, f) at e))
  ]
]

-- a closing tag was read, and this is left
pub record Ended (limits : Limits) (place : Expecting) (t : Tag) (frames : List Frame) (count : ℕ) (bs : List ℕ) (spelled : Spelled) : Type 0 where
  pub ending : Ending
  pub right : IsEnding ending
  pub rest : List ℕ
  pub parts : bs ≡ printed_end t ending ++ rest
  pub goes : run limits (leave limits place frames count) rest ≡ Read spelled

shut_parts : (s inside rest : List ℕ) → s ++ (inside ++ codes ">" ++ rest) ≡ s ++ inside ++ codes ">" ++ rest
shut_parts s inside rest = simp append_assoc refl

-- a closing tag after white space, of which the name was read
pub close_back : (limits : Limits) (place : Expecting) (t : Tag) (frames : List Frame) (count : ℕ) (gap rest bs : List ℕ) (spelled : Spelled)
    → IsWhite gap → bs ≡ gap ++ spelling t ++ rest → run limits (at (Close place) frames count) rest ≡ Read spelled → Ended limits place t frames count bs spelled
close_back limits place t frames count gap rest bs spelled w p e =
    let s = shut_back limits place frames count rest spelled e in
    record {
      ending = record { before = gap; inside = s.inside };
      right = (w, s.white);
      rest = s.rest;
      parts = p ∙ ap (λ (x : List ℕ). gap ++ spelling t ++ x) s.parts ∙ close_parts gap (spelling t) s.inside s.rest;
      goes = s.goes;
    }
  where
    close_parts : (gap s inside rest : List ℕ) → gap ++ s ++ (inside ++ codes ">" ++ rest) ≡ gap ++ (s ++ inside ++ codes ">") ++ rest
    close_parts gap s inside rest = simp append_assoc refl

-- a place at which one closing tag stands alone
pub record Alone (limits : Limits) (place : Expecting) (t : Tag) : Type 0 where
  pub only : tags_of place ≡ t ∷ []
  pub goes_on : IsOpen place
  pub shut : (frames : List Frame) (count : ℕ) → enter limits place t frames count ≡ goes (Close place) frames count

pub only_one : (t u : Tag) (tags : List Tag) → tags ≡ u ∷ [] → IsOneOf t tags → t ≡ u
only_one t u tags e o = last (subst (λ (x : List Tag). IsOneOf t x) e o)
  where
    last : {t u : Tag} → (t ≡ u) ⊎ ⊥ → t ≡ u
    last (inl e) = e
    last (inr e) = absurd e

pub end_back : (limits : Limits) (place : Expecting) (t : Tag) (frames : List Frame) (count : ℕ) (bs : List ℕ) (spelled : Spelled) → Alone limits place t
    → run limits (at (At place) frames count) bs ≡ Read spelled → Ended limits place t frames count bs spelled
end_back limits place t frames count bs spelled one e =
    let a = ahead limits place frames count bs spelled one.goes_on e in
    let is : a.t ≡ t = only_one a.t t (tags_of place) one.only a.one_of in
    let go : Continues limits (goes (Close place) frames count) a.rest spelled =
    subst (λ (x : Step). Continues limits x a.rest spelled) (one.shut frames count)
    (subst (λ (x : Tag). Continues limits (enter limits place x frames count) a.rest spelled) is a.goes) in
    close_back limits place t frames count a.gap a.rest bs spelled a.white (a.parts ∙ ap (λ (x : Tag). a.gap ++ spelling x ++ a.rest) is) go

-- a closing tag right after a text was read
pub record ShutBehind (limits : Limits) (place : Expecting) (t : Tag) (frames : List Frame) (count : ℕ) (bs : List ℕ) (spelled : Spelled) : Type 0 where
  pub inside : List ℕ
  pub white : IsWhite inside
  pub rest : List ℕ
  pub parts : bs ≡ printed_shut t inside ++ rest
  pub goes : run limits (leave limits place frames count) rest ≡ Read spelled

pub shut_behind : (limits : Limits) (place : Expecting) (t : Tag) (frames : List Frame) (count : ℕ) (bs : List ℕ) (spelled : Spelled) → Alone limits place t
    → run limits (at (Within place (words_of (tags_of place))) frames count) bs ≡ Read spelled → ShutBehind limits place t frames count bs spelled
shut_behind limits place t frames count bs spelled one e =
    let a = entered limits place frames count bs spelled e in
    let is : a.t ≡ t = only_one a.t t (tags_of place) one.only a.one_of in
    let go : Continues limits (goes (Close place) frames count) a.rest spelled =
    subst (λ (x : Step). Continues limits x a.rest spelled) (one.shut frames count)
    (subst (λ (x : Tag). Continues limits (enter limits place x frames count) a.rest spelled) is a.goes) in
    let s = shut_back limits place frames count a.rest spelled go in
    record {
      inside = s.inside;
      white = s.white;
      rest = s.rest;
      parts = a.parts ∙ ap (λ (x : Tag). spelling x ++ a.rest) is ∙ ap (λ (x : List ℕ). spelling t ++ x) s.parts ∙ shut_parts (spelling t) s.inside s.rest;
      goes = s.goes;
    }

-- a value that is opened stands inside fewer than the most
pub opened_back : (limits : Limits) (frames : List Frame) (count : ℕ) (rest : List ℕ) (spelled : Spelled) → Continues limits (open_value limits frames count) rest spelled
    → (leb (length frames) limits.nesting ≡ true) × (run limits (at (Opened []) frames (counted limits count)) rest ≡ Read spelled)
opened_back limits frames count rest spelled c = elim (cases_Bool (leb (length frames) limits.nesting)) [
  | inl l ↦ (l, rw l at c)
  | inr l ↦ let bad : ⊥ = rw l at c in absurd bad
]

pub emptied_back : (limits : Limits) (frames : List Frame) (count : ℕ) (rest : List ℕ) (spelled : Spelled) → Continues limits (empty_value limits frames count) rest spelled
    → (leb (length frames) limits.nesting ≡ true) × (run limits (after_value limits (text []) frames (counted limits count)) rest ≡ Read spelled)
emptied_back limits frames count rest spelled c = elim (cases_Bool (leb (length frames) limits.nesting)) [
  | inl l ↦ (l, rw l at c)
  | inr l ↦ let bad : ⊥ = rw l at c in absurd bad
]
