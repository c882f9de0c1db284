-- Prefixes of texts: where reading is refused within a text, a number or a closing tag, the bytes before begin one.
use Rattle.std.proofs.Common.{◌≡◌, ℕ, zero, suc, true, false, eqb, List, [], ◌∷◌, ◌++◌, length, inl, inr, refl, sym, ap, ◌∙◌, subst, arith, append_assoc, append-nil, codes, ◌⊎◌}
use Rattle.std.specs.List.{list_all}
use Rattle.std.proofs.lemmas.Bool.{cases_Bool, eqb-true, le-leb}
use Rattle.sv_xmlcall.specs.Tags.{spelling}
use Rattle.sv_letters.specs.Letters.{allows, after, after_continuation, are_letters, is_whole}
use Rattle.sv_xmlcall.specs.Spells.{IsWhite, Ending, IsEnding, printed_shut, printed_end}
use Rattle.sv_xmlcall.specs.Machine.{Limits, Expecting, Content, Frame, Step, NotRead, At, Within, Close, Chars, at, enter, leave, tags_of, words_of, run, is_between, unless_many}
use Rattle.sv_letters.specs.declared.letters.Letters.TheVariants.{OfXml}
use Rattle.sv_letters.specs.declared.letters.Awaits.{Awaits}
use Rattle.sv_letters.specs.declared.letters.Awaits.TheVariants.{Character, Private, Continuation}
use Rattle.sv_letters.proofs.LetterLaws.{IsOpen, after_open}
use Rattle.sv_xmlcall.specs.declared.tag.Tag.{Tag}
use Rattle.sv_xmlcall.proofs.Passing.{in_text, is_free, free_high}
use Rattle.sv_xmlcall.proofs.TagsBack.{IsOneOf, Alone, only_one}
use Rattle.sv_xmlcall.proofs.TextsBack.{between_is}
use Rattle.sv_xmlcall.proofs.RefusedLaws.{unless_left}
use Rattle.sv_xmlcall.proofs.Fronts.{IsFront, front_none, front_on, front_behind, Good, good_here, good_behind, good_to, Halts, within_front, ahead_front, close_front}

abbrev pub EndFronts : Tag → (List ℕ → Type 0) → Type 0
EndFronts t P = (ending : Ending) → IsEnding ending → (g : List ℕ) → IsFront g (printed_end t ending) → P g

abbrev pub EndBehind : Limits → Expecting → Tag → List Frame → ℕ → List ℕ → ℕ → (List ℕ → Type 0) → Type 0
EndBehind limits place t frames count bs left P = (ending : Ending) → IsEnding ending → (rest : List ℕ) → bs ≡ printed_end t ending ++ rest
    → run limits (leave limits place frames count) rest ≡ NotRead left → Good (λ g. P (printed_end t ending ++ g)) rest left

end_parts : (gap s inside rest : List ℕ) → gap ++ s ++ (inside ++ codes ">" ++ rest) ≡ gap ++ (s ++ inside ++ codes ">") ++ rest
end_parts gap s inside rest = simp append_assoc refl

inside_parts : (gap s inside : List ℕ) → gap ++ s ++ inside ++ codes ">" ≡ gap ++ (s ++ inside ++ codes ">")
inside_parts gap s inside = simp append_assoc refl

-- a closing tag after white space, of which the name was read
pub closes_front : (limits : Limits) (place : Expecting) (t : Tag) (frames : List Frame) (count : ℕ) (gap rest bs : List ℕ) (left : ℕ) (P : List ℕ → Type 0)
    → IsWhite gap → bs ≡ gap ++ spelling t ++ rest → EndFronts t P → EndBehind limits place t frames count bs left P
    → run limits (at (Close place) frames count) rest ≡ NotRead left → Good (λ g. P (gap ++ spelling t ++ g)) rest left
closes_front limits place t frames count gap rest bs left P w p fail more e =
    close_front limits place frames count rest left (λ g. P (gap ++ spelling t ++ g))
    (λ inside h. fail (record { before = gap; inside = inside }) (w, h) (gap ++ spelling t ++ inside) (codes ">", inside_parts gap (spelling t) inside))
    (λ inside h behind q f.
    good_to (λ g. P (printed_end t (record { before = gap; inside = inside }) ++ g)) (λ g. P (gap ++ spelling t ++ (inside ++ codes ">" ++ g))) behind left
    (λ g x. subst P (sym (end_parts gap (spelling t) inside g)) x)
    (more (record { before = gap; inside = inside }) (w, h) behind (p ∙ ap (λ (x : List ℕ). gap ++ spelling t ++ x) q ∙ end_parts gap (spelling t) inside behind) f))
    e

pub end_begins : (t : Tag) (gap g : List ℕ) → IsFront g (spelling t) → IsFront (gap ++ g) (printed_end t (record { before = gap; inside = [] }))
end_begins t gap g f = front_behind gap g (printed_shut t []) (front_on g (spelling t ++ []) (codes ">") (front_on g (spelling t) [] f))

alone_tag : (limits : Limits) (place : Expecting) (t : Tag) → Alone limits place t → IsOneOf t (tags_of place)
alone_tag limits place t one = subst (λ (x : List Tag). IsOneOf t x) (sym one.only) (inl refl)

alone_halts : (limits : Limits) (place : Expecting) (t u : Tag) (frames : List Frame) (count : ℕ) (rest : List ℕ) (left : ℕ) → Alone limits place t → u ≡ t
    → Halts limits (enter limits place u frames count) count rest left → run limits (at (Close place) frames count) rest ≡ NotRead left
alone_halts limits place t u frames count rest left one is h =
    subst (λ (x : Step). Halts limits x count rest left) (one.shut frames count) (subst (λ (x : Tag). Halts limits (enter limits place x frames count) count rest left) is h)

-- a closing tag that stands alone at its place
pub end_front : (limits : Limits) (place : Expecting) (t : Tag) (frames : List Frame) (count : ℕ) (bs : List ℕ) (left : ℕ) (P : List ℕ → Type 0) → Alone limits place t
    → EndFronts t P → EndBehind limits place t frames count bs left P → run limits (at (At place) frames count) bs ≡ NotRead left → Good P bs left
end_front limits place t frames count bs left P one fail more e =
    ahead_front limits place frames count bs left P one.goes_on (t, alone_tag limits place t one)
    (λ gap w u i g f. fail (record { before = gap; inside = [] }) (w, refl) (gap ++ g)
    (end_begins t gap g (subst (λ (x : Tag). IsFront g (spelling x)) (only_one u t (tags_of place) one.only i) f)))
    (λ gap w u rest i p h.
    let is = only_one u t (tags_of place) one.only i in
    subst (λ (x : Tag). Good (λ g. P (gap ++ spelling x ++ g)) rest left) (sym is)
    (closes_front limits place t frames count gap rest bs left P w (p ∙ ap (λ (x : Tag). gap ++ spelling x ++ rest) is) fail more (alone_halts limits place t u frames count rest left one is h)))
    e

abbrev pub ShutFronts : Tag → (List ℕ → Type 0) → Type 0
ShutFronts t P = (inside : List ℕ) → IsWhite inside → (g : List ℕ) → IsFront g (printed_shut t inside) → P g

abbrev pub ShutBehind : Limits → Expecting → Tag → List Frame → ℕ → List ℕ → ℕ → (List ℕ → Type 0) → Type 0
ShutBehind limits place t frames count bs left P = (inside : List ℕ) → IsWhite inside → (rest : List ℕ) → bs ≡ printed_shut t inside ++ rest
    → run limits (leave limits place frames count) rest ≡ NotRead left → Good (λ g. P (printed_shut t inside ++ g)) rest left

shut_parts : (s inside rest : List ℕ) → s ++ (inside ++ codes ">" ++ rest) ≡ s ++ inside ++ codes ">" ++ rest
shut_parts s inside rest = simp append_assoc refl

-- a closing tag right after a text
pub shut_front : (limits : Limits) (place : Expecting) (t : Tag) (frames : List Frame) (count : ℕ) (bs : List ℕ) (left : ℕ) (P : List ℕ → Type 0) → Alone limits place t
    → ShutFronts t P → ShutBehind limits place t frames count bs left P
    → run limits (at (Within place (words_of (tags_of place))) frames count) bs ≡ NotRead left → Good P bs left
shut_front limits place t frames count bs left P one fail more e =
    within_front limits place frames count bs left P (t, alone_tag limits place t one)
    (λ u i g f. fail [] refl g (front_on g (spelling t ++ []) (codes ">") (front_on g (spelling t) [] (subst (λ (x : Tag). IsFront g (spelling x)) (only_one u t (tags_of place) one.only i) f))))
    (λ u rest i p h.
    let is = only_one u t (tags_of place) one.only i in
    subst (λ (x : Tag). Good (λ g. P (spelling x ++ g)) rest left) (sym is)
    (close_front limits place frames count rest left (λ g. P (spelling t ++ g))
    (λ inside w. fail inside w (spelling t ++ inside) (codes ">", refl))
    (λ inside w behind q f.
    good_to (λ g. P (printed_shut t inside ++ g)) (λ g. P (spelling t ++ (inside ++ codes ">" ++ g))) behind left
    (λ g x. subst P (sym (shut_parts (spelling t) inside g)) x)
    (more inside w behind (p ∙ ap (λ (x : Tag). spelling x ++ rest) is ∙ ap (λ (x : List ℕ). spelling t ++ x) q ∙ shut_parts (spelling t) inside behind) f))
    (alone_halts limits place t u frames count rest left one is h)))
    e

-- the rest of a character
record CharacterEnd (awaits : Awaits) : Type 0 where
  pub tail : List ℕ
  pub letters : are_letters OfXml awaits tail ≡ true
  pub free : list_all is_free tail ≡ true

rest_of : (more : ℕ) → CharacterEnd (after_continuation more)
rest_of zero = record { tail = []; letters = refl; free = refl }
rest_of (suc more) = let m = rest_of more in record { tail = 128 ∷ m.tail; letters = m.letters; free = m.free }

character_end : (awaits : Awaits) → IsOpen awaits → CharacterEnd awaits
character_end Character s = record { tail = []; letters = refl; free = refl }
character_end Private s = record { tail = 128 ∷ 128 ∷ []; letters = refl; free = refl }
character_end (Continuation low high more) s =
    let m = rest_of more in
    record { tail = low ∷ m.tail; letters = rw (le-leb low low (omega arith), le-leb low high s.1, m.letters) refl; free = rw (free_high low s.0, m.free) refl }

abbrev pub PlainFronts : Awaits → (List ℕ → Type 0) → Type 0
PlainFronts awaits P = (plain : List ℕ) → are_letters OfXml awaits plain ≡ true → list_all is_free plain ≡ true → (g : List ℕ) → IsFront g plain → P g

abbrev pub PlainBehind : Limits → Content → List ℕ → Awaits → List Frame → ℕ → List ℕ → ℕ → (List ℕ → Type 0) → Type 0
PlainBehind limits content kept awaits frames count bs left P = (plain : List ℕ) (b : ℕ) (rest : List ℕ) → are_letters OfXml awaits plain ≡ true → list_all is_free plain ≡ true
    → bs ≡ plain ++ b ∷ rest → (b ≡ 60) ⊎ (b ≡ 38) → run limits (in_text content (kept ++ plain) frames count) (b ∷ rest) ≡ NotRead left → Good (λ g. P (plain ++ g)) (b ∷ rest) left

plain_stop : (limits : Limits) (content : Content) (kept : List ℕ) (awaits : Awaits) (frames : List Frame) (count : ℕ) (b : ℕ) (bs : List ℕ) (left : ℕ) (P : List ℕ → Type 0)
    → PlainBehind limits content kept awaits frames count (b ∷ bs) left P → is_between awaits ≡ true → (b ≡ 60) ⊎ (b ≡ 38)
    → run limits (at (Chars content kept awaits) frames count) (b ∷ bs) ≡ NotRead left → Good P (b ∷ bs) left
plain_stop limits content kept awaits frames count b bs left P more w s e =
    let is = between_is awaits w in
    let f : run limits (in_text content kept frames count) (b ∷ bs) ≡ NotRead left = subst (λ (x : Awaits). run limits (at (Chars content kept x) frames count) (b ∷ bs) ≡ NotRead left) is e in
    more [] b bs (ap is_whole is) refl refl s (subst (λ (x : List ℕ). run limits (in_text content x frames count) (b ∷ bs) ≡ NotRead left) (sym (append-nil kept)) f)

plain_letters_on : (awaits : Awaits) (b : ℕ) (plain : List ℕ) → allows OfXml awaits b ≡ true → are_letters OfXml (after OfXml awaits b) plain ≡ true → are_letters OfXml awaits (b ∷ plain) ≡ true
plain_letters_on awaits b plain a l = rw (a, l) refl

plain_free_on : (b : ℕ) (plain : List ℕ) → eqb b 60 ≡ false → eqb b 38 ≡ false → list_all is_free plain ≡ true → list_all is_free (b ∷ plain) ≡ true
plain_free_on b plain f g h = rw (f, g, h) refl

plain_here : (limits : Limits) (count : ℕ) (awaits : Awaits) (bs : List ℕ) (left : ℕ) (P : List ℕ → Type 0) → IsOpen awaits → PlainFronts awaits P
    → unless_many limits count (NotRead (length bs)) ≡ NotRead left → Good P bs left
plain_here limits count awaits bs left P s fail e =
    let c = character_end awaits s in good_here P bs left (unless_left limits count (length bs) left e).1 (fail c.tail c.letters c.free [] (front_none c.tail))

pub plain_front : (limits : Limits) (content : Content) (kept : List ℕ) (awaits : Awaits) (frames : List Frame) (count : ℕ) (bs : List ℕ) (left : ℕ) (P : List ℕ → Type 0) → IsOpen awaits
    → PlainFronts awaits P → PlainBehind limits content kept awaits frames count bs left P
    → run limits (at (Chars content kept awaits) frames count) bs ≡ NotRead left → Good P bs left
plain_front limits content kept awaits frames count [] left P s fail more e = plain_here limits count awaits [] left P s fail e
plain_front limits content kept awaits frames count (b ∷ bs) left P s fail more e = elim (cases_Bool (eqb b 60)) [
  | inl f ↦ elim (cases_Bool (is_between awaits)) [
    | inl w ↦ plain_stop limits content kept awaits frames count b bs left P more w (inl (eqb-true b 60 f)) e
    | inr w ↦ plain_here limits count awaits (b ∷ bs) left P s fail (rw (f, w) at e)
  ]
  | inr f ↦ elim (cases_Bool (eqb b 38)) [
    | inl g ↦ elim (cases_Bool (is_between awaits)) [
      | inl w ↦ plain_stop limits content kept awaits frames count b bs left P more w (inr (eqb-true b 38 g)) e
      | inr w ↦ plain_here limits count awaits (b ∷ bs) left P s fail (rw (f, g, w) at e)
    ]
    | inr g ↦ elim (cases_Bool (allows OfXml awaits b)) [
      | inl a ↦
          good_behind P (b ∷ []) bs (b ∷ bs) left refl
          (plain_front limits content (kept ++ b ∷ []) (after OfXml awaits b) frames count bs left (λ x. P (b ∷ x)) (after_open OfXml awaits b)
          (λ plain l h x i. fail (b ∷ plain) (plain_letters_on awaits b plain a l) (plain_free_on b plain f g h) (b ∷ x) (i.0, ap (λ (y : List ℕ). b ∷ y) i.1))
          (λ plain c rest l h p stop q. more (b ∷ plain) c rest (plain_letters_on awaits b plain a l) (plain_free_on b plain f g h) (ap (λ (y : List ℕ). b ∷ y) p) stop
          (subst (λ (x : List ℕ). run limits (in_text content x frames count) (c ∷ rest) ≡ NotRead left) (append_assoc kept (b ∷ []) plain) q))
          (rw (f, g, a) at e))
      | inr a ↦ plain_here limits count awaits (b ∷ bs) left P s fail (rw (f, g, a) at e)
    ]
  ]
]
