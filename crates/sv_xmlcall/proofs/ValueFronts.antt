-- Prefixes of texts: where reading is refused within a value, the bytes before begin one.
use Rattle.std.proofs.Common.{◌≡◌, ℕ, suc, true, false, eqb, List, [], ◌∷◌, ◌++◌, length, inl, inr, refl, sym, ap, ◌∙◌, subst, append_assoc, append-nil, codes, ◌⊎◌, le_refl}
use Rattle.std.proofs.lemmas.Bool.{cases_Bool, eqb-true}
use Rattle.sv_xmlcall.specs.Tags.{spelling}
use Rattle.sv_xmlcall.specs.Spelled.{is_white}
use Rattle.sv_xmlcall.specs.Trees.{text, no_tree}
use Rattle.sv_xmlcall.specs.Spells.{IsWhite, Letter, printed_text, text_of, Ending, printed_shut, printed_end, NoMark, Double, Date, Base, ValueText, Bare, Typed, FormText, Integer, Truth, Text, NoText, Other, Struct, NoMembers, Array, NoData, NoItem, NoMember, printed_value, printed_form, printed_items, value_of, form_of, items_of, IsValue, IsForm}
use Rattle.sv_xmlcall.specs.Machine.{Limits, AtForm, AtFormEnd, AtData, AtArrayEnd, InBare, Frame, NotRead, At, Within, Close, Opened, at, run, enter, after_value, counted, kept, tags_of, words_of}
use Rattle.sv_xmlcall.specs.declared.tag.Tag.{Tag}
use Rattle.sv_xmlcall.specs.declared.tag.Tag.TheVariants as tag
use Rattle.sv_xmlcall.proofs.Passing.{in_text}
use Rattle.sv_xmlcall.proofs.ValuePassing.{count_behind, count_behind_values, held, held_values}
use Rattle.sv_xmlcall.proofs.TagsBack.{IsOneOf}
use Rattle.sv_xmlcall.proofs.TextsBack.{printed_append, means_append, right_append}
use Rattle.sv_xmlcall.proofs.ValuesBack.{white_letters}
use Rattle.sv_xmlcall.proofs.NestedBack.{ahead_shorter}
use Rattle.sv_xmlcall.proofs.RefusedLaws.{unless_left}
use Rattle.sv_xmlcall.proofs.Fronts.{IsFront, front_on, front_behind, front_to, Good, good_here, good_behind, good_to, Halts, ahead_front, close_front}
use Rattle.sv_xmlcall.proofs.TextFronts.{end_front}
use Rattle.sv_xmlcall.proofs.NumberFronts.{text_front, zero_numeral, zero_fits}
use Rattle.sv_xmlcall.proofs.FormFronts.{front_trans, front_two, good_one, good_two, FormFronts, FormBehind, string_front, kind_front, integer_form_front, truth_front, struct_front, AgainMembers, AgainItems}

abbrev pub plain_end : Ending
plain_end = record { before = []; inside = [] }

array_fails : (P : List ℕ → Type 0) → FormFronts P → (gap : List ℕ) → IsWhite gap → (t : Tag) → IsOneOf t (tags_of AtData) → (g : List ℕ) → IsFront g (spelling t) → P (spelling tag.Array ++ (gap ++ g))
array_fails P fail gap w t (inl is) g f =
    let a = spelling tag.Array ++ gap in
    let h = front_behind a g (spelling tag.Data) (subst (λ (x : Tag). IsFront g (spelling x)) is f) in
    subst P (append_assoc (spelling tag.Array) gap g)
    (fail (Array gap NoItem plain_end plain_end) (w, tt, (refl, refl), (refl, refl)) (a ++ g)
    (front_on (a ++ g) (a ++ spelling tag.Data ++ [] ++ printed_end tag.EndData plain_end) (printed_end tag.EndArray plain_end)
    (front_on (a ++ g) (a ++ spelling tag.Data ++ []) (printed_end tag.EndData plain_end) (front_on (a ++ g) (a ++ spelling tag.Data) [] h))))
array_fails P fail gap w t (inr (inl is)) g f =
    let a = spelling tag.Array ++ gap in
    let h = front_behind a g (spelling tag.NoData) (subst (λ (x : Tag). IsFront g (spelling x)) is f) in
    subst P (append_assoc (spelling tag.Array) gap g)
    (fail (NoData gap plain_end) (w, (refl, refl)) (a ++ g) (front_on (a ++ g) (a ++ spelling tag.NoData) (printed_end tag.EndArray plain_end) h))
array_fails P fail gap w t (inr (inr o)) g f = absurd o

array_parts : (s g d i e rest : List ℕ) → s ++ (g ++ d ++ (i ++ e ++ rest)) ≡ s ++ g ++ d ++ i ++ e ++ rest
array_parts s g d i e rest = simp append_assoc refl

data_parts : (s g d rest : List ℕ) → s ++ (g ++ d ++ rest) ≡ s ++ g ++ d ++ rest
data_parts s g d rest = simp append_assoc refl

array_more : (limits : Limits) (frames : List Frame) (count : ℕ) (rest : List ℕ) (left : ℕ) (P : List ℕ → Type 0)
    → FormFronts P → FormBehind limits frames count (spelling tag.Array ++ rest) left P → AgainItems limits frames count rest left
    → (gap : List ℕ) → IsWhite gap → (t : Tag) (behind : List ℕ) → IsOneOf t (tags_of AtData) → rest ≡ gap ++ spelling t ++ behind
    → Halts limits (enter limits AtData t frames (counted limits count)) (counted limits count) behind left → Good (λ g. P (spelling tag.Array ++ gap ++ spelling t ++ g)) behind left
array_more limits frames count rest left P fail more again gap w t behind (inl is) p h =
    let q : rest ≡ gap ++ spelling tag.Data ++ behind = p ∙ ap (λ (x : Tag). gap ++ spelling x ++ behind) is in
    let a = spelling tag.Array ++ gap ++ spelling tag.Data in
    subst (λ (x : Tag). Good (λ g. P (spelling tag.Array ++ gap ++ spelling x ++ g)) behind left) (sym is)
    (again (λ g. P (a ++ g)) behind (ahead_shorter gap tag.Data behind rest q)
    (λ items r ending x g f. fail (Array gap items ending plain_end) (w, r, x, (refl, refl)) (a ++ g)
    (front_on (a ++ g) (a ++ printed_items items ++ printed_end tag.EndData ending) (printed_end tag.EndArray plain_end) (front_two a g (printed_items items) (printed_end tag.EndData ending) f)))
    (λ items r ending x last p2 q2.
    let values = held_values limits (items_of items) no_tree (counted limits count) in
    let b = a ++ printed_items items ++ printed_end tag.EndData ending in
    good_two P a (printed_items items) (printed_end tag.EndData ending) last left
    (end_front limits (AtArrayEnd values) tag.EndArray frames (count_behind_values limits (items_of items) (counted limits count)) last left (λ g. P (b ++ g)) (record { only = refl; goes_on = tt; shut = λ frames count. refl })
    (λ of_array y g f. fail (Array gap items ending of_array) (w, r, x, y) (b ++ g) (front_behind b g (printed_end tag.EndArray of_array) f))
    (λ of_array y end p3 q3.
    good_one P b (printed_end tag.EndArray of_array) end left
    (more (Array gap items ending of_array) (w, r, x, y) end
    (ap (λ (z : List ℕ). spelling tag.Array ++ z) (q ∙ ap (λ (z : List ℕ). gap ++ spelling tag.Data ++ z) p2) ∙ array_parts (spelling tag.Array) gap (spelling tag.Data) (printed_items items) (printed_end tag.EndData ending) last
    ∙ ap (λ (z : List ℕ). b ++ z) p3 ∙ sym (append_assoc b (printed_end tag.EndArray of_array) end)) q3))
    q2))
    (subst (λ (x : Tag). Halts limits (enter limits AtData x frames (counted limits count)) (counted limits count) behind left) is h))
array_more limits frames count rest left P fail more again gap w t behind (inr (inl is)) p h =
    let q : rest ≡ gap ++ spelling tag.NoData ++ behind = p ∙ ap (λ (x : Tag). gap ++ spelling x ++ behind) is in
    let a = spelling tag.Array ++ gap ++ spelling tag.NoData in
    subst (λ (x : Tag). Good (λ g. P (spelling tag.Array ++ gap ++ spelling x ++ g)) behind left) (sym is)
    (end_front limits (AtArrayEnd no_tree) tag.EndArray frames (counted limits count) behind left (λ g. P (a ++ g)) (record { only = refl; goes_on = tt; shut = λ frames count. refl })
    (λ of_array y g f. fail (NoData gap of_array) (w, y) (a ++ g) (front_behind a g (printed_end tag.EndArray of_array) f))
    (λ of_array y end p3 q3.
    good_one P a (printed_end tag.EndArray of_array) end left
    (more (NoData gap of_array) (w, y) end
    (ap (λ (z : List ℕ). spelling tag.Array ++ z) q ∙ data_parts (spelling tag.Array) gap (spelling tag.NoData) behind ∙ ap (λ (z : List ℕ). a ++ z) p3 ∙ sym (append_assoc a (printed_end tag.EndArray of_array) end)) q3))
    (subst (λ (x : Tag). Halts limits (enter limits AtData x frames (counted limits count)) (counted limits count) behind left) is h))
array_more limits frames count rest left P fail more again gap w t behind (inr (inr o)) p h = absurd o

array_front : (limits : Limits) (frames : List Frame) (count : ℕ) (rest : List ℕ) (left : ℕ) (P : List ℕ → Type 0)
    → FormFronts P → FormBehind limits frames count (spelling tag.Array ++ rest) left P → AgainItems limits frames count rest left
    → run limits (at (At AtData) frames (counted limits count)) rest ≡ NotRead left → Good (λ g. P (spelling tag.Array ++ g)) rest left
array_front limits frames count rest left P fail more again e =
    ahead_front limits AtData frames (counted limits count) rest left (λ g. P (spelling tag.Array ++ g)) tt (tag.Data, inl refl)
    (λ gap w t i g f. array_fails P fail gap w t i g f)
    (λ gap w t behind i p h. good_two P (spelling tag.Array) gap (spelling t) behind left (array_more limits frames count rest left P fail more again gap w t behind i p h))
    e

abbrev pub FormHalts : Limits → List ℕ → List Frame → ℕ → Tag → List ℕ → ℕ → Type 0
FormHalts limits white frames count t rest left = Halts limits (enter limits (AtForm white) t frames (counted limits count)) (counted limits count) rest left

-- a form of this tag
to_front : (limits : Limits) (white : List ℕ) (frames : List Frame) (count : ℕ) (t u : Tag) (rest : List ℕ) (left : ℕ) (P : List ℕ → Type 0) → t ≡ u
    → FormBehind limits frames count (spelling t ++ rest) left P
    → (FormBehind limits frames count (spelling u ++ rest) left P → FormHalts limits white frames count u rest left → Good (λ g. P (spelling u ++ g)) rest left)
    → FormHalts limits white frames count t rest left → Good (λ g. P (spelling t ++ g)) rest left
to_front limits white frames count t u rest left P is more f h =
    subst (λ (x : Tag). Good (λ g. P (spelling x ++ g)) rest left) (sym is)
    (f (subst (λ (x : Tag). FormBehind limits frames count (spelling x ++ rest) left P) is more) (subst (λ (x : Tag). FormHalts limits white frames count x rest left) is h))

abbrev pub EndGoes : Limits → List ℕ → List Frame → ℕ → List ℕ → ℕ → (List ℕ → Type 0) → Type 0
EndGoes limits white frames count rest left P = run limits (at (Close (AtForm white)) frames (counted limits count)) rest ≡ NotRead left → Good (λ g. P (spelling tag.EndValue ++ g)) rest left

pub form_tag_front : (limits : Limits) (white : List ℕ) (frames : List Frame) (count : ℕ) (t : Tag) (rest : List ℕ) (left : ℕ) (P : List ℕ → Type 0) → FormFronts P → FormBehind limits frames count (spelling t ++ rest) left P
    → AgainMembers limits frames count rest left → AgainItems limits frames count rest left → (t ≡ tag.EndValue → EndGoes limits white frames count rest left P)
    → IsOneOf t (tags_of (AtForm white)) → FormHalts limits white frames count t rest left → Good (λ g. P (spelling t ++ g)) rest left
form_tag_front limits white frames count t rest left P fail more ms is end (inl e) h = to_front limits white frames count t tag.I4 rest left P e more (λ m h. integer_form_front limits true frames count rest left P fail m h) h
form_tag_front limits white frames count t rest left P fail more ms is end (inr (inl e)) h = to_front limits white frames count t tag.Int rest left P e more (λ m h. integer_form_front limits false frames count rest left P fail m h) h
form_tag_front limits white frames count t rest left P fail more ms is end (inr (inr (inl e))) h = to_front limits white frames count t tag.Boolean rest left P e more (λ m h. truth_front limits frames count rest left P fail m h) h
form_tag_front limits white frames count t rest left P fail more ms is end (inr (inr (inr (inl e)))) h = to_front limits white frames count t tag.String rest left P e more (λ m h. string_front limits frames count rest left P fail m h) h
form_tag_front limits white frames count t rest left P fail more ms is end (inr (inr (inr (inr (inl e))))) h = to_front limits white frames count t tag.NoString rest left P e more (λ m h. m NoText tt rest refl h) h
form_tag_front limits white frames count t rest left P fail more ms is end (inr (inr (inr (inr (inr (inl e)))))) h = to_front limits white frames count t tag.Double rest left P e more (λ m h. kind_front limits Double frames count rest left P fail m h) h
form_tag_front limits white frames count t rest left P fail more ms is end (inr (inr (inr (inr (inr (inr (inl e))))))) h = to_front limits white frames count t tag.DateTime rest left P e more (λ m h. kind_front limits Date frames count rest left P fail m h) h
form_tag_front limits white frames count t rest left P fail more ms is end (inr (inr (inr (inr (inr (inr (inr (inl e)))))))) h = to_front limits white frames count t tag.Base64 rest left P e more (λ m h. kind_front limits Base frames count rest left P fail m h) h
form_tag_front limits white frames count t rest left P fail more ms is end (inr (inr (inr (inr (inr (inr (inr (inr (inl e))))))))) h = to_front limits white frames count t tag.Struct rest left P e more (λ m h. struct_front limits frames count rest left P fail m ms h) h
form_tag_front limits white frames count t rest left P fail more ms is end (inr (inr (inr (inr (inr (inr (inr (inr (inr (inl e)))))))))) h = to_front limits white frames count t tag.NoMembers rest left P e more (λ m h. m NoMembers tt rest refl h) h
form_tag_front limits white frames count t rest left P fail more ms is end (inr (inr (inr (inr (inr (inr (inr (inr (inr (inr (inl e))))))))))) h = to_front limits white frames count t tag.Array rest left P e more (λ m h. array_front limits frames count rest left P fail m is h) h
form_tag_front limits white frames count t rest left P fail more ms is end (inr (inr (inr (inr (inr (inr (inr (inr (inr (inr (inr (inl e)))))))))))) h = to_front limits white frames count t tag.EndValue rest left P e more (λ m h. end e h) h
form_tag_front limits white frames count t rest left P fail more ms is end (inr (inr (inr (inr (inr (inr (inr (inr (inr (inr (inr (inr o)))))))))))) h = absurd o

-- the shortest form of a tag
pub record Shortest (t : Tag) : Type 0 where
  pub form : FormText
  pub right : IsForm form
  pub begins : IsFront (spelling t) (printed_form form)

pub shortest : (white : List ℕ) (t : Tag) → IsOneOf t (tags_of (AtForm white)) → (t ≡ tag.EndValue) ⊎ Shortest t
shortest white t (inl e) = inr (subst Shortest (sym e) (record { form = Integer true NoMark (codes "0") []; right = (zero_numeral, zero_fits false, refl); begins = (codes "0</i4>", refl) }))
shortest white t (inr (inl e)) = inr (subst Shortest (sym e) (record { form = Integer false NoMark (codes "0") []; right = (zero_numeral, zero_fits false, refl); begins = (codes "0</int>", refl) }))
shortest white t (inr (inr (inl e))) = inr (subst Shortest (sym e) (record { form = Truth true []; right = refl; begins = (codes "1</boolean>", refl) }))
shortest white t (inr (inr (inr (inl e)))) = inr (subst Shortest (sym e) (record { form = Text [] []; right = (tt, refl); begins = (codes "</string>", refl) }))
shortest white t (inr (inr (inr (inr (inl e))))) = inr (subst Shortest (sym e) (record { form = NoText; right = tt; begins = ([], refl) }))
shortest white t (inr (inr (inr (inr (inr (inl e)))))) = inr (subst Shortest (sym e) (record { form = Other Double [] []; right = (tt, refl); begins = (codes "</double>", refl) }))
shortest white t (inr (inr (inr (inr (inr (inr (inl e))))))) = inr (subst Shortest (sym e) (record { form = Other Date [] []; right = (tt, refl); begins = (codes "</dateTime.iso8601>", refl) }))
shortest white t (inr (inr (inr (inr (inr (inr (inr (inl e)))))))) = inr (subst Shortest (sym e) (record { form = Other Base [] []; right = (tt, refl); begins = (codes "</base64>", refl) }))
shortest white t (inr (inr (inr (inr (inr (inr (inr (inr (inl e))))))))) = inr (subst Shortest (sym e) (record { form = Struct NoMember plain_end; right = (tt, (refl, refl)); begins = (codes "</struct>", refl) }))
shortest white t (inr (inr (inr (inr (inr (inr (inr (inr (inr (inl e)))))))))) = inr (subst Shortest (sym e) (record { form = NoMembers; right = tt; begins = ([], refl) }))
shortest white t (inr (inr (inr (inr (inr (inr (inr (inr (inr (inr (inl e))))))))))) = inr (subst Shortest (sym e) (record { form = NoData [] plain_end; right = (refl, (refl, refl)); begins = (codes "<data/></array>", refl) }))
shortest white t (inr (inr (inr (inr (inr (inr (inr (inr (inr (inr (inr (inl e)))))))))))) = inl e
shortest white t (inr (inr (inr (inr (inr (inr (inr (inr (inr (inr (inr (inr o)))))))))))) = absurd o

abbrev pub ValueFronts : (List ℕ → Type 0) → Type 0
ValueFronts P = (value : ValueText) → IsValue value → (g : List ℕ) → IsFront g (printed_value value) → P g

abbrev pub ValueBehind : Limits → List Frame → ℕ → List ℕ → ℕ → (List ℕ → Type 0) → Type 0
ValueBehind limits frames count bs left P = (value : ValueText) → IsValue value → (rest : List ℕ) → bs ≡ printed_value value ++ rest
    → run limits (after_value limits (held limits (value_of value) count) frames (count_behind limits (value_of value) count)) rest ≡ NotRead left
    → Good (λ g. P (printed_value value ++ g)) rest left

-- white space after `<value>` begins a bare text
pub white_begins : (P : List ℕ → Type 0) → ValueFronts P → (gap : List ℕ) → IsWhite gap → (g : List ℕ) → IsFront g (spelling tag.EndValue) → P (spelling tag.Value ++ (gap ++ g))
white_begins P fail gap w g f =
    let l = white_letters gap w in
    let a = spelling tag.Value ++ printed_text l.letters in
    subst P (append_assoc (spelling tag.Value) gap g)
    (subst (λ (x : List ℕ). P (spelling tag.Value ++ x ++ g)) l.printed
    (fail (Bare l.letters []) (l.right, refl) (a ++ g)
    (front_behind a g (printed_shut tag.EndValue []) (front_on g (spelling tag.EndValue ++ []) (codes ">") (front_on g (spelling tag.EndValue) [] f)))))

pub form_begins : (P : List ℕ → Type 0) → ValueFronts P → (gap : List ℕ) → IsWhite gap → (form : FormText) → IsForm form → (g : List ℕ) → IsFront g (printed_form form) → P (spelling tag.Value ++ (gap ++ g))
form_begins P fail gap w form r g f =
    let a = spelling tag.Value ++ gap in
    subst P (append_assoc (spelling tag.Value) gap g)
    (fail (Typed gap form plain_end) (w, r, (refl, refl)) (a ++ g) (front_on (a ++ g) (a ++ printed_form form) (printed_end tag.EndValue plain_end) (front_behind a g (printed_form form) f)))

pub tag_begins : (P : List ℕ → Type 0) → ValueFronts P → (gap : List ℕ) → IsWhite gap → (t : Tag) → (t ≡ tag.EndValue) ⊎ Shortest t → (g : List ℕ) → IsFront g (spelling t) → P (spelling tag.Value ++ (gap ++ g))
tag_begins P fail gap w t (inl is) g f = white_begins P fail gap w g (subst (λ (x : Tag). IsFront g (spelling x)) is f)
tag_begins P fail gap w t (inr s) g f = form_begins P fail gap w s.form s.right g (front_trans g (spelling t) (printed_form s.form) f s.begins)

typed_parts : (s g f r : List ℕ) → s ++ (g ++ (f ++ r)) ≡ s ++ g ++ f ++ r
typed_parts s g f r = simp append_assoc refl

-- after a form
pub form_behind : (limits : Limits) (frames : List Frame) (count : ℕ) (rest0 gap rest : List ℕ) (left : ℕ) (P : List ℕ → Type 0) → ValueFronts P → ValueBehind limits frames count (spelling tag.Value ++ rest0) left P
    → IsWhite gap → rest0 ≡ gap ++ rest → FormBehind limits frames count rest left (λ g. P (spelling tag.Value ++ (gap ++ g)))
form_behind limits frames count rest0 gap rest left P fail more w p = λ form r behind q e.
    let s = spelling tag.Value in
    let a = s ++ gap ++ printed_form form in
    let value = held limits (form_of form) count in
    good_to (λ g. P (a ++ g)) (λ g. P (s ++ (gap ++ (printed_form form ++ g)))) behind left (λ g x. subst P (sym (typed_parts s gap (printed_form form) g)) x)
    (end_front limits (AtFormEnd value) tag.EndValue frames (count_behind limits (form_of form) count) behind left (λ g. P (a ++ g)) (record { only = refl; goes_on = tt; shut = λ frames count. refl })
    (λ ending x g f. fail (Typed gap form ending) (w, r, x) (a ++ g) (front_behind a g (printed_end tag.EndValue ending) f))
    (λ ending x last p2 q2.
    good_one P a (printed_end tag.EndValue ending) last left
    (more (Typed gap form ending) (w, r, x) last
    (ap (λ (y : List ℕ). s ++ y) (p ∙ ap (λ (y : List ℕ). gap ++ y) q) ∙ typed_parts s gap (printed_form form) behind ∙ ap (λ (y : List ℕ). a ++ y) p2 ∙ sym (append_assoc a (printed_end tag.EndValue ending) last)) q2))
    e)

white_parts : (s g e i c r : List ℕ) → s ++ (g ++ (e ++ (i ++ c ++ r))) ≡ s ++ g ++ (e ++ i ++ c) ++ r
white_parts s g e i c r = simp append_assoc refl

inside_parts : (s g e i : List ℕ) → s ++ (g ++ (e ++ i)) ++ codes ">" ≡ s ++ g ++ (e ++ i ++ codes ">")
inside_parts s g e i = simp append_assoc refl

-- after the name of the tag that ends white bare text
pub white_end : (limits : Limits) (frames : List Frame) (count : ℕ) (rest0 gap behind : List ℕ) (left : ℕ) (P : List ℕ → Type 0) → ValueFronts P → ValueBehind limits frames count (spelling tag.Value ++ rest0) left P
    → IsWhite gap → rest0 ≡ gap ++ (spelling tag.EndValue ++ behind) → EndGoes limits gap frames count behind left (λ g. P (spelling tag.Value ++ (gap ++ g)))
white_end limits frames count rest0 gap behind left P fail more w p e =
    let l = white_letters gap w in
    let s = spelling tag.Value in
    let t = spelling tag.EndValue in
    close_front limits (AtForm gap) frames (counted limits count) behind left (λ g. P (s ++ (gap ++ (t ++ g))))
    (λ inside h. fail (Bare l.letters inside) (l.right, h) (s ++ (gap ++ (t ++ inside)))
    (codes ">", inside_parts s gap t inside ∙ ap (λ (x : List ℕ). s ++ x ++ printed_shut tag.EndValue inside) (sym l.printed)))
    (λ inside h last q f.
    let prints : (g : List ℕ) → s ++ (gap ++ (t ++ (inside ++ codes ">" ++ g))) ≡ printed_value (Bare l.letters inside) ++ g =
    λ g. white_parts s gap t inside (codes ">") g ∙ ap (λ (x : List ℕ). s ++ x ++ printed_shut tag.EndValue inside ++ g) (sym l.printed) in
    good_to (λ g. P (printed_value (Bare l.letters inside) ++ g)) (λ g. P (s ++ (gap ++ (t ++ (inside ++ codes ">" ++ g))))) last left
    (λ g x. subst P (sym (prints g)) x)
    (more (Bare l.letters inside) (l.right, h) last (ap (λ (x : List ℕ). s ++ x) (p ∙ ap (λ (x : List ℕ). gap ++ (t ++ x)) q) ∙ prints last)
    (subst (λ (x : List ℕ). run limits (after_value limits (text x) frames (counted limits count)) last ≡ NotRead left) (sym l.means) f)))
    e

bare_parts : (s g a e r : List ℕ) → s ++ (g ++ (a ++ e ++ r)) ≡ s ++ (g ++ a) ++ e ++ r
bare_parts s g a e r = simp append_assoc refl

bare_begins : (s g a e : List ℕ) → s ++ (g ++ (a ++ e)) ≡ s ++ (g ++ a) ++ e
bare_begins s g a e = simp append_assoc refl

-- bare text that is not white alone
pub bare_front : (limits : Limits) (frames : List Frame) (count : ℕ) (rest0 gap rest : List ℕ) (left : ℕ) (P : List ℕ → Type 0) → ValueFronts P → ValueBehind limits frames count (spelling tag.Value ++ rest0) left P
    → IsWhite gap → rest0 ≡ gap ++ rest → run limits (in_text InBare gap frames (counted limits count)) rest ≡ NotRead left → Good (λ g. P (spelling tag.Value ++ (gap ++ g))) rest left
bare_front limits frames count rest0 gap rest left P fail more w p e =
    let l = white_letters gap w in
    let s = spelling tag.Value in
    let whole : (letters : List Letter) → gap ++ printed_text letters ≡ printed_text (l.letters ++ letters) =
    λ letters. ap (λ (x : List ℕ). x ++ printed_text letters) (sym l.printed) ∙ sym (printed_append l.letters letters) in
    let means : (letters : List Letter) → gap ++ text_of letters ≡ text_of (l.letters ++ letters) =
    λ letters. ap (λ (x : List ℕ). x ++ text_of letters) (sym l.means) ∙ sym (means_append l.letters letters) in
    text_front (suc (length rest)) limits InBare gap frames (counted limits count) rest left (λ g. P (s ++ (gap ++ g))) (le_refl (suc (length rest)))
    (λ letters r inside h m g f. fail (Bare (l.letters ++ letters) inside) (right_append l.letters letters l.right r, h) (s ++ (gap ++ g))
    (front_to (s ++ (gap ++ g)) (s ++ (gap ++ (printed_text letters ++ printed_shut tag.EndValue inside))) (printed_value (Bare (l.letters ++ letters) inside))
    (front_behind s (gap ++ g) (gap ++ (printed_text letters ++ printed_shut tag.EndValue inside)) (front_behind gap g (printed_text letters ++ printed_shut tag.EndValue inside) f))
    (bare_begins s gap (printed_text letters) (printed_shut tag.EndValue inside) ∙ ap (λ (x : List ℕ). s ++ x ++ printed_shut tag.EndValue inside) (whole letters))))
    (λ letters r inside h last m q f.
    let prints : (g : List ℕ) → s ++ (gap ++ (printed_text letters ++ printed_shut tag.EndValue inside ++ g)) ≡ printed_value (Bare (l.letters ++ letters) inside) ++ g =
    λ g. bare_parts s gap (printed_text letters) (printed_shut tag.EndValue inside) g ∙ ap (λ (x : List ℕ). s ++ x ++ printed_shut tag.EndValue inside ++ g) (whole letters) in
    good_to (λ g. P (printed_value (Bare (l.letters ++ letters) inside) ++ g)) (λ g. P (s ++ (gap ++ (printed_text letters ++ printed_shut tag.EndValue inside ++ g)))) last left
    (λ g x. subst P (sym (prints g)) x)
    (more (Bare (l.letters ++ letters) inside) (right_append l.letters letters l.right r, h) last (ap (λ (x : List ℕ). s ++ x) (p ∙ ap (λ (x : List ℕ). gap ++ x) q) ∙ prints last)
    (subst (λ (x : List ℕ). run limits (after_value limits (text x) frames (counted limits count)) last ≡ NotRead left) (means letters) f)))
    e

-- white space after `<value>`
pub opened_front : (limits : Limits) (kept : List ℕ) (frames : List Frame) (count : ℕ) (bs : List ℕ) (left : ℕ) (P : List ℕ → Type 0)
    → ((gap : List ℕ) → IsWhite gap → P gap)
    → ((gap : List ℕ) → IsWhite gap → (rest : List ℕ) → bs ≡ gap ++ rest → run limits (at (Within (AtForm (kept ++ gap)) (words_of (tags_of (AtForm (kept ++ gap))))) frames count) rest ≡ NotRead left → Good (λ g. P (gap ++ g)) rest left)
    → ((gap : List ℕ) → IsWhite gap → (rest : List ℕ) → bs ≡ gap ++ rest → run limits (in_text InBare (kept ++ gap) frames count) rest ≡ NotRead left → Good (λ g. P (gap ++ g)) rest left)
    → run limits (at (Opened kept) frames count) bs ≡ NotRead left → Good P bs left
opened_front limits kept frames count [] left P fail tagged bare e = good_here P [] left (unless_left limits count 0 left e).1 (fail [] refl)
opened_front limits kept frames count (b ∷ bs) left P fail tagged bare e = elim (cases_Bool (is_white b)) [
  | inl w ↦
      good_behind P (b ∷ []) bs (b ∷ bs) left refl
      (opened_front limits (kept ++ b ∷ []) frames count bs left (λ g. P (b ∷ g))
      (λ gap h. fail (b ∷ gap) (on b gap w h))
      (λ gap h rest p f. tagged (b ∷ gap) (on b gap w h) rest (ap (λ (x : List ℕ). b ∷ x) p)
      (subst (λ (x : List ℕ). run limits (at (Within (AtForm x) (words_of (tags_of (AtForm x)))) frames count) rest ≡ NotRead left) (append_assoc kept (b ∷ []) gap) f))
      (λ gap h rest p f. bare (b ∷ gap) (on b gap w h) rest (ap (λ (x : List ℕ). b ∷ x) p)
      (subst (λ (x : List ℕ). run limits (in_text InBare x frames count) rest ≡ NotRead left) (append_assoc kept (b ∷ []) gap) f))
      (rw w at e))
  | inr w ↦ elim (cases_Bool (eqb b 60)) [
    | inl l ↦
        let is = eqb-true b 60 l in
        let f : run limits (at (Opened kept) frames count) (60 ∷ bs) ≡ NotRead left = subst (λ (x : ℕ). run limits (at (Opened kept) frames count) (x ∷ bs) ≡ NotRead left) is e in
        let g : run limits (at (Within (AtForm kept) (words_of (tags_of (AtForm kept)))) frames count) (b ∷ bs) ≡ NotRead left =
        subst (λ (x : ℕ). run limits (at (Within (AtForm kept) (words_of (tags_of (AtForm kept)))) frames count) (x ∷ bs) ≡ NotRead left) (sym is) f in
        tagged [] refl (b ∷ bs) refl (subst (λ (x : List ℕ). run limits (at (Within (AtForm x) (words_of (tags_of (AtForm x)))) frames count) (b ∷ bs) ≡ NotRead left) (sym (append-nil kept)) g)
    | inr l ↦
        let dark : run limits (at (Opened kept) frames count) (b ∷ bs) ≡ run limits (in_text InBare kept frames count) (b ∷ bs) = rw (w, l) refl in
        bare [] refl (b ∷ bs) refl (subst (λ (x : List ℕ). run limits (in_text InBare x frames count) (b ∷ bs) ≡ NotRead left) (sym (append-nil kept)) (sym dark ∙ e))
  ]
]
  where
    on : (b : ℕ) (gap : List ℕ) → is_white b ≡ true → IsWhite gap → IsWhite (b ∷ gap)
    on b gap w h = rw (w, h) refl
