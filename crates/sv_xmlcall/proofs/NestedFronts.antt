-- Prefixes of texts: where reading is refused within a value, the recursion through arrays and structs.
use Rattle.std.proofs.Common.{◌≡◌, ℕ, zero, suc, ◌+◌, ◌*◌, ◌<◌, ◌≤◌, leb, List, [], ◌∷◌, ◌++◌, length, inl, inr, refl, sym, ap, ◌∙◌, subst, arith, append_assoc, append-nil, length-append, codes, le_refl}
use Rattle.std.proofs.lemmas.Bool.{cases_Bool}
use Rattle.sv_xmlcall.specs.Tags.{spelling}
use Rattle.sv_xmlcall.specs.Trees.{Trees, Members, text, no_tree, no_member}
use Rattle.sv_xmlcall.specs.Spells.{IsWhite, Letter, AreLetters, printed_text, text_of, Ending, printed_shut, printed_end, ValueText, Empty, Bare, NoItem, Item, MembersText, NoMember, Member, printed_value, printed_items, printed_members, value_of}
use Rattle.sv_xmlcall.specs.Machine.{Limits, AtValue, AtForm, AtItems, AtMembers, AtName, AtMemberEnd, InName, Frame, InArray, InMember, NotRead, TooDeep, At, Opened, at, run, enter, after_value, counted, kept, kept_member, open_value, empty_value, tags_of}
use Rattle.sv_xmlcall.specs.declared.tag.Tag.{Tag}
use Rattle.sv_xmlcall.specs.declared.tag.Tag.TheVariants as tag
use Rattle.sv_xmlcall.proofs.ValuePassing.{count_behind, held}
use Rattle.sv_xmlcall.proofs.TagsBack.{IsOneOf, only_one}
use Rattle.sv_xmlcall.proofs.ValuesBack.{value_shorter}
use Rattle.sv_xmlcall.proofs.NestedBack.{ahead_shorter, tag_shorter, behind_shorter, opened_shorter, item_parts}
use Rattle.sv_xmlcall.proofs.RefusedLaws.{not_deep}
use Rattle.sv_xmlcall.proofs.Fronts.{IsFront, front_none, front_on, front_behind, Good, good_to, Halts, within_front, ahead_front}
use Rattle.sv_xmlcall.proofs.TextFronts.{end_front, closes_front, end_begins}
use Rattle.sv_xmlcall.proofs.NumberFronts.{text_front}
use Rattle.sv_xmlcall.proofs.FormFronts.{front_two, good_one, good_two, FormFronts, FormBehind, ItemsFronts, ItemsBehind, MembersFronts, MembersBehind}
use Rattle.sv_xmlcall.proofs.ValueFronts.{plain_end, ValueFronts, ValueBehind, white_begins, form_begins, tag_begins, shortest, form_behind, white_end, bare_front, opened_front, form_tag_front, FormHalts, EndGoes}

good_back : (P : List ℕ → Type 0) (a b rest : List ℕ) (left : ℕ) → Good (λ g. P (a ++ (b ++ g))) rest left → Good (λ g. P (a ++ b ++ g)) rest left
good_back P a b rest left x = good_to (λ g. P (a ++ (b ++ g))) (λ g. P (a ++ b ++ g)) rest left (λ g y. subst P (sym (append_assoc a b g)) y) x

-- what is read after a tag of a value
opened_halts : (limits : Limits) (frames : List Frame) (count : ℕ) (rest : List ℕ) (left : ℕ) → Halts limits (open_value limits frames count) count rest left
    → run limits (at (Opened []) frames (counted limits count)) rest ≡ NotRead left
opened_halts limits frames count rest left h = elim (cases_Bool (leb (length frames) limits.nesting)) [
  | inl l ↦ rw l at h
  | inr l ↦ let bad : TooDeep ≡ NotRead left = rw l at h in not_deep left bad
]

emptied_halts : (limits : Limits) (frames : List Frame) (count : ℕ) (rest : List ℕ) (left : ℕ) → Halts limits (empty_value limits frames count) count rest left
    → run limits (after_value limits (text []) frames (counted limits count)) rest ≡ NotRead left
emptied_halts limits frames count rest left h = elim (cases_Bool (leb (length frames) limits.nesting)) [
  | inl l ↦ rw l at h
  | inr l ↦ let bad : TooDeep ≡ NotRead left = rw l at h in not_deep left bad
]

-- the shortest value of a tag
bare_value : ValueText
bare_value = Bare [] []

abbrev AgainForm : Limits → List Frame → ℕ → List ℕ → ℕ → Type 1
AgainForm limits frames count rest0 left = (gap : List ℕ) (t : Tag) (behind : List ℕ) (P : List ℕ → Type 0) → length behind < length rest0 → FormFronts P → FormBehind limits frames count (spelling t ++ behind) left P
    → (t ≡ tag.EndValue → EndGoes limits gap frames count behind left P) → IsOneOf t (tags_of (AtForm gap)) → FormHalts limits gap frames count t behind left → Good (λ g. P (spelling t ++ g)) behind left

full_of : (limits : Limits) (frames : List Frame) (count : ℕ) (rest0 : List ℕ) (left : ℕ) (P : List ℕ → Type 0) → ValueFronts P → ValueBehind limits frames count (spelling tag.Value ++ rest0) left P
    → AgainForm limits frames count rest0 left → run limits (at (Opened []) frames (counted limits count)) rest0 ≡ NotRead left → Good (λ g. P (spelling tag.Value ++ g)) rest0 left
full_of limits frames count rest0 left P fail more again e =
    opened_front limits [] frames (counted limits count) rest0 left (λ g. P (spelling tag.Value ++ g))
    (λ gap w. subst (λ (x : List ℕ). P (spelling tag.Value ++ x)) (append-nil gap) (white_begins P fail gap w [] (front_none (spelling tag.EndValue))))
    (λ gap w rest p f.
    within_front limits (AtForm gap) frames (counted limits count) rest left (λ g. P (spelling tag.Value ++ (gap ++ g))) (tag.I4, inl refl)
    (λ t i g h. tag_begins P fail gap w t (shortest gap t i) g h)
    (λ t behind i q h.
    again gap t behind (λ g. P (spelling tag.Value ++ (gap ++ g))) (opened_shorter gap rest rest0 t behind p q)
    (λ form r g k. form_begins P fail gap w form r g k)
    (form_behind limits frames count rest0 gap (spelling t ++ behind) left P fail more w (p ∙ ap (λ (x : List ℕ). gap ++ x) q))
    (λ is. white_end limits frames count rest0 gap behind left P fail more w (p ∙ ap (λ (x : List ℕ). gap ++ x) (q ∙ ap (λ (x : Tag). spelling x ++ behind) is)))
    i h)
    f)
    (λ gap w rest p f. bare_front limits frames count rest0 gap rest left P fail more w p f)
    e

abbrev AgainFull : Limits → List ℕ → ℕ → Type 1
AgainFull limits bs left = (frames : List Frame) (count : ℕ) (rest : List ℕ) (P : List ℕ → Type 0) → length rest < length bs → ValueFronts P → ValueBehind limits frames count (spelling tag.Value ++ rest) left P
    → run limits (at (Opened []) frames (counted limits count)) rest ≡ NotRead left → Good (λ g. P (spelling tag.Value ++ g)) rest left

abbrev AgainMore : Limits → List Frame → List ℕ → ℕ → Type 1
AgainMore limits frames bs left = (before : Trees) (count : ℕ) (rest : List ℕ) (P : List ℕ → Type 0) → length rest < length bs → ItemsFronts P → ItemsBehind limits before frames count rest left P
    → run limits (at (At (AtItems before)) frames count) rest ≡ NotRead left → Good P rest left

-- a value of an array, whole or not
item_fails : (P : List ℕ → Type 0) → ItemsFronts P → (gap : List ℕ) → IsWhite gap → ValueFronts (λ g. P (gap ++ g))
item_fails P fail gap w = λ value r g f. fail (Item gap value NoItem) (w, r, tt) plain_end (refl, refl) (gap ++ g)
    (front_on (gap ++ g) (gap ++ printed_value value ++ []) (printed_end tag.EndData plain_end) (front_on (gap ++ g) (gap ++ printed_value value) [] (front_behind gap g (printed_value value) f)))

item_goes : (limits : Limits) (before : Trees) (frames : List Frame) (count : ℕ) (bs : List ℕ) (left : ℕ) (P : List ℕ → Type 0) → ItemsFronts P → ItemsBehind limits before frames count bs left P
    → (gap s rest : List ℕ) → IsWhite gap → bs ≡ gap ++ s ++ rest → AgainMore limits frames bs left
    → ValueBehind limits (InArray before ∷ frames) count (s ++ rest) left (λ g. P (gap ++ g))
item_goes limits before frames count bs left P fail more gap s rest w p again = λ value r behind q e.
    let a = gap ++ printed_value value in
    let k = count_behind limits (value_of value) count in
    let shorter : length behind < length bs = let h = value_shorter value behind (s ++ rest) q in omega (arith, ap length p, length-append (gap ++ s) rest, length-append gap s, length-append s rest) in
    good_one P gap (printed_value value) behind left
    (again (kept limits k before (held limits (value_of value) count)) k behind (λ g. P (a ++ g)) shorter
    (λ items r2 ending x g f. fail (Item gap value items) (w, r, r2) ending x (a ++ g) (front_two a g (printed_items items) (printed_end tag.EndData ending) f))
    (λ items r2 ending x last q2 e2.
    good_two P a (printed_items items) (printed_end tag.EndData ending) last left
    (more (Item gap value items) (w, r, r2) ending x last (p ∙ item_parts gap s rest (printed_value value) behind (printed_items items) (printed_end tag.EndData ending) last q q2) e2))
    e)

abbrev ItemHalts : Limits → Trees → List Frame → ℕ → Tag → List ℕ → ℕ → Type 0
ItemHalts limits before frames count t rest left = Halts limits (enter limits (AtItems before) t frames count) count rest left

items_begin : (before : Trees) (P : List ℕ → Type 0) → ItemsFronts P → (gap : List ℕ) → IsWhite gap → (t : Tag) → IsOneOf t (tags_of (AtItems before)) → (g : List ℕ) → IsFront g (spelling t) → P (gap ++ g)
items_begin before P fail gap w t (inl is) g f =
    item_fails P fail gap w (Bare [] []) (tt, refl) g (front_on g (spelling tag.Value) (codes "</value>") (subst (λ (x : Tag). IsFront g (spelling x)) is f))
items_begin before P fail gap w t (inr (inl is)) g f = item_fails P fail gap w Empty tt g (subst (λ (x : Tag). IsFront g (spelling x)) is f)
items_begin before P fail gap w t (inr (inr (inl is))) g f =
    fail NoItem tt (record { before = gap; inside = [] }) (w, refl) (gap ++ g) (end_begins tag.EndData gap g (subst (λ (x : Tag). IsFront g (spelling x)) is f))
items_begin before P fail gap w t (inr (inr (inr o))) g f = absurd o

items_go : (limits : Limits) (before : Trees) (frames : List Frame) (count : ℕ) (bs : List ℕ) (left : ℕ) (P : List ℕ → Type 0) → ItemsFronts P → ItemsBehind limits before frames count bs left P
    → AgainFull limits bs left → AgainMore limits frames bs left → (gap : List ℕ) → IsWhite gap → (t : Tag) (rest : List ℕ) → IsOneOf t (tags_of (AtItems before)) → bs ≡ gap ++ spelling t ++ rest
    → ItemHalts limits before frames count t rest left → Good (λ g. P (gap ++ spelling t ++ g)) rest left
items_go limits before frames count bs left P fail more full again gap w t rest (inl is) p h =
    let q : bs ≡ gap ++ spelling tag.Value ++ rest = p ∙ ap (λ (x : Tag). gap ++ spelling x ++ rest) is in
    subst (λ (x : Tag). Good (λ g. P (gap ++ spelling x ++ g)) rest left) (sym is)
    (good_back P gap (spelling tag.Value) rest left
    (full (InArray before ∷ frames) count rest (λ g. P (gap ++ g)) (ahead_shorter gap tag.Value rest bs q) (item_fails P fail gap w)
    (item_goes limits before frames count bs left P fail more gap (spelling tag.Value) rest w q again)
    (opened_halts limits (InArray before ∷ frames) count rest left (subst (λ (x : Tag). ItemHalts limits before frames count x rest left) is h))))
items_go limits before frames count bs left P fail more full again gap w t rest (inr (inl is)) p h =
    let q : bs ≡ gap ++ spelling tag.NoValue ++ rest = p ∙ ap (λ (x : Tag). gap ++ spelling x ++ rest) is in
    subst (λ (x : Tag). Good (λ g. P (gap ++ spelling x ++ g)) rest left) (sym is)
    (good_back P gap (spelling tag.NoValue) rest left
    (item_goes limits before frames count bs left P fail more gap (spelling tag.NoValue) rest w q again Empty tt rest refl
    (emptied_halts limits (InArray before ∷ frames) count rest left (subst (λ (x : Tag). ItemHalts limits before frames count x rest left) is h))))
items_go limits before frames count bs left P fail more full again gap w t rest (inr (inr (inl is))) p h =
    let q : bs ≡ gap ++ spelling tag.EndData ++ rest = p ∙ ap (λ (x : Tag). gap ++ spelling x ++ rest) is in
    subst (λ (x : Tag). Good (λ g. P (gap ++ spelling x ++ g)) rest left) (sym is)
    (closes_front limits (AtItems before) tag.EndData frames count gap rest bs left P w q
    (λ ending x g f. fail NoItem tt ending x g f) (λ ending x last q2 e2. more NoItem tt ending x last q2 e2)
    (subst (λ (x : Tag). ItemHalts limits before frames count x rest left) is h))
items_go limits before frames count bs left P fail more full again gap w t rest (inr (inr (inr o))) p h = absurd o

pub on_two : (h x a b : List ℕ) → IsFront h x → IsFront h (x ++ a ++ b)
on_two h x a b f = front_on h (x ++ a) b (front_on h x a f)

pub on_three : (h x a b c : List ℕ) → IsFront h x → IsFront h (x ++ a ++ b ++ c)
on_three h x a b c f = front_on h (x ++ a ++ b) c (on_two h x a b f)

pub on_five : (h x a b c d e : List ℕ) → IsFront h x → IsFront h (x ++ a ++ b ++ c ++ d ++ e)
on_five h x a b c d e f = on_two h (x ++ a ++ b ++ c) d e (on_three h x a b c f)

pub on_seven : (h x a b c d e i j : List ℕ) → IsFront h x → IsFront h (x ++ a ++ b ++ c ++ d ++ e ++ i ++ j)
on_seven h x a b c d e i j f = on_two h (x ++ a ++ b ++ c ++ d ++ e) i j (on_five h x a b c d e f)

on_nine : (h x a b c d e i j k l : List ℕ) → IsFront h x → IsFront h (x ++ a ++ b ++ c ++ d ++ e ++ i ++ j ++ k ++ l)
on_nine h x a b c d e i j k l f = on_two h (x ++ a ++ b ++ c ++ d ++ e ++ i ++ j) k l (on_seven h x a b c d e i j f)

abbrev AgainMember : Limits → List Frame → List ℕ → ℕ → Type 1
AgainMember limits frames bs left = (before : Members) (count : ℕ) (rest : List ℕ) (P : List ℕ → Type 0) → length rest < length bs → MembersFronts P → MembersBehind limits before frames count rest left P
    → run limits (at (At (AtMembers before)) frames count) rest ≡ NotRead left → Good P rest left

-- the white space, the names and the closing tags of one member
record Naming : Type 0 where
  gap : List ℕ
  before_name : List ℕ
  name : List Letter
  inside : List ℕ
  before_value : List ℕ

record IsNaming (n : Naming) : Type 0 where
  gap : IsWhite n.gap
  before_name : IsWhite n.before_name
  name : AreLetters n.name
  inside : IsWhite n.inside
  before_value : IsWhite n.before_value

abbrev named : Naming → List ℕ
named n = n.gap ++ spelling tag.Member ++ n.before_name ++ spelling tag.Name ++ printed_text n.name ++ printed_shut tag.EndName n.inside ++ n.before_value

abbrev membered : Naming → ValueText → Ending → MembersText → MembersText
membered n value ending members = Member n.gap n.before_name n.name n.inside n.before_value value ending members

-- the value of a member, whole or not
member_fails : (P : List ℕ → Type 0) → MembersFronts P → (n : Naming) → IsNaming n → ValueFronts (λ g. P (named n ++ g))
member_fails P fail n i = λ value r g f.
    fail (membered n value plain_end NoMember) (i.gap, i.before_name, i.name, i.inside, i.before_value, r, (refl, refl), tt) plain_end (refl, refl) (named n ++ g)
    (on_three (named n ++ g) (named n ++ printed_value value) (printed_end tag.EndMember plain_end) [] (printed_end tag.EndStruct plain_end) (front_behind (named n) g (printed_value value) f))

named_parts : (a m b n t s g2 rest : List ℕ) → a ++ m ++ (b ++ n ++ (t ++ s ++ (g2 ++ rest))) ≡ a ++ m ++ b ++ n ++ t ++ s ++ g2 ++ rest
named_parts a m b n t s g2 rest = simp append_assoc refl

value_parts : (a v e m x r behind last : List ℕ) → behind ≡ e ++ last → last ≡ m ++ x ++ r → a ++ (v ++ behind) ≡ a ++ v ++ e ++ m ++ x ++ r
value_parts a v e m x r behind last p q = ap (λ (y : List ℕ). a ++ (v ++ y)) (p ∙ ap (λ (y : List ℕ). e ++ y) q) ∙ regroup a v e m x r
  where
    regroup : (a v e m x r : List ℕ) → a ++ (v ++ (e ++ (m ++ x ++ r))) ≡ a ++ v ++ e ++ m ++ x ++ r
    regroup a v e m x r = simp append_assoc refl

-- after the value of a member
member_goes : (limits : Limits) (before : Members) (frames : List Frame) (count : ℕ) (bs : List ℕ) (left : ℕ) (P : List ℕ → Type 0) → MembersFronts P → MembersBehind limits before frames count bs left P
    → (n : Naming) → IsNaming n → (tail : List ℕ) → bs ≡ named n ++ tail → AgainMember limits frames bs left
    → ValueBehind limits (InMember before (text_of n.name) ∷ frames) count tail left (λ g. P (named n ++ g))
member_goes limits before frames count bs left P fail more n i tail p again = λ value r behind q e.
    let a = named n ++ printed_value value in
    let k = count_behind limits (value_of value) count in
    let members = kept_member limits k before (text_of n.name) (held limits (value_of value) count) in
    good_one P (named n) (printed_value value) behind left
    (end_front limits (AtMemberEnd members) tag.EndMember frames k behind left (λ g. P (a ++ g)) (record { only = refl; goes_on = tt; shut = λ frames count. refl })
    (λ ending x g f. fail (membered n value ending NoMember) (i.gap, i.before_name, i.name, i.inside, i.before_value, r, x, tt) plain_end (refl, refl) (a ++ g)
    (on_two (a ++ g) (a ++ printed_end tag.EndMember ending) [] (printed_end tag.EndStruct plain_end) (front_behind a g (printed_end tag.EndMember ending) f)))
    (λ ending x last q2 e2.
    let b = a ++ printed_end tag.EndMember ending in
    let shorter : length last < length bs =
    let h = value_shorter value behind tail q in
    let j = behind_shorter (printed_end tag.EndMember ending) last behind q2 in
    let m = behind_shorter (named n) tail bs p in omega arith in
    good_one P a (printed_end tag.EndMember ending) last left
    (again members k last (λ g. P (b ++ g)) shorter
    (λ ms r2 ending2 y g f. fail (membered n value ending ms) (i.gap, i.before_name, i.name, i.inside, i.before_value, r, x, r2) ending2 y (b ++ g) (front_two b g (printed_members ms) (printed_end tag.EndStruct ending2) f))
    (λ ms r2 ending2 y end q3 e3.
    good_two P b (printed_members ms) (printed_end tag.EndStruct ending2) end left
    (more (membered n value ending ms) (i.gap, i.before_name, i.name, i.inside, i.before_value, r, x, r2) ending2 y end
    (p ∙ ap (λ (z : List ℕ). named n ++ z) q
    ∙ value_parts (named n) (printed_value value) (printed_end tag.EndMember ending) (printed_members ms) (printed_end tag.EndStruct ending2) end behind last q2 q3) e3))
    e2))
    e)

abbrev ValueHalts : Limits → List Frame → ℕ → Tag → List ℕ → ℕ → Type 0
ValueHalts limits frames count t rest left = Halts limits (enter limits AtValue t frames count) count rest left

-- white space and a value, in whatever frames
pub value_begins : (P : List ℕ → Type 0) → ValueFronts P → (t : Tag) → IsOneOf t (tags_of AtValue) → (g : List ℕ) → IsFront g (spelling t) → P g
value_begins P fail t (inl is) g f = fail (Bare [] []) (tt, refl) g (front_on g (spelling tag.Value) (codes "</value>") (subst (λ (x : Tag). IsFront g (spelling x)) is f))
value_begins P fail t (inr (inl is)) g f = fail Empty tt g (subst (λ (x : Tag). IsFront g (spelling x)) is f)
value_begins P fail t (inr (inr o)) g f = absurd o

value_goes : (limits : Limits) (frames : List Frame) (count : ℕ) (rest : List ℕ) (left : ℕ) (P : List ℕ → Type 0) (t : Tag) → ValueFronts P → ValueBehind limits frames count (spelling t ++ rest) left P
    → ((P : List ℕ → Type 0) → ValueFronts P → ValueBehind limits frames count (spelling tag.Value ++ rest) left P → run limits (at (Opened []) frames (counted limits count)) rest ≡ NotRead left → Good (λ g. P (spelling tag.Value ++ g)) rest left)
    → IsOneOf t (tags_of AtValue) → ValueHalts limits frames count t rest left → Good (λ g. P (spelling t ++ g)) rest left
value_goes limits frames count rest left P t fail more full (inl is) h =
    subst (λ (x : Tag). Good (λ g. P (spelling x ++ g)) rest left) (sym is)
    (full P fail (subst (λ (x : Tag). ValueBehind limits frames count (spelling x ++ rest) left P) is more)
    (opened_halts limits frames count rest left (subst (λ (x : Tag). ValueHalts limits frames count x rest left) is h)))
value_goes limits frames count rest left P t fail more full (inr (inl is)) h =
    subst (λ (x : Tag). Good (λ g. P (spelling x ++ g)) rest left) (sym is)
    (subst (λ (x : Tag). ValueBehind limits frames count (spelling x ++ rest) left P) is more Empty tt rest refl
    (emptied_halts limits frames count rest left (subst (λ (x : Tag). ValueHalts limits frames count x rest left) is h)))
value_goes limits frames count rest left P t fail more full (inr (inr o)) h = absurd o

-- a member after its opening tag
name_front : (limits : Limits) (before : Members) (frames : List Frame) (count : ℕ) (bs rest : List ℕ) (left : ℕ) (P : List ℕ → Type 0) → MembersFronts P → MembersBehind limits before frames count bs left P
    → (gap : List ℕ) → IsWhite gap → bs ≡ gap ++ spelling tag.Member ++ rest → AgainFull limits bs left → AgainMember limits frames bs left
    → run limits (at (At (AtName before)) frames count) rest ≡ NotRead left → Good (λ g. P (gap ++ spelling tag.Member ++ g)) rest left
name_front limits before frames count bs rest left P fail more gap w p full again e =
    let a = gap ++ spelling tag.Member in
    ahead_front limits (AtName before) frames count rest left (λ g. P (a ++ g)) tt (tag.Name, inl refl)
    (λ bn v t i g f.
    let h = front_behind (a ++ bn) g (spelling tag.Name) (subst (λ (x : Tag). IsFront g (spelling x)) (only_one t tag.Name (tags_of (AtName before)) refl i) f) in
    subst P (append_assoc a bn g)
    (fail (Member gap bn [] [] [] Empty plain_end NoMember) (w, v, tt, refl, refl, tt, (refl, refl), tt) plain_end (refl, refl) (a ++ bn ++ g)
    (on_seven (a ++ bn ++ g) (a ++ bn ++ spelling tag.Name) [] (printed_shut tag.EndName []) [] (spelling tag.NoValue) (printed_end tag.EndMember plain_end) [] (printed_end tag.EndStruct plain_end) h)))
    (λ bn v t rest1 i q h.
    let is = only_one t tag.Name (tags_of (AtName before)) refl i in
    let b = a ++ bn ++ spelling tag.Name in
    good_two P a bn (spelling t) rest1 left
    (subst (λ (x : Tag). Good (λ g. P (a ++ bn ++ spelling x ++ g)) rest1 left) (sym is)
    (text_front (suc (length rest1)) limits (InName before) [] frames count rest1 left (λ g. P (b ++ g)) (le_refl (suc (length rest1)))
    (λ letters r inside k m g f.
    fail (Member gap bn letters inside [] Empty plain_end NoMember) (w, v, r, k, refl, tt, (refl, refl), tt) plain_end (refl, refl) (b ++ g)
    (on_five (b ++ g) (b ++ printed_text letters ++ printed_shut tag.EndName inside) [] (spelling tag.NoValue) (printed_end tag.EndMember plain_end) [] (printed_end tag.EndStruct plain_end)
    (front_two b g (printed_text letters) (printed_shut tag.EndName inside) f)))
    (λ letters r inside k rest2 m q2 e2.
    let c = b ++ printed_text letters ++ printed_shut tag.EndName inside in
    let inner = InMember before (text_of letters) ∷ frames in
    good_two P b (printed_text letters) (printed_shut tag.EndName inside) rest2 left
    (ahead_front limits AtValue inner count rest2 left (λ g. P (c ++ g)) tt (tag.Value, inl refl)
    (λ g2 v2 t2 i2 g f.
    let n : Naming = record { gap = gap; before_name = bn; name = letters; inside = inside; before_value = g2 } in
    let right : IsNaming n = record { gap = w; before_name = v; name = r; inside = k; before_value = v2 } in
    subst P (append_assoc c g2 g) (value_begins (λ x. P (named n ++ x)) (member_fails P fail n right) t2 i2 g f))
    (λ g2 v2 t2 rest3 i2 q3 h2.
    let n : Naming = record { gap = gap; before_name = bn; name = letters; inside = inside; before_value = g2 } in
    let right : IsNaming n = record { gap = w; before_name = v; name = r; inside = k; before_value = v2 } in
    let whole : bs ≡ named n ++ (spelling t2 ++ rest3) =
    p ∙ ap (λ (x : List ℕ). a ++ x) (q ∙ ap (λ (x : Tag). bn ++ spelling x ++ rest1) is ∙ ap (λ (x : List ℕ). bn ++ spelling tag.Name ++ x) (q2 ∙ ap (λ (x : List ℕ). printed_text letters ++ printed_shut tag.EndName inside ++ x) (q3 ∙ append_assoc g2 (spelling t2) rest3)))
    ∙ named_parts gap (spelling tag.Member) bn (spelling tag.Name) (printed_text letters) (printed_shut tag.EndName inside) g2 (spelling t2 ++ rest3) in
    let s1 : length rest3 < length (spelling t2 ++ rest3) = tag_shorter t2 rest3 (spelling t2 ++ rest3) refl in
    let s2 : length (spelling t2 ++ rest3) ≤ length bs = behind_shorter (named n) (spelling t2 ++ rest3) bs whole in
    good_two P c g2 (spelling t2) rest3 left
    (good_back P (named n) (spelling t2) rest3 left
    (value_goes limits inner count rest3 left (λ g. P (named n ++ g)) t2 (member_fails P fail n right)
    (member_goes limits before frames count bs left P fail more n right (spelling t2 ++ rest3) whole again)
    (λ Q fail more e. full inner count rest3 Q (omega arith) fail more e) i2 h2)))
    e2))
    (subst (λ (x : Tag). Halts limits (enter limits (AtName before) x frames count) count rest1 left) is h))))
    e

members_begin : (before : Members) (P : List ℕ → Type 0) → MembersFronts P → (gap : List ℕ) → IsWhite gap → (t : Tag) → IsOneOf t (tags_of (AtMembers before)) → (g : List ℕ) → IsFront g (spelling t) → P (gap ++ g)
members_begin before P fail gap w t (inl is) g f =
    let h = front_behind gap g (spelling tag.Member) (subst (λ (x : Tag). IsFront g (spelling x)) is f) in
    fail (Member gap [] [] [] [] Empty plain_end NoMember) (w, refl, tt, refl, refl, tt, (refl, refl), tt) plain_end (refl, refl) (gap ++ g)
    (on_nine (gap ++ g) (gap ++ spelling tag.Member) [] (spelling tag.Name) [] (printed_shut tag.EndName []) [] (spelling tag.NoValue) (printed_end tag.EndMember plain_end) [] (printed_end tag.EndStruct plain_end) h)
members_begin before P fail gap w t (inr (inl is)) g f =
    fail NoMember tt (record { before = gap; inside = [] }) (w, refl) (gap ++ g) (end_begins tag.EndStruct gap g (subst (λ (x : Tag). IsFront g (spelling x)) is f))
members_begin before P fail gap w t (inr (inr o)) g f = absurd o

abbrev MemberHalts : Limits → Members → List Frame → ℕ → Tag → List ℕ → ℕ → Type 0
MemberHalts limits before frames count t rest left = Halts limits (enter limits (AtMembers before) t frames count) count rest left

members_go : (limits : Limits) (before : Members) (frames : List Frame) (count : ℕ) (bs : List ℕ) (left : ℕ) (P : List ℕ → Type 0) → MembersFronts P → MembersBehind limits before frames count bs left P
    → AgainFull limits bs left → AgainMember limits frames bs left → (gap : List ℕ) → IsWhite gap → (t : Tag) (rest : List ℕ) → IsOneOf t (tags_of (AtMembers before)) → bs ≡ gap ++ spelling t ++ rest
    → MemberHalts limits before frames count t rest left → Good (λ g. P (gap ++ spelling t ++ g)) rest left
members_go limits before frames count bs left P fail more full again gap w t rest (inl is) p h =
    subst (λ (x : Tag). Good (λ g. P (gap ++ spelling x ++ g)) rest left) (sym is)
    (name_front limits before frames count bs rest left P fail more gap w (p ∙ ap (λ (x : Tag). gap ++ spelling x ++ rest) is) full again
    (subst (λ (x : Tag). MemberHalts limits before frames count x rest left) is h))
members_go limits before frames count bs left P fail more full again gap w t rest (inr (inl is)) p h =
    let q : bs ≡ gap ++ spelling tag.EndStruct ++ rest = p ∙ ap (λ (x : Tag). gap ++ spelling x ++ rest) is in
    subst (λ (x : Tag). Good (λ g. P (gap ++ spelling x ++ g)) rest left) (sym is)
    (closes_front limits (AtMembers before) tag.EndStruct frames count gap rest bs left P w q
    (λ ending x g f. fail NoMember tt ending x g f) (λ ending x last q2 e2. more NoMember tt ending x last q2 e2)
    (subst (λ (x : Tag). MemberHalts limits before frames count x rest left) is h))
members_go limits before frames count bs left P fail more full again gap w t rest (inr (inr o)) p h = absurd o

mutual
  full_front : (fuel : ℕ) (limits : Limits) (frames : List Frame) (count : ℕ) (rest : List ℕ) (left : ℕ) (P : List ℕ → Type 0) → 3 * length rest + 3 ≤ fuel → ValueFronts P → ValueBehind limits frames count (spelling tag.Value ++ rest) left P
      → run limits (at (Opened []) frames (counted limits count)) rest ≡ NotRead left → Good (λ g. P (spelling tag.Value ++ g)) rest left
  full_front zero limits frames count rest left P l fail more e = absurd (omega arith)
  full_front (suc fuel) limits frames count rest left P l fail more e =
      full_of limits frames count rest left P fail more
      (λ gap t behind Q s fail more end i h. form_front fuel limits gap frames count t behind left Q (omega arith) fail more end i h)
      e

  form_front : (fuel : ℕ) (limits : Limits) (white : List ℕ) (frames : List Frame) (count : ℕ) (t : Tag) (rest : List ℕ) (left : ℕ) (P : List ℕ → Type 0) → 3 * length rest + 2 ≤ fuel → FormFronts P → FormBehind limits frames count (spelling t ++ rest) left P
      → (t ≡ tag.EndValue → EndGoes limits white frames count rest left P) → IsOneOf t (tags_of (AtForm white)) → FormHalts limits white frames count t rest left → Good (λ g. P (spelling t ++ g)) rest left
  form_front zero limits white frames count t rest left P l fail more end i h = absurd (omega arith)
  form_front (suc fuel) limits white frames count t rest left P l fail more end i h =
      form_tag_front limits white frames count t rest left P fail more
      (λ Q fail more e. members_front fuel limits no_member frames (counted limits count) rest left Q (omega arith) fail more e)
      (λ Q behind s fail more e. items_front fuel limits no_tree frames (counted limits count) behind left Q (omega arith) fail more e)
      end i h

  items_front : (fuel : ℕ) (limits : Limits) (before : Trees) (frames : List Frame) (count : ℕ) (bs : List ℕ) (left : ℕ) (P : List ℕ → Type 0) → 3 * length bs + 1 ≤ fuel → ItemsFronts P → ItemsBehind limits before frames count bs left P
      → run limits (at (At (AtItems before)) frames count) bs ≡ NotRead left → Good P bs left
  items_front zero limits before frames count bs left P l fail more e = absurd (omega arith)
  items_front (suc fuel) limits before frames count bs left P l fail more e =
      ahead_front limits (AtItems before) frames count bs left P tt (tag.Value, inl refl)
      (λ gap w t i g f. items_begin before P fail gap w t i g f)
      (λ gap w t rest i p h. items_go limits before frames count bs left P fail more
      (λ frames count rest Q s fail more e. full_front fuel limits frames count rest left Q (omega arith) fail more e)
      (λ before count rest Q s fail more e. items_front fuel limits before frames count rest left Q (omega arith) fail more e)
      gap w t rest i p h)
      e

  members_front : (fuel : ℕ) (limits : Limits) (before : Members) (frames : List Frame) (count : ℕ) (bs : List ℕ) (left : ℕ) (P : List ℕ → Type 0) → 3 * length bs + 1 ≤ fuel → MembersFronts P → MembersBehind limits before frames count bs left P
      → run limits (at (At (AtMembers before)) frames count) bs ≡ NotRead left → Good P bs left
  members_front zero limits before frames count bs left P l fail more e = absurd (omega arith)
  members_front (suc fuel) limits before frames count bs left P l fail more e =
      ahead_front limits (AtMembers before) frames count bs left P tt (tag.Member, inl refl)
      (λ gap w t i g f. members_begin before P fail gap w t i g f)
      (λ gap w t rest i p h. members_go limits before frames count bs left P fail more
      (λ frames count rest Q s fail more e. full_front fuel limits frames count rest left Q (omega arith) fail more e)
      (λ before count rest Q s fail more e. members_front fuel limits before frames count rest left Q (omega arith) fail more e)
      gap w t rest i p h)
      e

-- before a value
pub value_front : (limits : Limits) (frames : List Frame) (count : ℕ) (bs : List ℕ) (left : ℕ) (P : List ℕ → Type 0)
    → ((gap : List ℕ) → IsWhite gap → ValueFronts (λ g. P (gap ++ g)))
    → ((gap : List ℕ) → IsWhite gap → (tail : List ℕ) → bs ≡ gap ++ tail → ValueBehind limits frames count tail left (λ g. P (gap ++ g)))
    → run limits (at (At AtValue) frames count) bs ≡ NotRead left → Good P bs left
value_front limits frames count bs left P fail more e =
    ahead_front limits AtValue frames count bs left P tt (tag.Value, inl refl)
    (λ gap w t i g f. value_begins (λ x. P (gap ++ x)) (fail gap w) t i g f)
    (λ gap w t rest i p h.
    good_back P gap (spelling t) rest left
    (value_goes limits frames count rest left (λ g. P (gap ++ g)) t (fail gap w) (more gap w (spelling t ++ rest) (p ∙ append_assoc gap (spelling t) rest))
    (λ Q fail more e. full_front (3 * length rest + 3) limits frames count rest left Q (le_refl (3 * length rest + 3)) fail more e) i h))
    e
