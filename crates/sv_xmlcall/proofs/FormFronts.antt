-- Prefixes of texts: where reading is refused within a form, the bytes before begin one.
use Rattle.std.proofs.Common.{◌≡◌, ℕ, suc, ◌<◌, Bool, true, false, eqb, List, [], ◌∷◌, ◌++◌, length, inl, inr, refl, sym, ap, ◌∙◌, subst, append_assoc, codes, le_refl}
use Rattle.std.specs.Str.Parse.{digits_value}
use Rattle.std.proofs.lemmas.Bool.{cases_Bool, eqb-true}
use Rattle.sv_xmlcall.specs.Tags.{spelling}
use Rattle.sv_xmlcall.specs.Spelled.{signed}
use Rattle.sv_xmlcall.specs.Trees.{Trees, Members, structure, no_tree, no_member}
use Rattle.sv_xmlcall.specs.Spells.{printed_text, Ending, IsEnding, printed_shut, printed_end, printed_mark, is_minus, integer_tag, integer_end, truth_digit, Kind, Double, Date, Base, kind_tag, FormText, Integer, Truth, Text, Other, Struct, ItemsText, MembersText, printed_form, printed_items, printed_members, form_of, items_of, members_of, IsForm, AreItems, AreMembers}
use Rattle.sv_xmlcall.specs.Machine.{Limits, AtFormEnd, AtItems, AtArrayEnd, AtMembers, AtIntegerEnd, AtTruthEnd, InString, InDouble, InDate, InBase, Frame, NotRead, At, Within, Digits, TruthDigit, Fresh, at, run, counted, tags_of, words_of}
use Rattle.sv_xmlcall.specs.declared.tag.Tag.TheVariants as tag
use Rattle.sv_xmlcall.proofs.Passing.{in_text}
use Rattle.sv_xmlcall.proofs.ValuePassing.{count_behind, count_behind_values, count_behind_members, held, held_values, held_members, kind_content}
use Rattle.sv_xmlcall.proofs.ValuesBack.{alone_integer}
use Rattle.sv_xmlcall.proofs.RefusedLaws.{unless_left}
use Rattle.sv_xmlcall.proofs.Fronts.{IsFront, front_on, front_behind, front_to, Good, good_here, good_behind, good_to}
use Rattle.sv_xmlcall.proofs.TextFronts.{shut_front}
use Rattle.sv_xmlcall.proofs.NumberFronts.{text_front, integer_front}

pub front_trans : (g a b : List ℕ) → IsFront g a → IsFront a b → IsFront g b
front_trans g a b f h = (f.0 ++ h.0, sym (append_assoc g f.0 h.0) ∙ ap (λ (x : List ℕ). x ++ h.0) f.1 ∙ h.1)

-- a prefix of two parts after others
pub front_two : (a g b c : List ℕ) → IsFront g (b ++ c) → IsFront (a ++ g) (a ++ b ++ c)
front_two a g b c f = front_to (a ++ g) (a ++ (b ++ c)) (a ++ b ++ c) (front_behind a g (b ++ c) f) (sym (append_assoc a b c))

pub good_one : (P : List ℕ → Type 0) (a b rest : List ℕ) (left : ℕ) → Good (λ g. P (a ++ b ++ g)) rest left → Good (λ g. P (a ++ (b ++ g))) rest left
good_one P a b rest left x = good_to (λ g. P (a ++ b ++ g)) (λ g. P (a ++ (b ++ g))) rest left (λ g y. subst P (append_assoc a b g) y) x

two_parts : (a b c g : List ℕ) → a ++ b ++ c ++ g ≡ a ++ (b ++ c ++ g)
two_parts a b c g = simp append_assoc refl

pub good_two : (P : List ℕ → Type 0) (a b c rest : List ℕ) (left : ℕ) → Good (λ g. P (a ++ b ++ c ++ g)) rest left → Good (λ g. P (a ++ (b ++ c ++ g))) rest left
good_two P a b c rest left x = good_to (λ g. P (a ++ b ++ c ++ g)) (λ g. P (a ++ (b ++ c ++ g))) rest left (λ g y. subst P (two_parts a b c g) y) x

abbrev pub FormFronts : (List ℕ → Type 0) → Type 0
FormFronts P = (form : FormText) → IsForm form → (g : List ℕ) → IsFront g (printed_form form) → P g

abbrev pub FormBehind : Limits → List Frame → ℕ → List ℕ → ℕ → (List ℕ → Type 0) → Type 0
FormBehind limits frames count bs left P = (form : FormText) → IsForm form → (rest : List ℕ) → bs ≡ printed_form form ++ rest
    → run limits (at (At (AtFormEnd (held limits (form_of form) count))) frames (count_behind limits (form_of form) count)) rest ≡ NotRead left
    → Good (λ g. P (printed_form form ++ g)) rest left

text_parts : (s a e r : List ℕ) → s ++ (a ++ e ++ r) ≡ s ++ a ++ e ++ r
text_parts s a e r = simp append_assoc refl

pub string_front : (limits : Limits) (frames : List Frame) (count : ℕ) (rest : List ℕ) (left : ℕ) (P : List ℕ → Type 0)
    → FormFronts P → FormBehind limits frames count (spelling tag.String ++ rest) left P
    → run limits (in_text InString [] frames (counted limits count)) rest ≡ NotRead left → Good (λ g. P (spelling tag.String ++ g)) rest left
string_front limits frames count rest left P fail more e =
    text_front (suc (length rest)) limits InString [] frames (counted limits count) rest left (λ g. P (spelling tag.String ++ g)) (le_refl (suc (length rest)))
    (λ letters l inside w m g f. fail (Text letters inside) (l, w) (spelling tag.String ++ g) (front_two (spelling tag.String) g (printed_text letters) (printed_shut tag.EndString inside) f))
    (λ letters l inside w behind m p q.
    good_two P (spelling tag.String) (printed_text letters) (printed_shut tag.EndString inside) behind left
    (more (Text letters inside) (l, w) behind (ap (λ (x : List ℕ). spelling tag.String ++ x) p ∙ text_parts (spelling tag.String) (printed_text letters) (printed_shut tag.EndString inside) behind) q))
    e

pub kind_front : (limits : Limits) (kind : Kind) (frames : List Frame) (count : ℕ) (rest : List ℕ) (left : ℕ) (P : List ℕ → Type 0)
    → FormFronts P → FormBehind limits frames count (spelling (kind_tag kind) ++ rest) left P
    → run limits (in_text (kind_content kind) [] frames (counted limits count)) rest ≡ NotRead left → Good (λ g. P (spelling (kind_tag kind) ++ g)) rest left
kind_front limits Double frames count rest left P fail more e =
    text_front (suc (length rest)) limits InDouble [] frames (counted limits count) rest left (λ g. P (spelling tag.Double ++ g)) (le_refl (suc (length rest)))
    (λ letters l inside w m g f. fail (Other Double letters inside) (l, w) (spelling tag.Double ++ g) (front_two (spelling tag.Double) g (printed_text letters) (printed_shut tag.EndDouble inside) f))
    (λ letters l inside w behind m p q.
    good_two P (spelling tag.Double) (printed_text letters) (printed_shut tag.EndDouble inside) behind left
    (more (Other Double letters inside) (l, w) behind (ap (λ (x : List ℕ). spelling tag.Double ++ x) p ∙ text_parts (spelling tag.Double) (printed_text letters) (printed_shut tag.EndDouble inside) behind) q))
    e
kind_front limits Date frames count rest left P fail more e =
    text_front (suc (length rest)) limits InDate [] frames (counted limits count) rest left (λ g. P (spelling tag.DateTime ++ g)) (le_refl (suc (length rest)))
    (λ letters l inside w m g f. fail (Other Date letters inside) (l, w) (spelling tag.DateTime ++ g) (front_two (spelling tag.DateTime) g (printed_text letters) (printed_shut tag.EndDateTime inside) f))
    (λ letters l inside w behind m p q.
    good_two P (spelling tag.DateTime) (printed_text letters) (printed_shut tag.EndDateTime inside) behind left
    (more (Other Date letters inside) (l, w) behind (ap (λ (x : List ℕ). spelling tag.DateTime ++ x) p ∙ text_parts (spelling tag.DateTime) (printed_text letters) (printed_shut tag.EndDateTime inside) behind) q))
    e
kind_front limits Base frames count rest left P fail more e =
    text_front (suc (length rest)) limits InBase [] frames (counted limits count) rest left (λ g. P (spelling tag.Base64 ++ g)) (le_refl (suc (length rest)))
    (λ letters l inside w m g f. fail (Other Base letters inside) (l, w) (spelling tag.Base64 ++ g) (front_two (spelling tag.Base64) g (printed_text letters) (printed_shut tag.EndBase64 inside) f))
    (λ letters l inside w behind m p q.
    good_two P (spelling tag.Base64) (printed_text letters) (printed_shut tag.EndBase64 inside) behind left
    (more (Other Base letters inside) (l, w) behind (ap (λ (x : List ℕ). spelling tag.Base64 ++ x) p ∙ text_parts (spelling tag.Base64) (printed_text letters) (printed_shut tag.EndBase64 inside) behind) q))
    e

number_parts : (s m d g : List ℕ) → s ++ m ++ d ++ g ≡ s ++ (m ++ d ++ g)
number_parts s m d g = simp append_assoc refl

pub integer_form_front : (limits : Limits) (short : Bool) (frames : List Frame) (count : ℕ) (rest : List ℕ) (left : ℕ) (P : List ℕ → Type 0)
    → FormFronts P → FormBehind limits frames count (spelling (integer_tag short) ++ rest) left P
    → run limits (at (Digits short false Fresh 0) frames (counted limits count)) rest ≡ NotRead left → Good (λ g. P (spelling (integer_tag short) ++ g)) rest left
integer_form_front limits short frames count rest left P fail more e =
    let s = spelling (integer_tag short) in
    integer_front limits short frames (counted limits count) rest left (λ g. P (s ++ g))
    (λ mark digits r k g f. fail (Integer short mark digits []) (r, k, refl) (s ++ g)
    (front_on (s ++ g) (s ++ printed_mark mark ++ digits) (printed_shut (integer_end short) []) (front_two s g (printed_mark mark) digits f)))
    (λ mark digits behind r k p q.
    let n = signed (is_minus mark) (digits_value 10 digits) in
    good_two P s (printed_mark mark) digits behind left
    (shut_front limits (AtIntegerEnd short n) (integer_end short) frames (counted limits count) behind left (λ g. P (s ++ printed_mark mark ++ digits ++ g)) (alone_integer limits short n)
    (λ inside w g f. fail (Integer short mark digits inside) (r, k, w) (s ++ printed_mark mark ++ digits ++ g)
    (front_behind (s ++ printed_mark mark ++ digits) g (printed_shut (integer_end short) inside) f))
    (λ inside w last p2 q2.
    good_one P (s ++ printed_mark mark ++ digits) (printed_shut (integer_end short) inside) last left
    (more (Integer short mark digits inside) (r, k, w) last
    (ap (λ (x : List ℕ). s ++ x) p ∙ sym (number_parts s (printed_mark mark) digits behind) ∙ ap (λ (x : List ℕ). s ++ printed_mark mark ++ digits ++ x) p2
    ∙ sym (append_assoc (s ++ printed_mark mark ++ digits) (printed_shut (integer_end short) inside) last)) q2))
    q))
    e

truth_of : (limits : Limits) (b : Bool) (frames : List Frame) (count : ℕ) (rest : List ℕ) (left : ℕ) (P : List ℕ → Type 0)
    → FormFronts P → FormBehind limits frames count (spelling tag.Boolean ++ (truth_digit b ++ rest)) left P
    → run limits (at (Within (AtTruthEnd b) (words_of (tags_of (AtTruthEnd b)))) frames (counted limits count)) rest ≡ NotRead left
    → Good (λ g. P (spelling tag.Boolean ++ truth_digit b ++ g)) rest left
truth_of limits b frames count rest left P fail more e =
    let a = spelling tag.Boolean ++ truth_digit b in
    shut_front limits (AtTruthEnd b) tag.EndBoolean frames (counted limits count) rest left (λ g. P (a ++ g)) (record { only = refl; goes_on = tt; shut = λ frames count. refl })
    (λ inside w g f. fail (Truth b inside) w (a ++ g) (front_behind a g (printed_shut tag.EndBoolean inside) f))
    (λ inside w last p q.
    good_one P a (printed_shut tag.EndBoolean inside) last left
    (more (Truth b inside) w last (sym (append_assoc (spelling tag.Boolean) (truth_digit b) rest) ∙ ap (λ (x : List ℕ). a ++ x) p ∙ sym (append_assoc a (printed_shut tag.EndBoolean inside) last)) q))
    e

truth_begins : (P : List ℕ → Type 0) → FormFronts P → P (spelling tag.Boolean ++ [])
truth_begins P fail = fail (Truth true []) refl (spelling tag.Boolean ++ []) (codes "1</boolean>", refl)

pub truth_front : (limits : Limits) (frames : List Frame) (count : ℕ) (rest : List ℕ) (left : ℕ) (P : List ℕ → Type 0)
    → FormFronts P → FormBehind limits frames count (spelling tag.Boolean ++ rest) left P
    → run limits (at TruthDigit frames (counted limits count)) rest ≡ NotRead left → Good (λ g. P (spelling tag.Boolean ++ g)) rest left
truth_front limits frames count [] left P fail more e = good_here (λ g. P (spelling tag.Boolean ++ g)) [] left (unless_left limits (counted limits count) 0 left e).1 (truth_begins P fail)
truth_front limits frames count (b ∷ bs) left P fail more e = elim (cases_Bool (eqb b 48)) [
  | inl z ↦
      let is = eqb-true b 48 z in
      good_behind (λ g. P (spelling tag.Boolean ++ g)) (codes "0") bs (b ∷ bs) left (ap (λ (x : ℕ). x ∷ bs) is)
      (good_one P (spelling tag.Boolean) (codes "0") bs left
      (truth_of limits false frames count bs left P fail (subst (λ (x : ℕ). FormBehind limits frames count (spelling tag.Boolean ++ x ∷ bs) left P) is more) (rw z at e)))
  | inr z ↦ elim (cases_Bool (eqb b 49)) [
    | inl o ↦
        let is = eqb-true b 49 o in
        good_behind (λ g. P (spelling tag.Boolean ++ g)) (codes "1") bs (b ∷ bs) left (ap (λ (x : ℕ). x ∷ bs) is)
        (good_one P (spelling tag.Boolean) (codes "1") bs left
        (truth_of limits true frames count bs left P fail (subst (λ (x : ℕ). FormBehind limits frames count (spelling tag.Boolean ++ x ∷ bs) left P) is more) (rw (z, o) at e)))
    | inr o ↦ good_here (λ g. P (spelling tag.Boolean ++ g)) (b ∷ bs) left (unless_left limits (counted limits count) (suc (length bs)) left (rw (z, o) at e)).1 (truth_begins P fail)
  ]
]

abbrev pub MembersFronts : (List ℕ → Type 0) → Type 0
MembersFronts P = (members : MembersText) → AreMembers members → (ending : Ending) → IsEnding ending → (g : List ℕ) → IsFront g (printed_members members ++ printed_end tag.EndStruct ending) → P g

abbrev pub MembersBehind : Limits → Members → List Frame → ℕ → List ℕ → ℕ → (List ℕ → Type 0) → Type 0
MembersBehind limits before frames count bs left P = (members : MembersText) → AreMembers members → (ending : Ending) → IsEnding ending → (rest : List ℕ)
    → bs ≡ printed_members members ++ printed_end tag.EndStruct ending ++ rest
    → run limits (at (At (AtFormEnd (structure (held_members limits (members_of members) before count)))) frames (count_behind_members limits (members_of members) count)) rest ≡ NotRead left
    → Good (λ g. P (printed_members members ++ printed_end tag.EndStruct ending ++ g)) rest left

abbrev pub ItemsFronts : (List ℕ → Type 0) → Type 0
ItemsFronts P = (items : ItemsText) → AreItems items → (ending : Ending) → IsEnding ending → (g : List ℕ) → IsFront g (printed_items items ++ printed_end tag.EndData ending) → P g

abbrev pub ItemsBehind : Limits → Trees → List Frame → ℕ → List ℕ → ℕ → (List ℕ → Type 0) → Type 0
ItemsBehind limits before frames count bs left P = (items : ItemsText) → AreItems items → (ending : Ending) → IsEnding ending → (rest : List ℕ)
    → bs ≡ printed_items items ++ printed_end tag.EndData ending ++ rest
    → run limits (at (At (AtArrayEnd (held_values limits (items_of items) before count))) frames (count_behind_values limits (items_of items) count)) rest ≡ NotRead left
    → Good (λ g. P (printed_items items ++ printed_end tag.EndData ending ++ g)) rest left

abbrev pub AgainMembers : Limits → List Frame → ℕ → List ℕ → ℕ → Type 1
AgainMembers limits frames count rest left = (P : List ℕ → Type 0) → MembersFronts P → MembersBehind limits no_member frames (counted limits count) rest left P
    → run limits (at (At (AtMembers no_member)) frames (counted limits count)) rest ≡ NotRead left → Good P rest left

pub struct_front : (limits : Limits) (frames : List Frame) (count : ℕ) (rest : List ℕ) (left : ℕ) (P : List ℕ → Type 0)
    → FormFronts P → FormBehind limits frames count (spelling tag.Struct ++ rest) left P → AgainMembers limits frames count rest left
    → run limits (at (At (AtMembers no_member)) frames (counted limits count)) rest ≡ NotRead left → Good (λ g. P (spelling tag.Struct ++ g)) rest left
struct_front limits frames count rest left P fail more again e =
    let s = spelling tag.Struct in
    again (λ g. P (s ++ g))
    (λ members r ending x g f. fail (Struct members ending) (r, x) (s ++ g) (front_two s g (printed_members members) (printed_end tag.EndStruct ending) f))
    (λ members r ending x behind p q.
    good_two P s (printed_members members) (printed_end tag.EndStruct ending) behind left
    (more (Struct members ending) (r, x) behind (ap (λ (y : List ℕ). s ++ y) p ∙ text_parts s (printed_members members) (printed_end tag.EndStruct ending) behind) q))
    e

abbrev pub AgainItems : Limits → List Frame → ℕ → List ℕ → ℕ → Type 1
AgainItems limits frames count rest left = (P : List ℕ → Type 0) (behind : List ℕ) → length behind < length rest → ItemsFronts P → ItemsBehind limits no_tree frames (counted limits count) behind left P
    → run limits (at (At (AtItems no_tree)) frames (counted limits count)) behind ≡ NotRead left → Good P behind left
