-- Which value was read.
use Rattle.std.proofs.Common.{◌≡◌, ℕ, suc, ◌<◌, ◌≤◌, Bool, true, false, eqb, List, [], ◌∷◌, ◌++◌, length, inl, inr, refl, sym, ap, ◌∙◌, subst, arith, append_assoc, append-nil, length-append, codes, ◌⊎◌, le_refl, ℤ}
use Rattle.std.specs.List.{list_all}
use Rattle.std.specs.Str.Parse.{digits_value}
use Rattle.std.proofs.lemmas.Bool.{cases_Bool, and_parts, eqb-true}
use Rattle.std.proofs.lemmas.Bool.Decides.{nat_tests}
use Rattle.sv_xmlcall.specs.Tags.{spelling}
use Rattle.sv_xmlcall.specs.Spelled.{Spelled, is_white, signed}
use Rattle.sv_xmlcall.specs.Trees.{Trees, Members, text, structure, no_tree, no_member}
use Rattle.sv_xmlcall.specs.Spells.{IsWhite, Plain, IsLetter, printed_text, text_of, Ending, IsEnding, printed_shut, printed_end, printed_mark, is_minus, integer_tag, integer_end, truth_digit, Kind, Double, Date, Base, kind_tag, ValueText, Empty, Bare, Typed, FormText, Integer, Truth, Text, Other, Struct, Array, NoData, ItemsText, MembersText, printed_value, printed_form, printed_items, printed_members, value_of, form_of, items_of, members_of, IsValue, IsForm, AreItems, AreMembers}
use Rattle.sv_xmlcall.specs.Machine.{Limits, AtForm, AtFormEnd, AtArrayEnd, AtIntegerEnd, AtTruthEnd, InString, InDouble, InDate, InBase, InBare, Frame, Read, At, Within, Close, Opened, Digits, TruthDigit, Fresh, at, run, enter, after_value, counted, kept, tags_of, words_of}
use Rattle.sv_xmlcall.specs.declared.tag.Tag.{Tag}
use Rattle.sv_xmlcall.specs.declared.tag.Tag.TheVariants as tag
use Rattle.sv_xmlcall.proofs.Passing.{in_text, white_char}
use Rattle.sv_xmlcall.proofs.ValuePassing.{count_behind, count_behind_values, count_behind_members, held, held_values, held_members, kind_content}
use Rattle.sv_xmlcall.proofs.TagsBack.{Continues, not_read, shut_back, Alone, end_back, shut_behind}
use Rattle.sv_xmlcall.proofs.TextsBack.{PlainLetters, text_back, integer_back, printed_append, means_append, right_append}

-- a form was read after `<value>`
pub record FormBack (limits : Limits) (frames : List Frame) (count : ℕ) (bs : List ℕ) (spelled : Spelled) : Type 0 where
  pub form : FormText
  pub right : IsForm form
  pub rest : List ℕ
  pub parts : bs ≡ printed_form form ++ rest
  pub goes : run limits (at (At (AtFormEnd (held limits (form_of form) count))) frames (count_behind limits (form_of form) count)) rest ≡ Read spelled

-- a value was read
pub record ValueBack (limits : Limits) (frames : List Frame) (count : ℕ) (bs : List ℕ) (spelled : Spelled) : Type 0 where
  pub value : ValueText
  pub right : IsValue value
  pub rest : List ℕ
  pub parts : bs ≡ printed_value value ++ rest
  pub goes : run limits (after_value limits (held limits (value_of value) count) frames (count_behind limits (value_of value) count)) rest ≡ Read spelled

-- the values of an array and the end of its data were read
pub record ItemsBack (limits : Limits) (before : Trees) (frames : List Frame) (count : ℕ) (bs : List ℕ) (spelled : Spelled) : Type 0 where
  pub items : ItemsText
  pub right : AreItems items
  pub ending : Ending
  pub ends : IsEnding ending
  pub rest : List ℕ
  pub parts : bs ≡ printed_items items ++ printed_end tag.EndData ending ++ rest
  pub goes : run limits (at (At (AtArrayEnd (held_values limits (items_of items) before count))) frames (count_behind_values limits (items_of items) count)) rest ≡ Read spelled

-- the members of a struct and its end were read
pub record MembersBack (limits : Limits) (before : Members) (frames : List Frame) (count : ℕ) (bs : List ℕ) (spelled : Spelled) : Type 0 where
  pub members : MembersText
  pub right : AreMembers members
  pub ending : Ending
  pub ends : IsEnding ending
  pub rest : List ℕ
  pub parts : bs ≡ printed_members members ++ printed_end tag.EndStruct ending ++ rest
  pub goes : run limits (at (At (AtFormEnd (structure (held_members limits (members_of members) before count)))) frames (count_behind_members limits (members_of members) count)) rest ≡ Read spelled

abbrev pub FormGoes : Limits → List ℕ → List Frame → ℕ → Tag → List ℕ → Spelled → Type 0
FormGoes limits white frames count t rest spelled = Continues limits (enter limits (AtForm white) t frames count) rest spelled

four_parts : (s m d e r : List ℕ) → s ++ (m ++ d ++ (e ++ r)) ≡ s ++ m ++ d ++ e ++ r
four_parts s m d e r = simp append_assoc refl

pub alone_integer : (limits : Limits) (short : Bool) (n : ℤ) → Alone limits (AtIntegerEnd short n) (integer_end short)
alone_integer limits true n = record { only = refl; goes_on = tt; shut = λ frames count. refl }
alone_integer limits false n = record { only = refl; goes_on = tt; shut = λ frames count. refl }

pub integer_form : (limits : Limits) (short : Bool) (frames : List Frame) (count : ℕ) (rest : List ℕ) (spelled : Spelled)
    → run limits (at (Digits short false Fresh 0) frames (counted limits count)) rest ≡ Read spelled → FormBack limits frames count (spelling (integer_tag short) ++ rest) spelled
integer_form limits short frames count rest spelled e =
    let i = integer_back limits short frames (counted limits count) rest spelled e in
    let n = signed (is_minus i.mark) (digits_value 10 i.digits) in
    let s = shut_behind limits (AtIntegerEnd short n) (integer_end short) frames (counted limits count) i.rest spelled (alone_integer limits short n) i.goes in
    record {
      form = Integer short i.mark i.digits s.inside;
      right = (i.right, i.fits, s.white);
      rest = s.rest;
      parts =
          ap (λ (x : List ℕ). spelling (integer_tag short) ++ x) (i.parts ∙ ap (λ (x : List ℕ). printed_mark i.mark ++ i.digits ++ x) s.parts)
          ∙ four_parts (spelling (integer_tag short)) (printed_mark i.mark) i.digits (printed_shut (integer_end short) s.inside) s.rest;
      goes = s.goes;
    }

three_parts : (s d e r : List ℕ) → s ++ (d ++ (e ++ r)) ≡ s ++ d ++ e ++ r
three_parts s d e r = simp append_assoc refl

truth_of : (limits : Limits) (frames : List Frame) (count : ℕ) (b : Bool) (rest : List ℕ) (spelled : Spelled)
    → run limits (at (Within (AtTruthEnd b) (words_of (tags_of (AtTruthEnd b)))) frames (counted limits count)) rest ≡ Read spelled
    → FormBack limits frames count (spelling tag.Boolean ++ (truth_digit b ++ rest)) spelled
truth_of limits frames count b rest spelled e =
    let s = shut_behind limits (AtTruthEnd b) tag.EndBoolean frames (counted limits count) rest spelled (record { only = refl; goes_on = tt; shut = λ frames count. refl }) e in
    record {
      form = Truth b s.inside;
      right = s.white;
      rest = s.rest;
      parts = ap (λ (x : List ℕ). spelling tag.Boolean ++ (truth_digit b ++ x)) s.parts ∙ three_parts (spelling tag.Boolean) (truth_digit b) (printed_shut tag.EndBoolean s.inside) s.rest;
      goes = s.goes;
    }

pub truth_form : (limits : Limits) (frames : List Frame) (count : ℕ) (rest : List ℕ) (spelled : Spelled)
    → run limits (at TruthDigit frames (counted limits count)) rest ≡ Read spelled → FormBack limits frames count (spelling tag.Boolean ++ rest) spelled
truth_form limits frames count [] spelled e = absurd (not_read limits (counted limits count) 0 spelled e)
truth_form limits frames count (b ∷ bs) spelled e = elim (cases_Bool (eqb b 48)) [
  | inl z ↦
      subst (λ (x : ℕ). FormBack limits frames count (spelling tag.Boolean ++ x ∷ bs) spelled) (sym (eqb-true b 48 z))
      (truth_of limits frames count false bs spelled (rw z at e))
  | inr z ↦ elim (cases_Bool (eqb b 49)) [
    | inl o ↦
        subst (λ (x : ℕ). FormBack limits frames count (spelling tag.Boolean ++ x ∷ bs) spelled) (sym (eqb-true b 49 o))
        (truth_of limits frames count true bs spelled (rw (z, o) at e))
    | inr o ↦ absurd (not_read limits (counted limits count) (suc (length bs)) spelled (rw (z, o) at e))
  ]
]

text_parts : (s a e r : List ℕ) → s ++ (a ++ e ++ r) ≡ s ++ a ++ e ++ r
text_parts s a e r = simp append_assoc refl

pub string_form : (limits : Limits) (frames : List Frame) (count : ℕ) (rest : List ℕ) (spelled : Spelled)
    → run limits (in_text InString [] frames (counted limits count)) rest ≡ Read spelled → FormBack limits frames count (spelling tag.String ++ rest) spelled
string_form limits frames count rest spelled e =
    let s = text_back (length rest) limits InString [] frames (counted limits count) rest spelled (le_refl (length rest)) e in
    record {
      form = Text s.letters s.inside;
      right = (s.right, s.white);
      rest = s.rest;
      parts = ap (λ (x : List ℕ). spelling tag.String ++ x) s.parts ∙ text_parts (spelling tag.String) (printed_text s.letters) (printed_shut tag.EndString s.inside) s.rest;
      goes = s.goes;
    }

pub kind_form : (limits : Limits) (kind : Kind) (frames : List Frame) (count : ℕ) (rest : List ℕ) (spelled : Spelled)
    → run limits (in_text (kind_content kind) [] frames (counted limits count)) rest ≡ Read spelled → FormBack limits frames count (spelling (kind_tag kind) ++ rest) spelled
kind_form limits Double frames count rest spelled e =
    let s = text_back (length rest) limits InDouble [] frames (counted limits count) rest spelled (le_refl (length rest)) e in
    record {
      form = Other Double s.letters s.inside;
      right = (s.right, s.white);
      rest = s.rest;
      goes = s.goes;
      parts = ap (λ (x : List ℕ). spelling tag.Double ++ x) s.parts ∙ text_parts (spelling tag.Double) (printed_text s.letters) (printed_shut tag.EndDouble s.inside) s.rest;
    }
kind_form limits Date frames count rest spelled e =
    let s = text_back (length rest) limits InDate [] frames (counted limits count) rest spelled (le_refl (length rest)) e in
    record {
      form = Other Date s.letters s.inside;
      right = (s.right, s.white);
      rest = s.rest;
      goes = s.goes;
      parts = ap (λ (x : List ℕ). spelling tag.DateTime ++ x) s.parts ∙ text_parts (spelling tag.DateTime) (printed_text s.letters) (printed_shut tag.EndDateTime s.inside) s.rest;
    }
kind_form limits Base frames count rest spelled e =
    let s = text_back (length rest) limits InBase [] frames (counted limits count) rest spelled (le_refl (length rest)) e in
    record {
      form = Other Base s.letters s.inside;
      right = (s.right, s.white);
      rest = s.rest;
      goes = s.goes;
      parts = ap (λ (x : List ℕ). spelling tag.Base64 ++ x) s.parts ∙ text_parts (spelling tag.Base64) (printed_text s.letters) (printed_shut tag.EndBase64 s.inside) s.rest;
    }

pub struct_form : (limits : Limits) (frames : List Frame) (count : ℕ) (rest : List ℕ) (spelled : Spelled)
    → MembersBack limits no_member frames (counted limits count) rest spelled → FormBack limits frames count (spelling tag.Struct ++ rest) spelled
struct_form limits frames count rest spelled m = record {
  form = Struct m.members m.ending;
  right = (m.right, m.ends);
  rest = m.rest;
  parts = ap (λ (x : List ℕ). spelling tag.Struct ++ x) m.parts ∙ text_parts (spelling tag.Struct) (printed_members m.members) (printed_end tag.EndStruct m.ending) m.rest;
  goes = m.goes;
}

array_parts : (s g d i e r1 f r : List ℕ) → r1 ≡ f ++ r → s ++ (g ++ d ++ (i ++ e ++ r1)) ≡ s ++ g ++ d ++ i ++ e ++ f ++ r
array_parts s g d i e r1 f r q = ap (λ (x : List ℕ). s ++ (g ++ d ++ (i ++ e ++ x))) q ∙ simp append_assoc refl

no_data_parts : (s g d r1 f r : List ℕ) → r1 ≡ f ++ r → s ++ (g ++ d ++ r1) ≡ s ++ g ++ d ++ f ++ r
no_data_parts s g d r1 f r q = ap (λ (x : List ℕ). s ++ (g ++ d ++ x)) q ∙ simp append_assoc refl

pub array_form : (limits : Limits) (frames : List Frame) (count : ℕ) (gap rest rest1 : List ℕ) (spelled : Spelled) → IsWhite gap → rest ≡ gap ++ spelling tag.Data ++ rest1
    → ItemsBack limits no_tree frames (counted limits count) rest1 spelled → FormBack limits frames count (spelling tag.Array ++ rest) spelled
array_form limits frames count gap rest rest1 spelled w p i =
    let values = held_values limits (items_of i.items) no_tree (counted limits count) in
    let behind = count_behind_values limits (items_of i.items) (counted limits count) in
    let e = end_back limits (AtArrayEnd values) tag.EndArray frames behind i.rest spelled (record { only = refl; goes_on = tt; shut = λ frames count. refl }) i.goes in
    record {
      form = Array gap i.items i.ending e.ending;
      right = (w, i.right, i.ends, e.right);
      rest = e.rest;
      parts =
          ap (λ (x : List ℕ). spelling tag.Array ++ x) (p ∙ ap (λ (x : List ℕ). gap ++ spelling tag.Data ++ x) i.parts)
          ∙ array_parts (spelling tag.Array) gap (spelling tag.Data) (printed_items i.items) (printed_end tag.EndData i.ending) i.rest (printed_end tag.EndArray e.ending) e.rest e.parts;
      goes = e.goes;
    }

pub no_data_form : (limits : Limits) (frames : List Frame) (count : ℕ) (gap rest rest1 : List ℕ) (spelled : Spelled) → IsWhite gap → rest ≡ gap ++ spelling tag.NoData ++ rest1
    → run limits (at (At (AtArrayEnd no_tree)) frames (counted limits count)) rest1 ≡ Read spelled → FormBack limits frames count (spelling tag.Array ++ rest) spelled
no_data_form limits frames count gap rest rest1 spelled w p g =
    let e = end_back limits (AtArrayEnd no_tree) tag.EndArray frames (counted limits count) rest1 spelled (record { only = refl; goes_on = tt; shut = λ frames count. refl }) g in
    record {
      form = NoData gap e.ending;
      right = (w, e.right);
      rest = e.rest;
      parts = ap (λ (x : List ℕ). spelling tag.Array ++ x) p ∙ no_data_parts (spelling tag.Array) gap (spelling tag.NoData) rest1 (printed_end tag.EndArray e.ending) e.rest e.parts;
      goes = e.goes;
    }

-- white space was read after `<value>`, and then a tag, or the rest of a bare text
pub record OpenedBack (limits : Limits) (kept : List ℕ) (frames : List Frame) (count : ℕ) (bs : List ℕ) (spelled : Spelled) : Type 0 where
  pub gap : List ℕ
  pub white : IsWhite gap
  pub rest : List ℕ
  pub parts : bs ≡ gap ++ rest
  pub way : (run limits (at (Within (AtForm (kept ++ gap)) (words_of (tags_of (AtForm (kept ++ gap))))) frames count) rest ≡ Read spelled)
      ⊎ (run limits (in_text InBare (kept ++ gap) frames count) rest ≡ Read spelled)

abbrev pub Ways : Limits → List ℕ → List Frame → ℕ → List ℕ → Spelled → Type 0
Ways limits kept frames count rest spelled =
    (run limits (at (Within (AtForm kept) (words_of (tags_of (AtForm kept)))) frames count) rest ≡ Read spelled) ⊎ (run limits (in_text InBare kept frames count) rest ≡ Read spelled)

opened_more : (limits : Limits) (kept : List ℕ) (frames : List Frame) (count b : ℕ) (bs : List ℕ) (spelled : Spelled) → is_white b ≡ true
    → OpenedBack limits (kept ++ b ∷ []) frames count bs spelled → OpenedBack limits kept frames count (b ∷ bs) spelled
opened_more limits kept frames count b bs spelled w more = record {
  gap = b ∷ more.gap;
  white = rw (w, more.white) refl;
  rest = more.rest;
  parts = ap (λ (x : List ℕ). b ∷ x) more.parts;
  way = subst (λ (x : List ℕ). Ways limits x frames count more.rest spelled) (append_assoc kept (b ∷ []) more.gap) more.way;
}

opened_here : (limits : Limits) (kept : List ℕ) (frames : List Frame) (count : ℕ) (bs : List ℕ) (spelled : Spelled) → Ways limits kept frames count bs spelled → OpenedBack limits kept frames count bs spelled
opened_here limits kept frames count bs spelled way =
    record { gap = []; white = refl; rest = bs; parts = refl; way = subst (λ (x : List ℕ). Ways limits x frames count bs spelled) (sym (append-nil kept)) way }

pub opened_split : (limits : Limits) (kept : List ℕ) (frames : List Frame) (count : ℕ) (bs : List ℕ) (spelled : Spelled)
    → run limits (at (Opened kept) frames count) bs ≡ Read spelled → OpenedBack limits kept frames count bs spelled
opened_split limits kept frames count [] spelled e = absurd (not_read limits count 0 spelled e)
opened_split limits kept frames count (b ∷ bs) spelled e = elim (cases_Bool (is_white b)) [
  | inl w ↦ opened_more limits kept frames count b bs spelled w (opened_split limits (kept ++ b ∷ []) frames count bs spelled (rw w at e))
  | inr w ↦ elim (cases_Bool (eqb b 60)) [
    | inl l ↦
        let is = eqb-true b 60 l in
        opened_here limits kept frames count (b ∷ bs) spelled
        (subst (λ (x : ℕ). Ways limits kept frames count (x ∷ bs) spelled) (sym is)
        (inl (subst (λ (x : ℕ). run limits (at (Opened kept) frames count) (x ∷ bs) ≡ Read spelled) is e)))
    | inr l ↦
        let dark : run limits (at (Opened kept) frames count) (b ∷ bs) ≡ run limits (in_text InBare kept frames count) (b ∷ bs) = rw (w, l) refl in
        opened_here limits kept frames count (b ∷ bs) spelled (inr (sym dark ∙ e))
  ]
]

no_mark : false ≡ true → ⊥
no_mark e = cc e

white_letter : (b : ℕ) → is_white b ≡ true → IsLetter (Plain b)
white_letter b w = (grind (arith, nat_tests), λ e. no_mark (sym (ap is_white e) ∙ w), λ e. no_mark (sym (ap is_white e) ∙ w))

-- white space as letters
pub white_letters : (gap : List ℕ) → IsWhite gap → PlainLetters gap
white_letters [] w = record { letters = []; right = tt; printed = refl; means = refl }
white_letters (b ∷ gap) w =
    let p = and_parts (is_white b) (list_all is_white gap) w in
    white_more b gap p.0 (white_letters gap p.1)
  where
    white_more : (b : ℕ) (gap : List ℕ) → is_white b ≡ true → PlainLetters gap → PlainLetters (b ∷ gap)
    white_more b gap w more = record {
      letters = Plain b ∷ more.letters;
      right = (white_letter b w, more.right);
      printed = ap (λ (x : List ℕ). x ++ printed_text more.letters) (white_char b w) ∙ ap (λ (x : List ℕ). b ∷ x) more.printed;
      means = ap (λ (x : List ℕ). x ++ text_of more.letters) (white_char b w) ∙ ap (λ (x : List ℕ). b ∷ x) more.means;
    }

bare_parts : (s g a e r : List ℕ) → s ++ (g ++ (a ++ e ++ r)) ≡ s ++ (g ++ a) ++ e ++ r
bare_parts s g a e r = simp append_assoc refl

-- bare text that is not white alone
pub bare_value : (limits : Limits) (frames : List Frame) (count : ℕ) (gap rest rest0 : List ℕ) (spelled : Spelled) → IsWhite gap → rest0 ≡ gap ++ rest
    → run limits (in_text InBare gap frames (counted limits count)) rest ≡ Read spelled → ValueBack limits frames count (spelling tag.Value ++ rest0) spelled
bare_value limits frames count gap rest rest0 spelled w p e =
    let g = white_letters gap w in
    let s = text_back (length rest) limits InBare gap frames (counted limits count) rest spelled (le_refl (length rest)) e in
    let means : gap ++ text_of s.letters ≡ text_of (g.letters ++ s.letters) = ap (λ (x : List ℕ). x ++ text_of s.letters) (sym g.means) ∙ sym (means_append g.letters s.letters) in
    record {
      value = Bare (g.letters ++ s.letters) s.inside;
      right = (right_append g.letters s.letters g.right s.right, s.white);
      rest = s.rest;
      parts =
          ap (λ (x : List ℕ). spelling tag.Value ++ x) (p ∙ ap (λ (x : List ℕ). gap ++ x) s.parts)
          ∙ bare_parts (spelling tag.Value) gap (printed_text s.letters) (printed_shut tag.EndValue s.inside) s.rest
          ∙ ap (λ (x : List ℕ). spelling tag.Value ++ x ++ printed_shut tag.EndValue s.inside ++ s.rest)
          (ap (λ (x : List ℕ). x ++ printed_text s.letters) (sym g.printed) ∙ sym (printed_append g.letters s.letters));
      goes = subst (λ (x : List ℕ). run limits (after_value limits (text x) frames (counted limits count)) s.rest ≡ Read spelled) means s.goes;
    }

white_parts : (s g e i c r : List ℕ) → s ++ (g ++ (e ++ (i ++ c ++ r))) ≡ s ++ g ++ (e ++ i ++ c) ++ r
white_parts s g e i c r = simp append_assoc refl

-- bare text that is white alone
pub white_value : (limits : Limits) (frames : List Frame) (count : ℕ) (gap rest rest0 : List ℕ) (spelled : Spelled) → IsWhite gap → rest0 ≡ gap ++ (spelling tag.EndValue ++ rest)
    → run limits (at (Close (AtForm gap)) frames (counted limits count)) rest ≡ Read spelled → ValueBack limits frames count (spelling tag.Value ++ rest0) spelled
white_value limits frames count gap rest rest0 spelled w p e =
    let g = white_letters gap w in
    let s = shut_back limits (AtForm gap) frames (counted limits count) rest spelled e in
    record {
      value = Bare g.letters s.inside;
      right = (g.right, s.white);
      rest = s.rest;
      parts =
          ap (λ (x : List ℕ). spelling tag.Value ++ x) (p ∙ ap (λ (x : List ℕ). gap ++ (spelling tag.EndValue ++ x)) s.parts)
          ∙ white_parts (spelling tag.Value) gap (spelling tag.EndValue) s.inside (codes ">") s.rest
          ∙ ap (λ (x : List ℕ). spelling tag.Value ++ x ++ printed_shut tag.EndValue s.inside ++ s.rest) (sym g.printed);
      goes = subst (λ (x : List ℕ). run limits (after_value limits (text x) frames (counted limits count)) s.rest ≡ Read spelled) (sym g.means) s.goes;
    }

typed_parts : (s g f r1 e r : List ℕ) → r1 ≡ e ++ r → s ++ (g ++ (f ++ r1)) ≡ s ++ g ++ f ++ e ++ r
typed_parts s g f r1 e r q = ap (λ (x : List ℕ). s ++ (g ++ (f ++ x))) q ∙ simp append_assoc refl

-- a form between white space
pub typed_value : (limits : Limits) (frames : List Frame) (count : ℕ) (gap rest rest0 : List ℕ) (spelled : Spelled) → IsWhite gap → rest0 ≡ gap ++ rest
    → FormBack limits frames count rest spelled → ValueBack limits frames count (spelling tag.Value ++ rest0) spelled
typed_value limits frames count gap rest rest0 spelled w p f =
    let value = held limits (form_of f.form) count in
    let e = end_back limits (AtFormEnd value) tag.EndValue frames (count_behind limits (form_of f.form) count) f.rest spelled (record { only = refl; goes_on = tt; shut = λ frames count. refl }) f.goes in
    record {
      value = Typed gap f.form e.ending;
      right = (w, f.right, e.right);
      rest = e.rest;
      parts =
          ap (λ (x : List ℕ). spelling tag.Value ++ x) (p ∙ ap (λ (x : List ℕ). gap ++ x) f.parts)
          ∙ typed_parts (spelling tag.Value) gap (printed_form f.form) f.rest (printed_end tag.EndValue e.ending) e.rest e.parts;
      goes = e.goes;
    }

pub empty_value_back : (limits : Limits) (frames : List Frame) (count : ℕ) (rest : List ℕ) (spelled : Spelled)
    → run limits (after_value limits (text []) frames (counted limits count)) rest ≡ Read spelled → ValueBack limits frames count (spelling tag.NoValue ++ rest) spelled
empty_value_back limits frames count rest spelled e = record { value = Empty; right = tt; rest = rest; parts = refl; goes = e }

printed_some : (value : ValueText) → 1 ≤ length (printed_value value)
printed_some Empty = omega arith
printed_some (Bare letters inside) = omega arith
printed_some (Typed before form ending) = omega arith

pub value_shorter : (value : ValueText) (rest bs : List ℕ) → bs ≡ printed_value value ++ rest → length rest < length bs
value_shorter value rest bs e = let s = printed_some value in omega (arith, ap length e, length-append (printed_value value) rest)
