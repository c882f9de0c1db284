-- Which value was read: the recursion through forms, arrays and structs.
use Rattle.std.proofs.Common.{◌≡◌, ℕ, zero, suc, ◌+◌, ◌*◌, ◌<◌, ◌≤◌, true, false, List, [], ◌∷◌, ◌++◌, length, inl, inr, refl, sym, ap, ◌∙◌, subst, arith, append_assoc, length-append, ◌⊎◌, le_refl}
use Rattle.sv_xmlcall.specs.Tags.{spelling}
use Rattle.sv_xmlcall.specs.Spelled.{Spelled}
use Rattle.sv_xmlcall.specs.Trees.{Trees, Members, no_tree, no_member}
use Rattle.sv_xmlcall.specs.Spells.{IsWhite, Letter, AreLetters, printed_text, text_of, printed_shut, printed_end, NoText, NoMembers, Double, Date, Base, printed_value, value_of, printed_items, NoItem, Item, printed_members, NoMember, Member}
use Rattle.sv_xmlcall.specs.Machine.{Limits, AtValue, AtForm, AtData, AtItems, AtMembers, AtName, AtMemberEnd, InName, Frame, InArray, InMember, Read, At, Close, Opened, at, run, enter, counted, kept, kept_member, tags_of}
use Rattle.sv_xmlcall.specs.declared.tag.Tag.{Tag}
use Rattle.sv_xmlcall.specs.declared.tag.Tag.TheVariants as tag
use Rattle.sv_xmlcall.proofs.Passing.{in_text}
use Rattle.sv_xmlcall.proofs.ValuePassing.{count_behind, held}
use Rattle.sv_xmlcall.proofs.TagsBack.{Continues, IsOneOf, entered, ahead, close_back, only_one, end_back, opened_back, emptied_back}
use Rattle.sv_xmlcall.proofs.TextsBack.{text_back}
use Rattle.sv_xmlcall.proofs.ValuesBack.{FormBack, ValueBack, ItemsBack, MembersBack, FormGoes, Ways, opened_split, integer_form, truth_form, string_form, kind_form, struct_form, array_form, no_data_form, bare_value, white_value, typed_value, empty_value_back, value_shorter}

pub spelling_some : (t : Tag) → 1 ≤ length (spelling t)
spelling_some tag.Declaration = omega arith
spelling_some any = omega arith

pub tag_shorter : (t : Tag) (rest bs : List ℕ) → bs ≡ spelling t ++ rest → length rest < length bs
tag_shorter t rest bs e = let s = spelling_some t in omega (arith, ap length e, length-append (spelling t) rest)

pub ahead_shorter : (gap : List ℕ) (t : Tag) (rest bs : List ℕ) → bs ≡ gap ++ spelling t ++ rest → length rest < length bs
ahead_shorter gap t rest bs e = let s = spelling_some t in omega (arith, ap length e, length-append (gap ++ spelling t) rest, length-append gap (spelling t))

-- how a text goes on after a tag in a value: with a form, or at the value's end
abbrev FormWay : Limits → List ℕ → List Frame → ℕ → Tag → List ℕ → Spelled → Type 0
FormWay limits white frames count t rest spelled =
    FormBack limits frames count (spelling t ++ rest) spelled
    ⊎ ((t ≡ tag.EndValue) × (run limits (at (Close (AtForm white)) frames (counted limits count)) rest ≡ Read spelled))

abbrev AgainForm : Limits → List ℕ → List Frame → ℕ → List ℕ → Spelled → Type 0
AgainForm limits gap frames count rest spelled = (t : Tag) (behind : List ℕ) → IsOneOf t (tags_of (AtForm gap)) → rest ≡ spelling t ++ behind
    → FormGoes limits gap frames (counted limits count) t behind spelled → FormWay limits gap frames count t behind spelled

full_tag : (limits : Limits) (frames : List Frame) (count : ℕ) (gap rest rest0 : List ℕ) (spelled : Spelled) (t : Tag) (behind : List ℕ) → IsWhite gap → rest0 ≡ gap ++ rest → rest ≡ spelling t ++ behind
    → FormWay limits gap frames count t behind spelled → ValueBack limits frames count (spelling tag.Value ++ rest0) spelled
full_tag limits frames count gap rest rest0 spelled t behind w p q (inl f) =
    typed_value limits frames count gap (spelling t ++ behind) rest0 spelled w (p ∙ ap (λ (x : List ℕ). gap ++ x) q) f
full_tag limits frames count gap rest rest0 spelled t behind w p q (inr e) =
    white_value limits frames count gap behind rest0 spelled w (p ∙ ap (λ (x : List ℕ). gap ++ x) q ∙ ap (λ (x : Tag). gap ++ (spelling x ++ behind)) e.0) e.1

full_way : (limits : Limits) (frames : List Frame) (count : ℕ) (gap rest rest0 : List ℕ) (spelled : Spelled) → IsWhite gap → rest0 ≡ gap ++ rest
    → AgainForm limits gap frames count rest spelled → Ways limits gap frames (counted limits count) rest spelled
    → ValueBack limits frames count (spelling tag.Value ++ rest0) spelled
full_way limits frames count gap rest rest0 spelled w p again (inl e) =
    let n = entered limits (AtForm gap) frames (counted limits count) rest spelled e in
    full_tag limits frames count gap rest rest0 spelled n.t n.rest w p n.parts (again n.t n.rest n.one_of n.parts n.goes)
full_way limits frames count gap rest rest0 spelled w p again (inr e) = bare_value limits frames count gap rest rest0 spelled w p e

abbrev AgainItems : Limits → List Frame → ℕ → List ℕ → Spelled → Type 0
AgainItems limits frames count rest spelled = (behind : List ℕ) → length behind < length rest
    → run limits (at (At (AtItems no_tree)) frames (counted limits count)) behind ≡ Read spelled → ItemsBack limits no_tree frames (counted limits count) behind spelled

data_of : (limits : Limits) (frames : List Frame) (count : ℕ) (rest : List ℕ) (spelled : Spelled) (gap : List ℕ) (t : Tag) (behind : List ℕ) → IsWhite gap → rest ≡ gap ++ spelling t ++ behind
    → AgainItems limits frames count rest spelled → IsOneOf t (tags_of AtData) → Continues limits (enter limits AtData t frames (counted limits count)) behind spelled
    → FormBack limits frames count (spelling tag.Array ++ rest) spelled
data_of limits frames count rest spelled gap t behind w p again (inl is) c =
    let q : rest ≡ gap ++ spelling tag.Data ++ behind = p ∙ ap (λ (x : Tag). gap ++ spelling x ++ behind) is in
    array_form limits frames count gap rest behind spelled w q
    (again behind (ahead_shorter gap tag.Data behind rest q) (subst (λ (x : Tag). Continues limits (enter limits AtData x frames (counted limits count)) behind spelled) is c))
data_of limits frames count rest spelled gap t behind w p again (inr (inl is)) c =
    no_data_form limits frames count gap rest behind spelled w (p ∙ ap (λ (x : Tag). gap ++ spelling x ++ behind) is)
    (subst (λ (x : Tag). Continues limits (enter limits AtData x frames (counted limits count)) behind spelled) is c)
data_of limits frames count rest spelled gap t behind w p again (inr (inr o)) c = absurd o

data_back : (limits : Limits) (frames : List Frame) (count : ℕ) (rest : List ℕ) (spelled : Spelled) → AgainItems limits frames count rest spelled
    → run limits (at (At AtData) frames (counted limits count)) rest ≡ Read spelled → FormBack limits frames count (spelling tag.Array ++ rest) spelled
data_back limits frames count rest spelled again e =
    let a = ahead limits AtData frames (counted limits count) rest spelled tt e in
    data_of limits frames count rest spelled a.gap a.t a.rest a.white a.parts again a.one_of a.goes

abbrev AgainMembers : Limits → List Frame → ℕ → List ℕ → Spelled → Type 0
AgainMembers limits frames count rest spelled =
    run limits (at (At (AtMembers no_member)) frames (counted limits count)) rest ≡ Read spelled → MembersBack limits no_member frames (counted limits count) rest spelled

-- a form of this tag
to_form : (limits : Limits) (white : List ℕ) (frames : List Frame) (count : ℕ) (t u : Tag) (rest : List ℕ) (spelled : Spelled) → t ≡ u
    → (FormGoes limits white frames (counted limits count) u rest spelled → FormBack limits frames count (spelling u ++ rest) spelled)
    → FormGoes limits white frames (counted limits count) t rest spelled → FormWay limits white frames count t rest spelled
to_form limits white frames count t u rest spelled is f c =
    inl (subst (λ (x : Tag). FormBack limits frames count (spelling x ++ rest) spelled) (sym is) (f (subst (λ (x : Tag). FormGoes limits white frames (counted limits count) x rest spelled) is c)))

form_of_tag : (limits : Limits) (white : List ℕ) (frames : List Frame) (count : ℕ) (t : Tag) (rest : List ℕ) (spelled : Spelled)
    → AgainMembers limits frames count rest spelled → AgainItems limits frames count rest spelled
    → IsOneOf t (tags_of (AtForm white)) → FormGoes limits white frames (counted limits count) t rest spelled → FormWay limits white frames count t rest spelled
form_of_tag limits white frames count t rest spelled ms is (inl e) c = to_form limits white frames count t tag.I4 rest spelled e (integer_form limits true frames count rest spelled) c
form_of_tag limits white frames count t rest spelled ms is (inr (inl e)) c = to_form limits white frames count t tag.Int rest spelled e (integer_form limits false frames count rest spelled) c
form_of_tag limits white frames count t rest spelled ms is (inr (inr (inl e))) c = to_form limits white frames count t tag.Boolean rest spelled e (truth_form limits frames count rest spelled) c
form_of_tag limits white frames count t rest spelled ms is (inr (inr (inr (inl e)))) c = to_form limits white frames count t tag.String rest spelled e (string_form limits frames count rest spelled) c
form_of_tag limits white frames count t rest spelled ms is (inr (inr (inr (inr (inl e))))) c =
    to_form limits white frames count t tag.NoString rest spelled e (λ g. record { form = NoText; right = tt; rest = rest; parts = refl; goes = g }) c
form_of_tag limits white frames count t rest spelled ms is (inr (inr (inr (inr (inr (inl e)))))) c = to_form limits white frames count t tag.Double rest spelled e (kind_form limits Double frames count rest spelled) c
form_of_tag limits white frames count t rest spelled ms is (inr (inr (inr (inr (inr (inr (inl e))))))) c = to_form limits white frames count t tag.DateTime rest spelled e (kind_form limits Date frames count rest spelled) c
form_of_tag limits white frames count t rest spelled ms is (inr (inr (inr (inr (inr (inr (inr (inl e)))))))) c = to_form limits white frames count t tag.Base64 rest spelled e (kind_form limits Base frames count rest spelled) c
form_of_tag limits white frames count t rest spelled ms is (inr (inr (inr (inr (inr (inr (inr (inr (inl e))))))))) c =
    to_form limits white frames count t tag.Struct rest spelled e (λ g. struct_form limits frames count rest spelled (ms g)) c
form_of_tag limits white frames count t rest spelled ms is (inr (inr (inr (inr (inr (inr (inr (inr (inr (inl e)))))))))) c =
    to_form limits white frames count t tag.NoMembers rest spelled e (λ g. record { form = NoMembers; right = tt; rest = rest; parts = refl; goes = g }) c
form_of_tag limits white frames count t rest spelled ms is (inr (inr (inr (inr (inr (inr (inr (inr (inr (inr (inl e))))))))))) c =
    to_form limits white frames count t tag.Array rest spelled e (data_back limits frames count rest spelled is) c
form_of_tag limits white frames count t rest spelled ms is (inr (inr (inr (inr (inr (inr (inr (inr (inr (inr (inr (inl e)))))))))))) c =
    inr (e, subst (λ (x : Tag). FormGoes limits white frames (counted limits count) x rest spelled) e c)
form_of_tag limits white frames count t rest spelled ms is (inr (inr (inr (inr (inr (inr (inr (inr (inr (inr (inr (inr o)))))))))))) c = absurd o

abbrev AgainFull : Limits → List Frame → ℕ → List ℕ → Spelled → Type 0
AgainFull limits frames count bs spelled = (rest : List ℕ) → length rest < length bs → run limits (at (Opened []) frames (counted limits count)) rest ≡ Read spelled
    → ValueBack limits frames count (spelling tag.Value ++ rest) spelled

abbrev AgainMore : Limits → List Frame → List ℕ → Spelled → Type 0
AgainMore limits frames bs spelled = (before : Trees) (count : ℕ) (rest : List ℕ) → length rest < length bs
    → run limits (at (At (AtItems before)) frames count) rest ≡ Read spelled → ItemsBack limits before frames count rest spelled

pub item_parts : (gap s rest v r1 i e r : List ℕ) → s ++ rest ≡ v ++ r1 → r1 ≡ i ++ e ++ r → gap ++ s ++ rest ≡ gap ++ v ++ i ++ e ++ r
item_parts gap s rest v r1 i e r p q =
    append_assoc gap s rest ∙ ap (λ (x : List ℕ). gap ++ x) (p ∙ ap (λ (x : List ℕ). v ++ x) q) ∙ regroup gap v i e r
  where
    regroup : (gap v i e r : List ℕ) → gap ++ (v ++ (i ++ e ++ r)) ≡ gap ++ v ++ i ++ e ++ r
    regroup gap v i e r = simp append_assoc refl

one_more : (limits : Limits) (before : Trees) (frames : List Frame) (count : ℕ) (bs : List ℕ) (spelled : Spelled) (gap s rest : List ℕ) → IsWhite gap → bs ≡ gap ++ s ++ rest
    → (v : ValueBack limits (InArray before ∷ frames) count (s ++ rest) spelled)
    → AgainMore limits frames bs spelled → ItemsBack limits before frames count bs spelled
one_more limits before frames count bs spelled gap s rest w p v more =
    let behind = count_behind limits (value_of v.value) count in
    let shorter : length v.rest < length bs = let h = value_shorter v.value v.rest (s ++ rest) v.parts in omega (arith, ap length p, length-append (gap ++ s) rest, length-append gap s, length-append s rest) in
    let m = more (kept limits behind before (held limits (value_of v.value) count)) behind v.rest shorter v.goes in
    record {
      items = Item gap v.value m.items;
      right = (w, v.right, m.right);
      ending = m.ending;
      ends = m.ends;
      rest = m.rest;
      parts = p ∙ item_parts gap s rest (printed_value v.value) v.rest (printed_items m.items) (printed_end tag.EndData m.ending) m.rest v.parts m.parts;
      goes = m.goes;
    }

abbrev ItemGoes : Limits → Trees → List Frame → ℕ → Tag → List ℕ → Spelled → Type 0
ItemGoes limits before frames count t rest spelled = Continues limits (enter limits (AtItems before) t frames count) rest spelled

item_of : (limits : Limits) (before : Trees) (frames : List Frame) (count : ℕ) (bs : List ℕ) (spelled : Spelled) (gap : List ℕ) (t : Tag) (rest : List ℕ) → IsWhite gap → bs ≡ gap ++ spelling t ++ rest
    → AgainFull limits (InArray before ∷ frames) count bs spelled → AgainMore limits frames bs spelled
    → IsOneOf t (tags_of (AtItems before)) → ItemGoes limits before frames count t rest spelled → ItemsBack limits before frames count bs spelled
item_of limits before frames count bs spelled gap t rest w p full more (inl is) c =
    let q : bs ≡ gap ++ spelling tag.Value ++ rest = p ∙ ap (λ (x : Tag). gap ++ spelling x ++ rest) is in
    let g = opened_back limits (InArray before ∷ frames) count rest spelled (subst (λ (x : Tag). ItemGoes limits before frames count x rest spelled) is c) in
    one_more limits before frames count bs spelled gap (spelling tag.Value) rest w q (full rest (ahead_shorter gap tag.Value rest bs q) g.1) more
item_of limits before frames count bs spelled gap t rest w p full more (inr (inl is)) c =
    let q : bs ≡ gap ++ spelling tag.NoValue ++ rest = p ∙ ap (λ (x : Tag). gap ++ spelling x ++ rest) is in
    let g = emptied_back limits (InArray before ∷ frames) count rest spelled (subst (λ (x : Tag). ItemGoes limits before frames count x rest spelled) is c) in
    one_more limits before frames count bs spelled gap (spelling tag.NoValue) rest w q (empty_value_back limits (InArray before ∷ frames) count rest spelled g.1) more
item_of limits before frames count bs spelled gap t rest w p full more (inr (inr (inl is))) c =
    let q : bs ≡ gap ++ spelling tag.EndData ++ rest = p ∙ ap (λ (x : Tag). gap ++ spelling x ++ rest) is in
    let e = close_back limits (AtItems before) tag.EndData frames count gap rest bs spelled w q (subst (λ (x : Tag). ItemGoes limits before frames count x rest spelled) is c) in
    record { items = NoItem; right = tt; ending = e.ending; ends = e.right; rest = e.rest; parts = e.parts; goes = e.goes }
item_of limits before frames count bs spelled gap t rest w p full more (inr (inr (inr o))) c = absurd o

-- white space and a value were read
pub record GapValue (limits : Limits) (frames : List Frame) (count : ℕ) (bs : List ℕ) (spelled : Spelled) : Type 0 where
  pub gap : List ℕ
  pub white : IsWhite gap
  pub tail : List ℕ
  pub parts : bs ≡ gap ++ tail
  pub value : ValueBack limits frames count tail spelled

abbrev ValueGoes : Limits → List Frame → ℕ → Tag → List ℕ → Spelled → Type 0
ValueGoes limits frames count t rest spelled = Continues limits (enter limits AtValue t frames count) rest spelled

value_of_tag : (limits : Limits) (frames : List Frame) (count : ℕ) (bs : List ℕ) (spelled : Spelled) (gap : List ℕ) (t : Tag) (rest : List ℕ) → IsWhite gap → bs ≡ gap ++ spelling t ++ rest
    → AgainFull limits frames count bs spelled → IsOneOf t (tags_of AtValue) → ValueGoes limits frames count t rest spelled → GapValue limits frames count bs spelled
value_of_tag limits frames count bs spelled gap t rest w p full (inl is) c =
    let q : bs ≡ gap ++ spelling tag.Value ++ rest = p ∙ ap (λ (x : Tag). gap ++ spelling x ++ rest) is in
    let g = opened_back limits frames count rest spelled (subst (λ (x : Tag). ValueGoes limits frames count x rest spelled) is c) in
    record { gap = gap; white = w; tail = spelling tag.Value ++ rest; parts = q ∙ append_assoc gap (spelling tag.Value) rest; value = full rest (ahead_shorter gap tag.Value rest bs q) g.1 }
value_of_tag limits frames count bs spelled gap t rest w p full (inr (inl is)) c =
    let q : bs ≡ gap ++ spelling tag.NoValue ++ rest = p ∙ ap (λ (x : Tag). gap ++ spelling x ++ rest) is in
    let g = emptied_back limits frames count rest spelled (subst (λ (x : Tag). ValueGoes limits frames count x rest spelled) is c) in
    record { gap = gap; white = w; tail = spelling tag.NoValue ++ rest; parts = q ∙ append_assoc gap (spelling tag.NoValue) rest; value = empty_value_back limits frames count rest spelled g.1 }
value_of_tag limits frames count bs spelled gap t rest w p full (inr (inr o)) c = absurd o

gap_value : (limits : Limits) (frames : List Frame) (count : ℕ) (bs : List ℕ) (spelled : Spelled) → AgainFull limits frames count bs spelled
    → run limits (at (At AtValue) frames count) bs ≡ Read spelled → GapValue limits frames count bs spelled
gap_value limits frames count bs spelled full e =
    let a = ahead limits AtValue frames count bs spelled tt e in
    value_of_tag limits frames count bs spelled a.gap a.t a.rest a.white a.parts full a.one_of a.goes

-- the name of a member was read
record NameBack (limits : Limits) (before : Members) (frames : List Frame) (count : ℕ) (bs : List ℕ) (spelled : Spelled) : Type 0 where
  pub before_name : List ℕ
  pub white : IsWhite before_name
  pub name : List Letter
  pub right : AreLetters name
  pub inside : List ℕ
  pub closed : IsWhite inside
  pub rest : List ℕ
  pub parts : bs ≡ before_name ++ spelling tag.Name ++ printed_text name ++ printed_shut tag.EndName inside ++ rest
  pub goes : run limits (at (At AtValue) (InMember before (text_of name) ∷ frames) count) rest ≡ Read spelled

name_parts : (g n t s r : List ℕ) → g ++ n ++ (t ++ s ++ r) ≡ g ++ n ++ t ++ s ++ r
name_parts g n t s r = simp append_assoc refl

name_back : (limits : Limits) (before : Members) (frames : List Frame) (count : ℕ) (bs : List ℕ) (spelled : Spelled)
    → run limits (at (At (AtName before)) frames count) bs ≡ Read spelled → NameBack limits before frames count bs spelled
name_back limits before frames count bs spelled e =
    let a = ahead limits (AtName before) frames count bs spelled tt e in
    let is : a.t ≡ tag.Name = only_one a.t tag.Name (tags_of (AtName before)) refl a.one_of in
    let go : run limits (in_text (InName before) [] frames count) a.rest ≡ Read spelled = subst (λ (x : Tag). Continues limits (enter limits (AtName before) x frames count) a.rest spelled) is a.goes in
    let t = text_back (length a.rest) limits (InName before) [] frames count a.rest spelled (le_refl (length a.rest)) go in
    record {
      before_name = a.gap;
      white = a.white;
      name = t.letters;
      right = t.right;
      inside = t.inside;
      closed = t.white;
      rest = t.rest;
      parts = a.parts ∙ ap (λ (x : Tag). a.gap ++ spelling x ++ a.rest) is ∙ ap (λ (x : List ℕ). a.gap ++ spelling tag.Name ++ x) t.parts
          ∙ name_parts a.gap (spelling tag.Name) (printed_text t.letters) (printed_shut tag.EndName t.inside) t.rest;
      goes = t.goes;
    }

pub member_parts : (gap m r1 bn n t s r3 g2 tail v r4 e r5 ms ending r6 : List ℕ)
    → r1 ≡ bn ++ n ++ t ++ s ++ r3 → r3 ≡ g2 ++ tail → tail ≡ v ++ r4 → r4 ≡ e ++ r5 → r5 ≡ ms ++ ending ++ r6
    → gap ++ m ++ r1 ≡ gap ++ m ++ bn ++ n ++ t ++ s ++ g2 ++ v ++ e ++ ms ++ ending ++ r6
member_parts gap m r1 bn n t s r3 g2 tail v r4 e r5 ms ending r6 a b c d f =
    ap (λ (x : List ℕ). gap ++ m ++ x) (a ∙ ap (λ (x : List ℕ). bn ++ n ++ t ++ s ++ x) (b ∙ ap (λ (x : List ℕ). g2 ++ x) (c ∙ ap (λ (x : List ℕ). v ++ x) (d ∙ ap (λ (x : List ℕ). e ++ x) f))))
    ∙ regroup gap m bn n t s g2 v e ms ending r6
  where
    regroup : (gap m bn n t s g2 v e ms ending r6 : List ℕ)
        → gap ++ m ++ (bn ++ n ++ t ++ s ++ (g2 ++ (v ++ (e ++ (ms ++ ending ++ r6))))) ≡ gap ++ m ++ bn ++ n ++ t ++ s ++ g2 ++ v ++ e ++ ms ++ ending ++ r6
    regroup gap m bn n t s g2 v e ms ending r6 = simp append_assoc refl

pub behind_shorter : (front rest bs : List ℕ) → bs ≡ front ++ rest → length rest ≤ length bs
behind_shorter front rest bs e = omega (arith, ap length e, length-append front rest)

abbrev AgainMember : Limits → List Frame → List ℕ → Spelled → Type 0
AgainMember limits frames bs spelled = (before : Members) (count : ℕ) (rest : List ℕ) → length rest < length bs
    → run limits (at (At (AtMembers before)) frames count) rest ≡ Read spelled → MembersBack limits before frames count rest spelled

-- a further value, in whatever frame
abbrev AgainValue : Limits → List ℕ → Spelled → Type 0
AgainValue limits bs spelled = (frames : List Frame) (count : ℕ) → AgainFull limits frames count bs spelled

one_member : (limits : Limits) (before : Members) (frames : List Frame) (count : ℕ) (bs : List ℕ) (spelled : Spelled) (gap rest : List ℕ) → IsWhite gap → bs ≡ gap ++ spelling tag.Member ++ rest
    → AgainValue limits bs spelled → AgainMember limits frames bs spelled
    → run limits (at (At (AtName before)) frames count) rest ≡ Read spelled → MembersBack limits before frames count bs spelled
one_member limits before frames count bs spelled gap rest w p full more e =
    let n = name_back limits before frames count rest spelled e in
    let named = text_of n.name in
    let s1 : length rest < length bs = ahead_shorter gap tag.Member rest bs p in
    let s3 : length n.rest ≤ length rest = behind_shorter (n.before_name ++ spelling tag.Name ++ printed_text n.name ++ printed_shut tag.EndName n.inside) n.rest rest n.parts in
    let g = gap_value limits (InMember before named ∷ frames) count n.rest spelled (λ r l q. full (InMember before named ∷ frames) count r (omega arith) q) n.goes in
    let v = g.value in
    let held_value = held limits (value_of v.value) count in
    let behind = count_behind limits (value_of v.value) count in
    let members = kept_member limits behind before named held_value in
    let close = end_back limits (AtMemberEnd members) tag.EndMember frames behind v.rest spelled (record { only = refl; goes_on = tt; shut = λ frames count. refl }) v.goes in
    let s4 : length g.tail ≤ length n.rest = behind_shorter g.gap g.tail n.rest g.parts in
    let s5 : length v.rest < length g.tail = value_shorter v.value v.rest g.tail v.parts in
    let s6 : length close.rest ≤ length v.rest = behind_shorter (printed_end tag.EndMember close.ending) close.rest v.rest close.parts in
    let m = more members behind close.rest (omega arith) close.goes in
    record {
      members = Member gap n.before_name n.name n.inside g.gap v.value close.ending m.members;
      right = (w, n.white, n.right, n.closed, g.white, v.right, close.right, m.right);
      ending = m.ending;
      ends = m.ends;
      rest = m.rest;
      parts = p ∙ member_parts gap (spelling tag.Member) rest n.before_name (spelling tag.Name) (printed_text n.name) (printed_shut tag.EndName n.inside) n.rest
          g.gap g.tail (printed_value v.value) v.rest (printed_end tag.EndMember close.ending) close.rest (printed_members m.members) (printed_end tag.EndStruct m.ending) m.rest
          n.parts g.parts v.parts close.parts m.parts;
      goes = m.goes;
    }

abbrev MemberGoes : Limits → Members → List Frame → ℕ → Tag → List ℕ → Spelled → Type 0
MemberGoes limits before frames count t rest spelled = Continues limits (enter limits (AtMembers before) t frames count) rest spelled

member_of : (limits : Limits) (before : Members) (frames : List Frame) (count : ℕ) (bs : List ℕ) (spelled : Spelled) (gap : List ℕ) (t : Tag) (rest : List ℕ) → IsWhite gap → bs ≡ gap ++ spelling t ++ rest
    → AgainValue limits bs spelled → AgainMember limits frames bs spelled
    → IsOneOf t (tags_of (AtMembers before)) → MemberGoes limits before frames count t rest spelled → MembersBack limits before frames count bs spelled
member_of limits before frames count bs spelled gap t rest w p full more (inl is) c =
    one_member limits before frames count bs spelled gap rest w (p ∙ ap (λ (x : Tag). gap ++ spelling x ++ rest) is) full more
    (subst (λ (x : Tag). MemberGoes limits before frames count x rest spelled) is c)
member_of limits before frames count bs spelled gap t rest w p full more (inr (inl is)) c =
    let q : bs ≡ gap ++ spelling tag.EndStruct ++ rest = p ∙ ap (λ (x : Tag). gap ++ spelling x ++ rest) is in
    let e = close_back limits (AtMembers before) tag.EndStruct frames count gap rest bs spelled w q (subst (λ (x : Tag). MemberGoes limits before frames count x rest spelled) is c) in
    record { members = NoMember; right = tt; ending = e.ending; ends = e.right; rest = e.rest; parts = e.parts; goes = e.goes }
member_of limits before frames count bs spelled gap t rest w p full more (inr (inr o)) c = absurd o

pub opened_shorter : (gap rest bs : List ℕ) (t : Tag) (behind : List ℕ) → bs ≡ gap ++ rest → rest ≡ spelling t ++ behind → length behind < length bs
opened_shorter gap rest bs t behind p q = let a = behind_shorter gap rest bs p in let b = tag_shorter t behind rest q in omega arith

mutual
  -- after `<value>`
  pub full_back : (fuel : ℕ) (limits : Limits) (frames : List Frame) (count : ℕ) (rest : List ℕ) (spelled : Spelled) → 3 * length rest + 3 ≤ fuel
      → run limits (at (Opened []) frames (counted limits count)) rest ≡ Read spelled → ValueBack limits frames count (spelling tag.Value ++ rest) spelled
  full_back zero limits frames count rest spelled l e = absurd (omega arith)
  full_back (suc fuel) limits frames count rest spelled l e =
      let o = opened_split limits [] frames (counted limits count) rest spelled e in
      full_way limits frames count o.gap o.rest rest spelled o.white o.parts
      (λ t behind one_of q c. let s = opened_shorter o.gap o.rest rest t behind o.parts q in form_back fuel limits o.gap frames count t behind spelled (omega arith) one_of c)
      o.way

  form_back : (fuel : ℕ) (limits : Limits) (white : List ℕ) (frames : List Frame) (count : ℕ) (t : Tag) (rest : List ℕ) (spelled : Spelled) → 3 * length rest + 2 ≤ fuel
      → IsOneOf t (tags_of (AtForm white)) → FormGoes limits white frames (counted limits count) t rest spelled → FormWay limits white frames count t rest spelled
  form_back zero limits white frames count t rest spelled l o c = absurd (omega arith)
  form_back (suc fuel) limits white frames count t rest spelled l o c =
      form_of_tag limits white frames count t rest spelled
      (λ e. members_back fuel limits no_member frames (counted limits count) rest spelled (omega arith) e)
      (λ behind s e. items_back fuel limits no_tree frames (counted limits count) behind spelled (omega arith) e)
      o c

  items_back : (fuel : ℕ) (limits : Limits) (before : Trees) (frames : List Frame) (count : ℕ) (bs : List ℕ) (spelled : Spelled) → 3 * length bs + 1 ≤ fuel
      → run limits (at (At (AtItems before)) frames count) bs ≡ Read spelled → ItemsBack limits before frames count bs spelled
  items_back zero limits before frames count bs spelled l e = absurd (omega arith)
  items_back (suc fuel) limits before frames count bs spelled l e =
      let a = ahead limits (AtItems before) frames count bs spelled tt e in
      item_of limits before frames count bs spelled a.gap a.t a.rest a.white a.parts
      (λ rest s q. full_back fuel limits (InArray before ∷ frames) count rest spelled (omega arith) q)
      (λ before count rest s q. items_back fuel limits before frames count rest spelled (omega arith) q)
      a.one_of a.goes

  members_back : (fuel : ℕ) (limits : Limits) (before : Members) (frames : List Frame) (count : ℕ) (bs : List ℕ) (spelled : Spelled) → 3 * length bs + 1 ≤ fuel
      → run limits (at (At (AtMembers before)) frames count) bs ≡ Read spelled → MembersBack limits before frames count bs spelled
  members_back zero limits before frames count bs spelled l e = absurd (omega arith)
  members_back (suc fuel) limits before frames count bs spelled l e =
      let a = ahead limits (AtMembers before) frames count bs spelled tt e in
      member_of limits before frames count bs spelled a.gap a.t a.rest a.white a.parts
      (λ frames count rest s q. full_back fuel limits frames count rest spelled (omega arith) q)
      (λ before count rest s q. members_back fuel limits before frames count rest spelled (omega arith) q)
      a.one_of a.goes

-- before a value
pub value_back : (limits : Limits) (frames : List Frame) (count : ℕ) (bs : List ℕ) (spelled : Spelled)
    → run limits (at (At AtValue) frames count) bs ≡ Read spelled → GapValue limits frames count bs spelled
value_back limits frames count bs spelled e =
    gap_value limits frames count bs spelled (λ rest s q. full_back (3 * length rest + 3) limits frames count rest spelled (le_refl (3 * length rest + 3)) q) e
