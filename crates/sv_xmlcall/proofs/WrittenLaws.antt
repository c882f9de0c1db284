-- The written text of what can be written spells it.
use Rattle.std.proofs.Common.{◌≡◌, ◌≢◌, ℕ, suc, ◌+◌, ◌/◌, ◌%◌, ◌≤◌, Bool, true, false, eqb, List, [], ◌∷◌, ◌++◌, inl, inr, refl, sym, ap, ◌∙◌, subst, arith, append_assoc, append-nil, codes, decimal, encode_utf8, ℤ, pos, negsuc, IsUtf8, if◌then◌else◌, ◌||◌}
use Rattle.std.specs.List.{list_all}
use Rattle.std.proofs.lemmas.Bool.{cases_Bool, cases_lt, cases_eq, and_parts, lt-ltb, le-ltb, ne_eqb}
use Rattle.std.proofs.lemmas.Grind.{flat_map-append}
use Rattle.std.proofs.lemmas.Str.{encode_ascii}
use Rattle.std.proofs.lemmas.Fmt.{decimal_is_IsNumeral}
use lib.Utf8.{encode, encodes}
use Rattle.sv_xmlcall.specs.Tags.{spelling}
use Rattle.sv_letters.specs.Letters.{is_allowed}
use Rattle.sv_xmlcall.specs.Spelled.{signed}
use Rattle.sv_xmlcall.specs.Trees.{Tree, Trees, Members, integer, truth, text, other, structure, array, no_tree, tree, no_member, member, CallTree, Reply, Returns, Faults}
use Rattle.sv_xmlcall.specs.Written.{escaped_byte, escaped, opening, closing, written_form, written_values, written_members, written_value, written_params, declaration, written_call, fault_tree, written_reply}
use Rattle.sv_xmlcall.specs.Writable.{IsXml, Has64Bits, IsWritable, AreWritable, AreWritableMembers, IsWritableCall, IsWritableReply}
use Rattle.sv_xmlcall.specs.Spells.{Ampersand, Less, Greater, Letter, Plain, Named, Numbered, character_of, printed_letter, IsLetter, AreLetters, printed_text, text_of, Ending, printed_shut, NoMark, Minus, Kind, Double, Date, Base, kind_name, ValueText, Typed, FormText, Integer, Truth, Text, Other, Struct, Array, ItemsText, NoItem, Item, MembersText, NoMember, Member, printed_value, printed_form, printed_items, printed_members, form_of, items_of, members_of, IsValue, IsForm, AreItems, AreMembers}
use Rattle.sv_xmlcall.specs.SpelledTexts.{Declared, IsHead, ParamText, AreParams, printed_param, printed_each, values_of, Params, Answer, Fault, SpellsCall, SpellsReply}
use Rattle.sv_xmlcall.specs.declared.tag.Tag.TheVariants as tag

-- a character as it is written
abbrev letter_of : ℕ → Letter
letter_of c =
    if eqb c 38 then Named Ampersand
    else if eqb c 60 then Named Less
    else if eqb c 62 then Named Greater
    else if eqb c 13 then Numbered false (codes "13")
    else Plain c

escaped_high : (b : ℕ) → 128 ≤ b → escaped_byte b ≡ b ∷ []
escaped_high b h = rw (ne_eqb b 38 (λ e. omega arith), ne_eqb b 60 (λ e. omega arith), ne_eqb b 62 (λ e. omega arith), ne_eqb b 13 (λ e. omega arith)) refl

escaped_char : (c : ℕ) → 128 ≤ c → escaped (encode c) ≡ encode c
unfolding encode
escaped_char c h = elim (cases_lt c 2048) [
  | inl u ↦ rw (le-ltb c 128 h, lt-ltb c 2048 u, escaped_high (192 + c / 64) (omega arith), escaped_high (128 + c % 64) (omega arith)) refl
  | inr l ↦ elim (cases_lt c 65536) [
    | inl u ↦ rw (le-ltb c 128 h, le-ltb c 2048 l, lt-ltb c 65536 u, escaped_high (224 + c / 4096) (omega arith), escaped_high (128 + (c / 64) % 64) (omega arith), escaped_high (128 + c % 64) (omega arith)) refl
    | inr m ↦ rw (le-ltb c 128 h, le-ltb c 2048 l, le-ltb c 65536 m, escaped_high (240 + c / 262144) (omega arith), escaped_high (128 + (c / 4096) % 64) (omega arith), escaped_high (128 + (c / 64) % 64) (omega arith), escaped_high (128 + c % 64) (omega arith)) refl
  ]
]

-- a letter for a character: right, printed as it is written
record Letters (c : ℕ) (letter : Letter) : Type 0 where
  pub right : IsLetter letter
  pub means : character_of letter ≡ c
  pub printed : printed_letter letter ≡ escaped (encode c)

thirteen : IsLetter (Numbered false (codes "13"))
thirteen = ((omega arith, (omega arith, (omega arith, tt))), refl)

letter_is : (c : ℕ) → is_allowed c ≡ true → Letters c (letter_of c)
unfolding encode
letter_is c a = elim (cases_eq c 38) [
  | inl e ↦ rw e (record { right = tt; means = refl; printed = refl })
  | inr amp ↦ elim (cases_eq c 60) [
    | inl e ↦ rw e (record { right = tt; means = refl; printed = refl })
    | inr less ↦ elim (cases_eq c 62) [
      | inl e ↦ rw e (record { right = tt; means = refl; printed = refl })
      | inr greater ↦ elim (cases_eq c 13) [
        | inl e ↦ rw e (record { right = thirteen; means = refl; printed = refl })
        | inr return ↦ rw (ne_eqb c 38 amp, ne_eqb c 60 less, ne_eqb c 62 greater, ne_eqb c 13 return)
            (record { right = (a, amp, less); means = refl; printed = plain_printed c amp less greater return })
      ]
    ]
  ]
]
  where
    plain_printed : (c : ℕ) → c ≢ 38 → c ≢ 60 → c ≢ 62 → c ≢ 13 → encode c ≡ escaped (encode c)
    plain_printed c amp less greater return = elim (cases_lt c 128) [
      | inl h ↦
          let one : escaped (c ∷ []) ≡ c ∷ [] = rw (ne_eqb c 38 amp, ne_eqb c 60 less, ne_eqb c 62 greater, ne_eqb c 13 return) refl in
          encode_ascii c h ∙ sym one ∙ ap escaped (sym (encode_ascii c h))
      | inr h ↦ sym (escaped_char c h)
    ]

-- a text as it is written
record Laid (content : List ℕ) : Type 0 where
  pub letters : List Letter
  pub right : AreLetters letters
  pub means : text_of letters ≡ content
  pub printed : printed_text letters ≡ escaped content

laid_characters : (cs : List ℕ) → list_all is_allowed cs ≡ true → Laid (encodes cs)
laid_characters [] a = record { letters = []; right = tt; means = refl; printed = refl }
laid_characters (c ∷ cs) a =
    let p = and_parts (is_allowed c) (list_all is_allowed cs) a in
    let one = letter_is c p.0 in
    let more = laid_characters cs p.1 in
    record {
      letters = letter_of c ∷ more.letters;
      right = (one.right, more.right);
      means = ap (λ (x : List ℕ). x ++ text_of more.letters) (ap encode_utf8 one.means) ∙ ap (λ (x : List ℕ). encode c ++ x) more.means;
      printed = ap (λ (x : List ℕ). x ++ printed_text more.letters) one.printed ∙ ap (λ (x : List ℕ). escaped (encode c) ++ x) more.printed ∙ sym (flat_map-append escaped_byte (encode c) (encodes cs));
    }

laid : (content : List ℕ) → IsXml content → Laid content
laid content x = subst Laid x.2 (laid_characters x.0 x.1)

abbrev plain_end : Ending
plain_end = record { before = []; inside = [] }

-- a form as it is written
pub record Forms (value : Tree) : Type 0 where
  pub form : FormText
  pub right : IsForm form
  pub means : form_of form ≡ value
  pub printed : printed_form form ≡ written_form value

integer_form : (n : ℤ) → Has64Bits n → Forms (integer n)
unfolding opening closing
integer_form (pos n) h =
    let d = decimal_is_IsNumeral n (omega arith) in
    record { form = Integer false NoMark (decimal n) []; right = (d.0, omega (arith, d.1), refl); means = ap (λ (x : ℕ). integer (pos x)) d.1; printed = refl }
integer_form (negsuc n) h =
    let d = decimal_is_IsNumeral (suc n) (omega arith) in
    record { form = Integer false Minus (decimal (suc n)) []; right = (d.0, omega (arith, d.1), refl); means = ap (λ (x : ℕ). integer (signed true x)) d.1; printed = refl }

truth_form : (b : Bool) → Forms (truth b)
unfolding opening closing
truth_form true = record { form = Truth true []; right = refl; means = refl; printed = refl }
truth_form false = record { form = Truth false []; right = refl; means = refl; printed = refl }

text_form : (content : List ℕ) → Laid content → Forms (text content)
unfolding opening closing
text_form content l = record {
  form = Text l.letters [];
  right = (l.right, refl);
  means = ap text l.means;
  printed = ap (λ (x : List ℕ). spelling tag.String ++ x ++ printed_shut tag.EndString []) l.printed;
}

kind_form : (kind : Kind) (content : List ℕ) → Laid content → Forms (other (kind_name kind) content)
unfolding opening closing
kind_form Double content l = record {
  form = Other Double l.letters [];
  right = (l.right, refl);
  means = ap (other (kind_name Double)) l.means;
  printed = ap (λ (x : List ℕ). spelling tag.Double ++ x ++ printed_shut tag.EndDouble []) l.printed;
}
kind_form Date content l = record {
  form = Other Date l.letters [];
  right = (l.right, refl);
  means = ap (other (kind_name Date)) l.means;
  printed = ap (λ (x : List ℕ). spelling tag.DateTime ++ x ++ printed_shut tag.EndDateTime []) l.printed;
}
kind_form Base content l = record {
  form = Other Base l.letters [];
  right = (l.right, refl);
  means = ap (other (kind_name Base)) l.means;
  printed = ap (λ (x : List ℕ). spelling tag.Base64 ++ x ++ printed_shut tag.EndBase64 []) l.printed;
}

-- a value as it is written
abbrev value_text : FormText → ValueText
value_text form = Typed [] form plain_end

value_right : (form : FormText) → IsForm form → IsValue (value_text form)
value_right form f = (refl, f, (refl, refl))

value_printed : (value : Tree) (f : Forms value) → printed_value (value_text f.form) ≡ written_value value
unfolding opening closing
value_printed value f = ap (λ (x : List ℕ). spelling tag.Value ++ x ++ printed_shut tag.EndValue []) f.printed

pub record Items (values : Trees) : Type 0 where
  pub items : ItemsText
  pub right : AreItems items
  pub means : items_of items ≡ values
  pub printed : printed_items items ≡ written_values values

pub record Membered (members : Members) : Type 0 where
  pub members_text : MembersText
  pub right : AreMembers members_text
  pub means : members_of members_text ≡ members
  pub printed : printed_members members_text ≡ written_members members

struct_form : (members : Members) → Membered members → Forms (structure members)
unfolding opening closing
struct_form members m = record {
  form = Struct m.members_text plain_end;
  right = (m.right, (refl, refl));
  means = ap structure m.means;
  printed = ap (λ (x : List ℕ). spelling tag.Struct ++ x ++ printed_shut tag.EndStruct []) m.printed;
}

array_parts : (a d x f e : List ℕ) → a ++ d ++ x ++ f ++ e ≡ a ++ (d ++ x ++ f) ++ e
array_parts a d x f e = simp append_assoc refl

array_form : (values : Trees) → Items values → Forms (array values)
unfolding opening closing
array_form values i = record {
  form = Array [] i.items plain_end plain_end;
  right = (refl, i.right, (refl, refl), (refl, refl));
  means = ap array i.means;
  printed =
      array_parts (spelling tag.Array) (spelling tag.Data) (printed_items i.items) (printed_shut tag.EndData []) (printed_shut tag.EndArray [])
      ∙ ap (λ (x : List ℕ). spelling tag.Array ++ (spelling tag.Data ++ x ++ printed_shut tag.EndData []) ++ printed_shut tag.EndArray []) i.printed;
}

member_parts : (m n t s v e r : List ℕ) → m ++ n ++ t ++ s ++ [] ++ v ++ e ++ r ≡ m ++ (n ++ t ++ s ++ v) ++ e ++ r
member_parts m n t s v e r = simp (append_assoc, append-nil) refl

one_member : (name : List ℕ) (value : Tree) (members : Members) → Laid name → Forms value → Membered members → Membered (member name value members)
unfolding opening closing
one_member name value members l f m = record {
  members_text = Member [] [] l.letters [] [] (value_text f.form) plain_end m.members_text;
  right = (refl, refl, l.right, refl, refl, value_right f.form f.right, (refl, refl), m.right);
  means = ap (λ (x : List ℕ). member x (form_of f.form) (members_of m.members_text)) l.means
      ∙ ap (λ (x : Tree). member name x (members_of m.members_text)) f.means ∙ ap (member name value) m.means;
  printed =
      member_parts (spelling tag.Member) (spelling tag.Name) (printed_text l.letters) (printed_shut tag.EndName []) (printed_value (value_text f.form)) (printed_shut tag.EndMember []) (printed_members m.members_text)
      ∙ ap (λ (x : List ℕ). spelling tag.Member ++ (spelling tag.Name ++ x ++ printed_shut tag.EndName [] ++ printed_value (value_text f.form)) ++ printed_shut tag.EndMember [] ++ printed_members m.members_text) l.printed
      ∙ ap (λ (x : List ℕ). spelling tag.Member ++ (spelling tag.Name ++ escaped name ++ printed_shut tag.EndName [] ++ x) ++ printed_shut tag.EndMember [] ++ printed_members m.members_text) (value_printed value f)
      ∙ ap (λ (x : List ℕ). spelling tag.Member ++ (spelling tag.Name ++ escaped name ++ printed_shut tag.EndName [] ++ written_value value) ++ printed_shut tag.EndMember [] ++ x) m.printed;
}

one_item : (value : Tree) (values : Trees) → Forms value → Items values → Items (tree value values)
one_item value values f i = record {
  items = Item [] (value_text f.form) i.items;
  right = (refl, value_right f.form f.right, i.right);
  means = ap (λ (x : Tree). tree x (items_of i.items)) f.means ∙ ap (tree value) i.means;
  printed = ap (λ (x : List ℕ). x ++ printed_items i.items) (value_printed value f) ∙ ap (λ (x : List ℕ). written_value value ++ x) i.printed;
}

mutual
  pub form_for : (value : Tree) → IsWritable value → Forms value
  form_for (integer n) w = integer_form n w
  form_for (truth b) w = truth_form b
  form_for (text content) w = text_form content (laid content w)
  form_for (other form content) w = subst (λ (x : List ℕ). Forms (other x content)) w.0.1 (kind_form w.0.0 content (laid content w.1))
  form_for (structure members) w = struct_form members (members_for members w)
  form_for (array values) w = array_form values (items_for values w)

  items_for : (values : Trees) → AreWritable values → Items values
  items_for no_tree w = record { items = NoItem; right = tt; means = refl; printed = refl }
  items_for (tree value values) w = one_item value values (form_for value w.0) (items_for values w.1)

  members_for : (members : Members) → AreWritableMembers members → Membered members
  members_for no_member w = record { members_text = NoMember; right = tt; means = refl; printed = refl }
  members_for (member name value members) w = one_member name value members (laid name w.0) (form_for value w.1) (members_for members w.2)

record ParamList (values : Trees) : Type 0 where
  pub params : List ParamText
  pub right : AreParams params
  pub means : values_of params ≡ values
  pub printed : printed_each params ≡ written_params values

one_param : (value : Tree) (values : Trees) → Forms value → ParamList values → ParamList (tree value values)
unfolding opening closing
one_param value values f p = record {
  params = record { before = []; before_value = []; value = value_text f.form; ending = plain_end } ∷ p.params;
  right = ((refl, refl, value_right f.form f.right, (refl, refl)), p.right);
  means = ap (λ (x : Tree). tree x (values_of p.params)) f.means ∙ ap (tree value) p.means;
  printed =
      ap (λ (x : List ℕ). spelling tag.Param ++ x ++ printed_shut tag.EndParam [] ++ printed_each p.params) (value_printed value f)
      ∙ ap (λ (x : List ℕ). spelling tag.Param ++ written_value value ++ printed_shut tag.EndParam [] ++ x) p.printed;
}

params_for : (values : Trees) → AreWritable values → ParamList values
params_for no_tree w = record { params = []; right = tt; means = refl; printed = refl }
params_for (tree value values) w = one_param value values (form_for value w.0) (params_for values w.1)

abbrev has_mark : List ℕ → Bool
has_mark [] = false
has_mark (b ∷ bs) = eqb b 63 || has_mark bs

mark_after : (front back : List ℕ) → has_mark (front ++ 63 ∷ back) ≡ true
mark_after [] back = refl
mark_after (b ∷ front) back = elim (cases_Bool (eqb b 63)) [
  | inl e ↦ rw e refl
  | inr e ↦ rw e (mark_after front back)
]

no_mark : false ≡ true → ⊥
no_mark e = cc e

abbrev version : List ℕ
version = codes " version='1.0'"

version_utf8 : IsUtf8 version
unfolding encode
version_utf8 = (version, (refl, refl))

version_head : IsHead (Declared [] version [])
version_head = (refl, version_utf8, λ front back e. no_mark (ap has_mark (e ∙ append_assoc front (codes "?>") back) ∙ mark_after front (62 ∷ back)), refl)

call_parts : (h m n t s o p c e : List ℕ) → h ++ m ++ n ++ t ++ s ++ (o ++ p ++ c) ++ e ++ [] ≡ h ++ (m ++ (n ++ t ++ s ++ (o ++ p ++ c)) ++ e)
call_parts h m n t s o p c e = simp (append_assoc, append-nil) refl

abbrev record_of : List ℕ → Trees → CallTree
record_of method params = record { method = method; params = params }

same_call : (one two : List ℕ) (params values : Trees) → one ≡ two → params ≡ values → record_of one params ≡ record_of two values
same_call one two params values e f = ap (λ (x : List ℕ). record_of x params) e ∙ ap (record_of two) f

not_empty : (letters : List Letter) (content : List ℕ) → text_of letters ≡ content → content ≢ [] → letters ≢ []
not_empty letters content e n = λ f. n (sym e ∙ ap text_of f)

call_spells : (call : CallTree) → AreWritable call.params → call.method ≢ [] → Laid call.method → ParamList call.params → SpellsCall (written_call call) call
unfolding opening closing
call_spells call w n l p = record {
  text = record { head = Declared [] version []; before_name = []; name = l.letters; inside = []; params = Params [] p.params plain_end; ending = plain_end; after = [] };
  right = record {
    head = version_head;
    before_name = refl;
    letters = l.right;
    named = not_empty l.letters call.method l.means n;
    inside = refl;
    params = (refl, p.right, (refl, refl));
    ending = (refl, refl);
    after = refl;
  };
  printed =
      call_parts declaration (spelling tag.MethodCall) (spelling tag.MethodName) (printed_text l.letters) (printed_shut tag.EndMethodName [])
      (spelling tag.Params) (printed_each p.params) (printed_shut tag.EndParams []) (printed_shut tag.EndMethodCall [])
      ∙ ap (λ (x : List ℕ). declaration ++ (spelling tag.MethodCall ++ (spelling tag.MethodName ++ x ++ printed_shut tag.EndMethodName [] ++ (spelling tag.Params ++ printed_each p.params ++ printed_shut tag.EndParams [])) ++ printed_shut tag.EndMethodCall [])) l.printed
      ∙ ap (λ (x : List ℕ). declaration ++ (spelling tag.MethodCall ++ (spelling tag.MethodName ++ escaped call.method ++ printed_shut tag.EndMethodName [] ++ (spelling tag.Params ++ x ++ printed_shut tag.EndParams [])) ++ printed_shut tag.EndMethodCall [])) p.printed;
  means = same_call (text_of l.letters) call.method (values_of p.params) call.params l.means p.means;
}

-- the written text of a call spells it
pub written_call_spells : (call : CallTree) → IsWritableCall call → SpellsCall (written_call call) call
written_call_spells call w = call_spells call w.2 w.1 (laid call.method w.0) (params_for call.params w.2)

reply_parts : (h m a e : List ℕ) → h ++ m ++ a ++ e ++ [] ≡ h ++ (m ++ a ++ e)
reply_parts h m a e = simp (append_assoc, append-nil) refl

value_spells : (value : Tree) → Forms value → SpellsReply (written_reply (Returns value)) (Returns value)
unfolding opening closing
value_spells value f =
    let param : ParamText = record { before = []; before_value = []; value = value_text f.form; ending = plain_end } in
    record {
      text = record { head = Declared [] version []; answer = Answer [] param plain_end; ending = plain_end; after = [] };
      right = record { head = version_head; answer = (refl, (refl, refl, value_right f.form f.right, (refl, refl)), (refl, refl)); ending = (refl, refl); after = refl };
      printed =
          reply_parts declaration (spelling tag.MethodResponse) (spelling tag.Params ++ printed_param param ++ printed_shut tag.EndParams []) (printed_shut tag.EndMethodResponse [])
          ∙ ap (λ (x : List ℕ). declaration ++ (spelling tag.MethodResponse ++ (spelling tag.Params ++ (spelling tag.Param ++ x ++ printed_shut tag.EndParam []) ++ printed_shut tag.EndParams []) ++ printed_shut tag.EndMethodResponse [])) (value_printed value f);
      means = ap Returns f.means;
    }

fault_spells : (number : ℤ) (content : List ℕ) → Forms (fault_tree number content) → SpellsReply (written_reply (Faults number content)) (Faults number content)
unfolding opening closing
fault_spells number content f =
    record {
      text = record { head = Declared [] version []; answer = Fault [] [] (value_text f.form) number content plain_end; ending = plain_end; after = [] };
      right = record { head = version_head; answer = (refl, refl, value_right f.form f.right, inl f.means, (refl, refl)); ending = (refl, refl); after = refl };
      printed =
          reply_parts declaration (spelling tag.MethodResponse) (spelling tag.Fault ++ printed_value (value_text f.form) ++ printed_shut tag.EndFault []) (printed_shut tag.EndMethodResponse [])
          ∙ ap (λ (x : List ℕ). declaration ++ (spelling tag.MethodResponse ++ (spelling tag.Fault ++ x ++ printed_shut tag.EndFault []) ++ printed_shut tag.EndMethodResponse [])) (value_printed (fault_tree number content) f);
      means = refl;
    }

code_is : IsXml (codes "faultCode")
unfolding encode
code_is = (codes "faultCode", refl, refl)

string_is : IsXml (codes "faultString")
unfolding encode
string_is = (codes "faultString", refl, refl)

-- the written text of a reply spells it
pub written_reply_spells : (reply : Reply) → IsWritableReply reply → SpellsReply (written_reply reply) reply
written_reply_spells (Returns value) w = value_spells value (form_for value w)
written_reply_spells (Faults number content) w = fault_spells number content (form_for (fault_tree number content) (code_is, w.0, (string_is, w.1, tt)))
