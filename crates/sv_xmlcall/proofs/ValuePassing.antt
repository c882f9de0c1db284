-- What the printed text of a value does to a state.
use Rattle.std.proofs.Common.{◌≡◌, ℕ, suc, ◌+◌, ◌≤◌, Bool, true, false, leb, List, [], ◌∷◌, ◌++◌, length, inl, inr, refl, sym, ap, ◌∙◌, subst, arith, append_assoc, append-nil, encode_utf8, ◌⊎◌}
use Rattle.std.proofs.lemmas.Bool.{le-leb}
use Rattle.std.specs.Str.Parse.{digits_value}
use Rattle.sv_xmlcall.specs.Tags.{spelling}
use Rattle.sv_xmlcall.specs.Spelled.{is_white, signed}
use Rattle.sv_xmlcall.specs.Trees.{Tree, Trees, Members, integer, truth, text, other, structure, array, no_tree, tree, no_member, member}
use Rattle.sv_xmlcall.specs.Sizes.{nested, nested_values, nested_members}
use Rattle.sv_xmlcall.specs.Spells.{IsWhite, Letter, Plain, AreLetters, printed_text, text_of, printed_letter, printed_shut, Mark, NoMark, Plus, Minus, printed_mark, is_minus, integer_tag, integer_end, truth_digit, Kind, Double, Date, Base, kind_tag, kind_end, kind_name, ValueText, Empty, Bare, Typed, FormText, Integer, Truth, Text, NoText, Other, Struct, NoMembers, Array, NoData, ItemsText, NoItem, Item, MembersText, NoMember, Member, printed_value, printed_form, printed_items, printed_members, value_of, form_of, items_of, members_of, IsValue, IsForm, AreItems, AreMembers}
use Rattle.sv_xmlcall.specs.Machine.{Limits, AtValue, AtForm, AtFormEnd, AtData, AtItems, AtArrayEnd, AtMembers, AtName, AtMemberEnd, AtTextEnd, AtIntegerEnd, AtTruthEnd, Content, InName, InString, InDouble, InDate, InBase, InBare, Frame, InArray, InMember, State, At, Within, Close, Opened, Digits, TruthDigit, Sign, Fresh, Signed, Counted, at, run, leave, after_value, counted, kept, kept_member, tags_of, words_of}
use Rattle.sv_xmlcall.specs.declared.tag.Tag.TheVariants as tag
use Rattle.sv_xmlcall.proofs.Passing.{Passes, Stops, ◌▷◌, nothing, to_state, white, white_opened, shuts, ends, in_text, text_pass, Begins, begins, dark_text, white_char, int_pass}

abbrev mutual
  -- the count of values after a value
  pub count_behind : Limits → Tree → ℕ → ℕ
  count_behind limits (integer n) count = counted limits count
  count_behind limits (truth b) count = counted limits count
  count_behind limits (text content) count = counted limits count
  count_behind limits (other form content) count = counted limits count
  count_behind limits (structure members) count = count_behind_members limits members (counted limits count)
  count_behind limits (array values) count = count_behind_values limits values (counted limits count)

  pub count_behind_values : Limits → Trees → ℕ → ℕ
  count_behind_values limits no_tree count = count
  count_behind_values limits (tree value values) count = count_behind_values limits values (count_behind limits value count)

  pub count_behind_members : Limits → Members → ℕ → ℕ
  count_behind_members limits no_member count = count
  count_behind_members limits (member name value members) count = count_behind_members limits members (count_behind limits value count)

abbrev mutual
  -- what is kept of a value
  pub held : Limits → Tree → ℕ → Tree
  held limits (integer n) count = integer n
  held limits (truth b) count = truth b
  held limits (text content) count = text content
  held limits (other form content) count = other form content
  held limits (structure members) count = structure (held_members limits members no_member (counted limits count))
  held limits (array values) count = array (held_values limits values no_tree (counted limits count))

  pub held_values : Limits → Trees → Trees → ℕ → Trees
  held_values limits no_tree before count = before
  held_values limits (tree value values) before count =
      held_values limits values (kept limits (count_behind limits value count) before (held limits value count)) (count_behind limits value count)

  pub held_members : Limits → Members → Members → ℕ → Members
  held_members limits no_member before count = before
  held_members limits (member name value members) before count =
      held_members limits members (kept_member limits (count_behind limits value count) before name (held limits value count)) (count_behind limits value count)

-- a state from which a value opens in these frames
pub record Gate (limits : Limits) (s : State) (frames : List Frame) (count : ℕ) : Type 0 where
  pub full : leb (length frames) limits.nesting ≡ true → Passes limits s (spelling tag.Value) (at (Opened []) frames (counted limits count))
  pub empty : leb (length frames) limits.nesting ≡ true → Passes limits s (spelling tag.NoValue) (after_value limits (text []) frames (counted limits count))
  pub full_stop : leb (length frames) limits.nesting ≡ false → Stops limits s (spelling tag.Value)
  pub empty_stop : leb (length frames) limits.nesting ≡ false → Stops limits s (spelling tag.NoValue)

pub gate_value : (limits : Limits) (frames : List Frame) (count : ℕ) → Gate limits (at (At AtValue) frames count) frames count
gate_value limits frames count = record {
  full = λ e. record { goes = λ rest. rw e refl };
  empty = λ e. record { goes = λ rest. rw e refl };
  full_stop = λ e. record { stops = λ rest. rw e refl };
  empty_stop = λ e. record { stops = λ rest. rw e refl };
}

pub gate_item : (limits : Limits) (items : Trees) (frames : List Frame) (count : ℕ) → Gate limits (at (At (AtItems items)) frames count) (InArray items ∷ frames) count
gate_item limits items frames count = record {
  full = λ e. record { goes = λ rest. rw e refl };
  empty = λ e. record { goes = λ rest. rw e refl };
  full_stop = λ e. record { stops = λ rest. rw e refl };
  empty_stop = λ e. record { stops = λ rest. rw e refl };
}

pub regroup : {limits : Limits} {s t : State} (a b c : List ℕ) → Passes limits s (a ++ (b ++ c)) t → Passes limits s (a ++ b ++ c) t
regroup {limits} {s} {t} a b c p = subst (λ (x : List ℕ). Passes limits s x t) (sym (append_assoc a b c)) p

white_step : (limits : Limits) (kept : List ℕ) (frames : List Frame) (count c : ℕ) → is_white c ≡ true
    → Passes limits (at (Opened kept) frames count) (encode_utf8 c) (at (Opened (kept ++ encode_utf8 c)) frames count)
white_step limits kept frames count c w =
    let one : Passes limits (at (Opened kept) frames count) (c ∷ []) (at (Opened (kept ++ c ∷ [])) frames count) = record { goes = λ rest. rw w refl } in
    subst (λ (x : List ℕ). Passes limits (at (Opened kept) frames count) x (at (Opened (kept ++ x)) frames count)) (sym (white_char c w)) one

bare_dark : (limits : Limits) (kept : List ℕ) (frames : List Frame) (count : ℕ) (letter : Letter) (letters : List Letter) (inside : List ℕ)
    → AreLetters (letter ∷ letters) → IsWhite inside → Begins letter
    → Passes limits (at (Opened kept) frames count) (printed_text (letter ∷ letters) ++ printed_shut tag.EndValue inside)
    (after_value limits (text (kept ++ text_of (letter ∷ letters))) frames count)
bare_dark limits kept frames count letter letters inside l w b =
    let content = text_of (letter ∷ letters) in
    let end : Passes limits (in_text InBare (kept ++ content) frames count) (spelling tag.EndValue) (at (Close (AtTextEnd InBare (kept ++ content))) frames count) = record { goes = λ rest. refl } in
    let all = text_pass limits InBare kept frames count (letter ∷ letters) l
    ▷ shuts limits (in_text InBare (kept ++ content) frames count) tag.EndValue (AtTextEnd InBare (kept ++ content)) frames count inside end w in
    record {
      goes = λ rest.
          let parts : printed_text (letter ∷ letters) ++ printed_shut tag.EndValue inside ++ rest ≡ printed_letter letter ++ (printed_text letters ++ printed_shut tag.EndValue inside ++ rest) =
          ap (λ (x : List ℕ). x ++ rest) (append_assoc (printed_letter letter) (printed_text letters) (printed_shut tag.EndValue inside))
          ∙ append_assoc (printed_letter letter) (printed_text letters ++ printed_shut tag.EndValue inside) rest in
          ap (run limits (at (Opened kept) frames count)) parts
          ∙ dark_text limits kept frames count letter (printed_text letters ++ printed_shut tag.EndValue inside ++ rest) b
          ∙ ap (run limits (in_text InBare kept frames count)) (sym parts)
          ∙ all.goes rest;
    }

-- bare text
bare_pass : (limits : Limits) (kept : List ℕ) (frames : List Frame) (count : ℕ) (letters : List Letter) (inside : List ℕ) → AreLetters letters → IsWhite inside
    → Passes limits (at (Opened kept) frames count) (printed_text letters ++ printed_shut tag.EndValue inside) (after_value limits (text (kept ++ text_of letters)) frames count)
bare_pass limits kept frames count [] inside l w =
    let end : Passes limits (at (Opened kept) frames count) (spelling tag.EndValue) (at (Close (AtForm kept)) frames count) = record { goes = λ rest. refl } in
    to_state (shuts limits (at (Opened kept) frames count) tag.EndValue (AtForm kept) frames count inside end w)
    (ap (λ (k : List ℕ). after_value limits (text k) frames count) (sym (append-nil kept)))
bare_pass limits kept frames count (letter ∷ letters) inside l w =
    white_or_dark limits kept frames count letter letters inside l w
    (λ c. bare_pass limits (kept ++ encode_utf8 c) frames count letters inside l.1 w)
    (begins letter l.0)
  where
    white_or_dark : (limits : Limits) (kept : List ℕ) (frames : List Frame) (count : ℕ) (letter : Letter) (letters : List Letter) (inside : List ℕ)
        → AreLetters (letter ∷ letters) → IsWhite inside
        → ((c : ℕ) → Passes limits (at (Opened (kept ++ encode_utf8 c)) frames count) (printed_text letters ++ printed_shut tag.EndValue inside) (after_value limits (text (kept ++ encode_utf8 c ++ text_of letters)) frames count))
        → ((c : ℕ) × (letter ≡ Plain c) × (is_white c ≡ true)) ⊎ Begins letter
        → Passes limits (at (Opened kept) frames count) (printed_text (letter ∷ letters) ++ printed_shut tag.EndValue inside) (after_value limits (text (kept ++ text_of (letter ∷ letters))) frames count)
    white_or_dark limits kept frames count letter letters inside l w again (inl x) =
        let one = regroup (encode_utf8 x.0) (printed_text letters) (printed_shut tag.EndValue inside) (white_step limits kept frames count x.0 x.2 ▷ again x.0) in
        let two = to_state one (ap (λ (k : List ℕ). after_value limits (text k) frames count) (append_assoc kept (encode_utf8 x.0) (text_of letters))) in
        subst (λ (y : Letter). Passes limits (at (Opened kept) frames count) (printed_text (y ∷ letters) ++ printed_shut tag.EndValue inside) (after_value limits (text (kept ++ text_of (y ∷ letters))) frames count)) (sym x.1) two
    white_or_dark limits kept frames count letter letters inside l w again (inr b) = bare_dark limits kept frames count letter letters inside l w b

-- the state before an integer's digits
abbrev sign_of : Mark → Sign
sign_of NoMark = Fresh
sign_of Plus = Signed
sign_of Minus = Signed

mark_pass : (limits : Limits) (short : Bool) (mark : Mark) (frames : List Frame) (count : ℕ)
    → Passes limits (at (Digits short false Fresh 0) frames count) (printed_mark mark) (at (Digits short (is_minus mark) (sign_of mark) 0) frames count)
mark_pass limits short NoMark frames count = nothing
mark_pass limits short Plus frames count = record { goes = λ rest. refl }
mark_pass limits short Minus frames count = record { goes = λ rest. refl }

integer_begin : (limits : Limits) (kept : List ℕ) (short : Bool) (frames : List Frame) (count : ℕ)
    → Passes limits (at (Opened kept) frames count) (spelling (integer_tag short)) (at (Digits short false Fresh 0) frames count)
integer_begin limits kept true frames count = record { goes = λ rest. refl }
integer_begin limits kept false frames count = record { goes = λ rest. refl }

integer_close : (limits : Limits) (short negative : Bool) (frames : List Frame) (count n : ℕ)
    → Passes limits (at (Digits short negative Counted n) frames count) (spelling (integer_end short)) (at (Close (AtIntegerEnd short (signed negative n))) frames count)
integer_close limits true negative frames count n = record { goes = λ rest. refl }
integer_close limits false negative frames count n = record { goes = λ rest. refl }

integer_pass : (limits : Limits) (kept : List ℕ) (frames : List Frame) (count : ℕ) (short : Bool) (mark : Mark) (digits inside : List ℕ) → IsForm (Integer short mark digits inside)
    → Passes limits (at (Opened kept) frames count) (printed_form (Integer short mark digits inside)) (at (At (AtFormEnd (form_of (Integer short mark digits inside)))) frames count)
integer_pass limits kept frames count short mark digits inside f =
    integer_begin limits kept short frames count
    ▷ mark_pass limits short mark frames count
    ▷ int_pass limits short (is_minus mark) (sign_of mark) frames count digits f.0 f.1
    ▷ shuts limits (at (Digits short (is_minus mark) Counted (digits_value 10 digits)) frames count) (integer_end short)
    (AtIntegerEnd short (signed (is_minus mark) (digits_value 10 digits))) frames count inside
    (integer_close limits short (is_minus mark) frames count (digits_value 10 digits)) f.2

abbrev truth_end : Bool → List Frame → ℕ → State
truth_end b frames count = at (Within (AtTruthEnd b) (words_of (tags_of (AtTruthEnd b)))) frames count

truth_pass : (limits : Limits) (kept : List ℕ) (frames : List Frame) (count : ℕ) (b : Bool) (inside : List ℕ) → IsWhite inside
    → Passes limits (at (Opened kept) frames count) (printed_form (Truth b inside)) (at (At (AtFormEnd (truth b))) frames count)
truth_pass limits kept frames count true inside w =
    let begin : Passes limits (at (Opened kept) frames count) (spelling tag.Boolean) (at TruthDigit frames count) = record { goes = λ rest. refl } in
    let digit : Passes limits (at TruthDigit frames count) (truth_digit true) (truth_end true frames count) = record { goes = λ rest. refl } in
    let close : Passes limits (truth_end true frames count) (spelling tag.EndBoolean) (at (Close (AtTruthEnd true)) frames count) = record { goes = λ rest. refl } in
    begin ▷ digit ▷ shuts limits (truth_end true frames count) tag.EndBoolean (AtTruthEnd true) frames count inside close w
truth_pass limits kept frames count false inside w =
    let begin : Passes limits (at (Opened kept) frames count) (spelling tag.Boolean) (at TruthDigit frames count) = record { goes = λ rest. refl } in
    let digit : Passes limits (at TruthDigit frames count) (truth_digit false) (truth_end false frames count) = record { goes = λ rest. refl } in
    let close : Passes limits (truth_end false frames count) (spelling tag.EndBoolean) (at (Close (AtTruthEnd false)) frames count) = record { goes = λ rest. refl } in
    begin ▷ digit ▷ shuts limits (truth_end false frames count) tag.EndBoolean (AtTruthEnd false) frames count inside close w

string_pass : (limits : Limits) (kept : List ℕ) (frames : List Frame) (count : ℕ) (letters : List Letter) (inside : List ℕ) → AreLetters letters → IsWhite inside
    → Passes limits (at (Opened kept) frames count) (printed_form (Text letters inside)) (at (At (AtFormEnd (text (text_of letters)))) frames count)
string_pass limits kept frames count letters inside l w =
    let begin : Passes limits (at (Opened kept) frames count) (spelling tag.String) (in_text InString [] frames count) = record { goes = λ rest. refl } in
    let close : Passes limits (in_text InString (text_of letters) frames count) (spelling tag.EndString) (at (Close (AtTextEnd InString (text_of letters))) frames count) = record { goes = λ rest. refl } in
    begin ▷ text_pass limits InString [] frames count letters l
    ▷ shuts limits (in_text InString (text_of letters) frames count) tag.EndString (AtTextEnd InString (text_of letters)) frames count inside close w

abbrev pub kind_content : Kind → Content
kind_content Double = InDouble
kind_content Date = InDate
kind_content Base = InBase

kind_begin : (limits : Limits) (kept : List ℕ) (kind : Kind) (frames : List Frame) (count : ℕ)
    → Passes limits (at (Opened kept) frames count) (spelling (kind_tag kind)) (in_text (kind_content kind) [] frames count)
kind_begin limits kept Double frames count = record { goes = λ rest. refl }
kind_begin limits kept Date frames count = record { goes = λ rest. refl }
kind_begin limits kept Base frames count = record { goes = λ rest. refl }

kind_close : (limits : Limits) (kind : Kind) (content : List ℕ) (frames : List Frame) (count : ℕ)
    → Passes limits (in_text (kind_content kind) content frames count) (spelling (kind_end kind)) (at (Close (AtTextEnd (kind_content kind) content)) frames count)
kind_close limits Double content frames count = record { goes = λ rest. refl }
kind_close limits Date content frames count = record { goes = λ rest. refl }
kind_close limits Base content frames count = record { goes = λ rest. refl }

kind_leave : (limits : Limits) (kind : Kind) (content : List ℕ) (frames : List Frame) (count : ℕ)
    → leave limits (AtTextEnd (kind_content kind) content) frames count ≡ at (At (AtFormEnd (other (kind_name kind) content))) frames count
kind_leave limits Double content frames count = refl
kind_leave limits Date content frames count = refl
kind_leave limits Base content frames count = refl

kind_pass : (limits : Limits) (kept : List ℕ) (frames : List Frame) (count : ℕ) (kind : Kind) (letters : List Letter) (inside : List ℕ) → AreLetters letters → IsWhite inside
    → Passes limits (at (Opened kept) frames count) (printed_form (Other kind letters inside)) (at (At (AtFormEnd (other (kind_name kind) (text_of letters)))) frames count)
kind_pass limits kept frames count kind letters inside l w =
    to_state
    (kind_begin limits kept kind frames count ▷ text_pass limits (kind_content kind) [] frames count letters l
    ▷ shuts limits (in_text (kind_content kind) (text_of letters) frames count) (kind_end kind) (AtTextEnd (kind_content kind) (text_of letters)) frames count inside
    (kind_close limits kind (text_of letters) frames count) w)
    (kind_leave limits kind (text_of letters) frames count)

at_least_one : (value : Tree) → 1 ≤ nested value
at_least_one (integer n) = omega arith
at_least_one (truth b) = omega arith
at_least_one (text content) = omega arith
at_least_one (other form content) = omega arith
at_least_one (structure members) = omega arith
at_least_one (array values) = omega arith

-- a value fits inside these frames
abbrev pub Fits : Limits → List Frame → ℕ → Type 0
Fits limits frames depth = length frames + depth ≤ suc limits.nesting

opens : (limits : Limits) (frames : List Frame) (value : Tree) → Fits limits frames (nested value) → leb (length frames) limits.nesting ≡ true
opens limits frames value h = let one = at_least_one value in le-leb (length frames) limits.nesting (omega arith)

mutual
  pub value_pass : (limits : Limits) (s : State) (frames : List Frame) (count : ℕ) (value : ValueText) → Gate limits s frames count → IsValue value → Fits limits frames (nested (value_of value))
      → Passes limits s (printed_value value) (after_value limits (held limits (value_of value) count) frames (count_behind limits (value_of value) count))
  value_pass limits s frames count Empty gate v fits = gate.empty (opens limits frames (text []) fits)
  value_pass limits s frames count (Bare letters inside) gate v fits =
      regroup (spelling tag.Value) (printed_text letters) (printed_shut tag.EndValue inside)
      (gate.full (opens limits frames (text (text_of letters)) fits) ▷ bare_pass limits [] frames (counted limits count) letters inside v.0 v.1)
  value_pass limits s frames count (Typed before form ending) gate v fits =
      let tree = held limits (form_of form) count in
      let behind = count_behind limits (form_of form) count in
      let close : Passes limits (at (At (AtFormEnd tree)) frames behind) (spelling tag.EndValue) (at (Close (AtFormEnd tree)) frames behind) = record { goes = λ rest. refl } in
      gate.full (opens limits frames (form_of form) fits)
      ▷ white_opened limits [] frames (counted limits count) before v.0
      ▷ form_pass limits before frames count form v.1 fits
      ▷ ends limits tag.EndValue (AtFormEnd tree) frames behind ending close v.2

  form_pass : (limits : Limits) (kept : List ℕ) (frames : List Frame) (count : ℕ) (form : FormText) → IsForm form → Fits limits frames (nested (form_of form))
      → Passes limits (at (Opened kept) frames (counted limits count)) (printed_form form)
      (at (At (AtFormEnd (held limits (form_of form) count))) frames (count_behind limits (form_of form) count))
  form_pass limits kept frames count (Integer short mark digits inside) f fits = integer_pass limits kept frames (counted limits count) short mark digits inside f
  form_pass limits kept frames count (Truth b inside) f fits = truth_pass limits kept frames (counted limits count) b inside f
  form_pass limits kept frames count (Text letters inside) f fits = string_pass limits kept frames (counted limits count) letters inside f.0 f.1
  form_pass limits kept frames count NoText f fits = record { goes = λ rest. refl }
  form_pass limits kept frames count (Other kind letters inside) f fits = kind_pass limits kept frames (counted limits count) kind letters inside f.0 f.1
  form_pass limits kept frames count (Struct members ending) f fits =
      let opened = counted limits count in
      let ms = held_members limits (members_of members) no_member opened in
      let behind = count_behind_members limits (members_of members) opened in
      let begin : Passes limits (at (Opened kept) frames opened) (spelling tag.Struct) (at (At (AtMembers no_member)) frames opened) = record { goes = λ rest. refl } in
      let close : Passes limits (at (At (AtMembers ms)) frames behind) (spelling tag.EndStruct) (at (Close (AtMembers ms)) frames behind) = record { goes = λ rest. refl } in
      begin ▷ members_pass limits frames opened no_member members f.0 (omega arith) ▷ ends limits tag.EndStruct (AtMembers ms) frames behind ending close f.1
  form_pass limits kept frames count NoMembers f fits = record { goes = λ rest. refl }
  form_pass limits kept frames count (Array before items of_data of_array) f fits =
      let opened = counted limits count in
      let ts = held_values limits (items_of items) no_tree opened in
      let behind = count_behind_values limits (items_of items) opened in
      let begin : Passes limits (at (Opened kept) frames opened) (spelling tag.Array) (at (At AtData) frames opened) = record { goes = λ rest. refl } in
      let data_begin : Passes limits (at (At AtData) frames opened) (spelling tag.Data) (at (At (AtItems no_tree)) frames opened) = record { goes = λ rest. refl } in
      let data_close : Passes limits (at (At (AtItems ts)) frames behind) (spelling tag.EndData) (at (Close (AtItems ts)) frames behind) = record { goes = λ rest. refl } in
      let close : Passes limits (at (At (AtArrayEnd ts)) frames behind) (spelling tag.EndArray) (at (Close (AtArrayEnd ts)) frames behind) = record { goes = λ rest. refl } in
      begin ▷ white limits AtData frames opened before f.0 ▷ data_begin ▷ items_pass limits frames opened no_tree items f.1 (omega arith)
      ▷ ends limits tag.EndData (AtItems ts) frames behind of_data data_close f.2 ▷ ends limits tag.EndArray (AtArrayEnd ts) frames behind of_array close f.3
  form_pass limits kept frames count (NoData before of_array) f fits =
      let opened = counted limits count in
      let begin : Passes limits (at (Opened kept) frames opened) (spelling tag.Array) (at (At AtData) frames opened) = record { goes = λ rest. refl } in
      let data_begin : Passes limits (at (At AtData) frames opened) (spelling tag.NoData) (at (At (AtArrayEnd no_tree)) frames opened) = record { goes = λ rest. refl } in
      let close : Passes limits (at (At (AtArrayEnd no_tree)) frames opened) (spelling tag.EndArray) (at (Close (AtArrayEnd no_tree)) frames opened) = record { goes = λ rest. refl } in
      begin ▷ white limits AtData frames opened before f.0 ▷ data_begin ▷ ends limits tag.EndArray (AtArrayEnd no_tree) frames opened of_array close f.1

  items_pass : (limits : Limits) (frames : List Frame) (count : ℕ) (before : Trees) (items : ItemsText) → AreItems items → suc (length frames) + nested_values (items_of items) ≤ suc limits.nesting
      → Passes limits (at (At (AtItems before)) frames count) (printed_items items)
      (at (At (AtItems (held_values limits (items_of items) before count))) frames (count_behind_values limits (items_of items) count))
  items_pass limits frames count before NoItem v fits = nothing
  items_pass limits frames count before (Item gap value items) v fits =
      let behind = count_behind limits (value_of value) count in
      white limits (AtItems before) frames count gap v.0
      ▷ value_pass limits (at (At (AtItems before)) frames count) (InArray before ∷ frames) count value (gate_item limits before frames count) v.1 (omega arith)
      ▷ items_pass limits frames behind (kept limits behind before (held limits (value_of value) count)) items v.2 (omega arith)

  members_pass : (limits : Limits) (frames : List Frame) (count : ℕ) (before : Members) (members : MembersText) → AreMembers members → suc (length frames) + nested_members (members_of members) ≤ suc limits.nesting
      → Passes limits (at (At (AtMembers before)) frames count) (printed_members members)
      (at (At (AtMembers (held_members limits (members_of members) before count))) frames (count_behind_members limits (members_of members) count))
  members_pass limits frames count before NoMember v fits = nothing
  members_pass limits frames count before (Member gap before_name name inside before_value value ending members) v fits =
      let named = text_of name in
      let behind = count_behind limits (value_of value) count in
      let more = kept_member limits behind before named (held limits (value_of value) count) in
      let begin : Passes limits (at (At (AtMembers before)) frames count) (spelling tag.Member) (at (At (AtName before)) frames count) = record { goes = λ rest. refl } in
      let name_begin : Passes limits (at (At (AtName before)) frames count) (spelling tag.Name) (in_text (InName before) [] frames count) = record { goes = λ rest. refl } in
      let name_close : Passes limits (in_text (InName before) named frames count) (spelling tag.EndName) (at (Close (AtTextEnd (InName before) named)) frames count) = record { goes = λ rest. refl } in
      let close : Passes limits (at (At (AtMemberEnd more)) frames behind) (spelling tag.EndMember) (at (Close (AtMemberEnd more)) frames behind) = record { goes = λ rest. refl } in
      white limits (AtMembers before) frames count gap v.0 ▷ begin
      ▷ white limits (AtName before) frames count before_name v.1 ▷ name_begin
      ▷ text_pass limits (InName before) [] frames count name v.2
      ▷ shuts limits (in_text (InName before) named frames count) tag.EndName (AtTextEnd (InName before) named) frames count inside name_close v.3
      ▷ white limits AtValue (InMember before named ∷ frames) count before_value v.4
      ▷ value_pass limits (at (At AtValue) (InMember before named ∷ frames) count) (InMember before named ∷ frames) count value (gate_value limits (InMember before named ∷ frames) count) v.5 (omega arith)
      ▷ ends limits tag.EndMember (AtMemberEnd more) frames behind ending close v.6
      ▷ members_pass limits frames behind more members v.7 (omega arith)
