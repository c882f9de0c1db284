-- Where a value of a printed text stands inside too many others, reading stops there.
use Rattle.std.proofs.Common.{ℕ, suc, ◌+◌, ◌<◌, ◌≤◌, List, [], ◌∷◌, length, inl, inr, refl, arith}
use Rattle.std.proofs.lemmas.Bool.{cases_lt, le-leb, lt-leb}
use Rattle.sv_xmlcall.specs.Tags.{spelling}
use Rattle.sv_xmlcall.specs.Trees.{Trees, Members, no_tree, no_member}
use Rattle.sv_xmlcall.specs.Sizes.{nested, nested_values, nested_members}
use Rattle.sv_xmlcall.specs.Spells.{printed_text, text_of, printed_shut, printed_end, ValueText, Empty, Bare, Typed, FormText, Integer, Truth, Text, NoText, Other, Struct, NoMembers, Array, NoData, ItemsText, NoItem, Item, MembersText, NoMember, Member, printed_value, printed_form, printed_items, printed_members, value_of, form_of, items_of, members_of, IsValue, IsForm, AreItems, AreMembers}
use Rattle.sv_xmlcall.specs.Machine.{Limits, AtValue, AtData, AtItems, AtMembers, AtName, AtMemberEnd, AtTextEnd, InName, Frame, InArray, InMember, State, At, Close, Opened, at, counted, kept, kept_member}
use Rattle.sv_xmlcall.specs.declared.tag.Tag.TheVariants as tag
use Rattle.sv_xmlcall.proofs.Passing.{Passes, Stops, ◌▷◌, ◌▷!◌, ◌!▷◌, white, white_opened, shuts, ends, in_text, text_pass}
use Rattle.sv_xmlcall.proofs.ValuePassing.{count_behind, held, Gate, gate_value, gate_item, value_pass}

-- a value does not fit inside these frames
abbrev pub Overflows : Limits → List Frame → ℕ → Type 0
Overflows limits frames depth = suc limits.nesting < length frames + depth

shallow : {P : Type 0} (limits : Limits) (frames : List Frame) → length frames ≤ limits.nesting → Overflows limits frames 1 → P
shallow limits frames l o = absurd (omega arith)

mutual
  pub value_stops : (limits : Limits) (s : State) (frames : List Frame) (count : ℕ) (value : ValueText) → Gate limits s frames count → IsValue value → Overflows limits frames (nested (value_of value))
      → Stops limits s (printed_value value)
  value_stops limits s frames count Empty gate v over = gate.empty_stop (lt-leb (length frames) limits.nesting (omega arith))
  value_stops limits s frames count (Bare letters inside) gate v over =
      gate.full_stop (lt-leb (length frames) limits.nesting (omega arith)) !▷ printed_text letters !▷ printed_shut tag.EndValue inside
  value_stops limits s frames count (Typed before form ending) gate v over = elim (cases_lt limits.nesting (length frames)) [
    | inl h ↦ gate.full_stop (lt-leb (length frames) limits.nesting h) !▷ before !▷ printed_form form !▷ printed_end tag.EndValue ending
    | inr h ↦
        gate.full (le-leb (length frames) limits.nesting h)
        ▷ white_opened limits [] frames (counted limits count) before v.0
        ▷! form_stops limits before frames count form v.1 h over
        !▷ printed_end tag.EndValue ending
  ]

  form_stops : (limits : Limits) (kept : List ℕ) (frames : List Frame) (count : ℕ) (form : FormText) → IsForm form → length frames ≤ limits.nesting → Overflows limits frames (nested (form_of form))
      → Stops limits (at (Opened kept) frames (counted limits count)) (printed_form form)
  form_stops limits kept frames count (Integer short mark digits inside) f l over = shallow limits frames l over
  form_stops limits kept frames count (Truth b inside) f l over = shallow limits frames l over
  form_stops limits kept frames count (Text letters inside) f l over = shallow limits frames l over
  form_stops limits kept frames count NoText f l over = shallow limits frames l over
  form_stops limits kept frames count (Other kind letters inside) f l over = shallow limits frames l over
  form_stops limits kept frames count (Struct members ending) f l over =
      let opened = counted limits count in
      let begin : Passes limits (at (Opened kept) frames opened) (spelling tag.Struct) (at (At (AtMembers no_member)) frames opened) = record { goes = λ rest. refl } in
      begin ▷! members_stop limits frames opened no_member members f.0 l (omega arith) !▷ printed_end tag.EndStruct ending
  form_stops limits kept frames count NoMembers f l over = shallow limits frames l over
  form_stops limits kept frames count (Array before items of_data of_array) f l over =
      let opened = counted limits count in
      let begin : Passes limits (at (Opened kept) frames opened) (spelling tag.Array) (at (At AtData) frames opened) = record { goes = λ rest. refl } in
      let data_begin : Passes limits (at (At AtData) frames opened) (spelling tag.Data) (at (At (AtItems no_tree)) frames opened) = record { goes = λ rest. refl } in
      begin ▷ white limits AtData frames opened before f.0 ▷ data_begin ▷! items_stop limits frames opened no_tree items f.1 l (omega arith)
      !▷ printed_end tag.EndData of_data !▷ printed_end tag.EndArray of_array
  form_stops limits kept frames count (NoData before of_array) f l over = shallow limits frames l over

  items_stop : (limits : Limits) (frames : List Frame) (count : ℕ) (before : Trees) (items : ItemsText) → AreItems items → length frames ≤ limits.nesting
      → suc limits.nesting < suc (length frames) + nested_values (items_of items) → Stops limits (at (At (AtItems before)) frames count) (printed_items items)
  items_stop limits frames count before NoItem v l over = absurd (omega arith)
  items_stop limits frames count before (Item gap value items) v l over = elim (cases_lt (suc limits.nesting) (suc (length frames) + nested (value_of value))) [
    | inl h ↦
        white limits (AtItems before) frames count gap v.0
        ▷! value_stops limits (at (At (AtItems before)) frames count) (InArray before ∷ frames) count value (gate_item limits before frames count) v.1 h
        !▷ printed_items items
    | inr h ↦
        let behind = count_behind limits (value_of value) count in
        white limits (AtItems before) frames count gap v.0
        ▷ value_pass limits (at (At (AtItems before)) frames count) (InArray before ∷ frames) count value (gate_item limits before frames count) v.1 h
        ▷! items_stop limits frames behind (kept limits behind before (held limits (value_of value) count)) items v.2 l (omega arith)
  ]

  members_stop : (limits : Limits) (frames : List Frame) (count : ℕ) (before : Members) (members : MembersText) → AreMembers members → length frames ≤ limits.nesting
      → suc limits.nesting < suc (length frames) + nested_members (members_of members) → Stops limits (at (At (AtMembers before)) frames count) (printed_members members)
  members_stop limits frames count before NoMember v l over = absurd (omega arith)
  members_stop limits frames count before (Member gap before_name name inside before_value value ending members) v l over =
      let named = text_of name in
      let begin : Passes limits (at (At (AtMembers before)) frames count) (spelling tag.Member) (at (At (AtName before)) frames count) = record { goes = λ rest. refl } in
      let name_begin : Passes limits (at (At (AtName before)) frames count) (spelling tag.Name) (in_text (InName before) [] frames count) = record { goes = λ rest. refl } in
      let name_close : Passes limits (in_text (InName before) named frames count) (spelling tag.EndName) (at (Close (AtTextEnd (InName before) named)) frames count) = record { goes = λ rest. refl } in
      let front = white limits (AtMembers before) frames count gap v.0 ▷ begin
      ▷ white limits (AtName before) frames count before_name v.1 ▷ name_begin
      ▷ text_pass limits (InName before) [] frames count name v.2
      ▷ shuts limits (in_text (InName before) named frames count) tag.EndName (AtTextEnd (InName before) named) frames count inside name_close v.3
      ▷ white limits AtValue (InMember before named ∷ frames) count before_value v.4 in
      elim (cases_lt (suc limits.nesting) (suc (length frames) + nested (value_of value))) [
        | inl h ↦
            front ▷! value_stops limits (at (At AtValue) (InMember before named ∷ frames) count) (InMember before named ∷ frames) count value (gate_value limits (InMember before named ∷ frames) count) v.5 h
            !▷ printed_end tag.EndMember ending !▷ printed_members members
        | inr h ↦
            let behind = count_behind limits (value_of value) count in
            let more = kept_member limits behind before named (held limits (value_of value) count) in
            let close : Passes limits (at (At (AtMemberEnd more)) frames behind) (spelling tag.EndMember) (at (Close (AtMemberEnd more)) frames behind) = record { goes = λ rest. refl } in
            front
            ▷ value_pass limits (at (At AtValue) (InMember before named ∷ frames) count) (InMember before named ∷ frames) count value (gate_value limits (InMember before named ∷ frames) count) v.5 h
            ▷ ends limits tag.EndMember (AtMemberEnd more) frames behind ending close v.6
            ▷! members_stop limits frames behind more members v.7 l (omega arith)
      ]
