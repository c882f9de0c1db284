-- How a value is read with an explicit stack: what is read at a stage, and how the stack turns.
use Rattle.std.specs.Prelude.{ℕ, List, [], ◌∷◌, Bool, true, false, ◌==◌, if◌then◌else◌, Result, Ok}
use Rattle.std.specs.Prelude.{codes}
use Rattle.sv_base.specs.Ascii.{less_sign}
use Rattle.sv_xmlcall.specs.Trees.{Tree, Trees, Members, integer, truth, text, other, structure}
use Rattle.sv_xmlcall.specs.Trees.{array, no_tree, no_member, view, trees_view, members_view}
use Rattle.sv_xmlcall.specs.Atoms.{skip_white, tag_behind, close_at, closing_at}
use Rattle.sv_xmlcall.specs.Tags.{tag_at}
use Rattle.sv_xmlcall.specs.Reading.{◌>>=◌, text_at, shut_at, content_at, integer_at, truth_at}
use Rattle.sv_xmlcall.specs.Spelled.{is_white}
use Rattle.sv_xmlcall.specs.Machine.{Frame, InArray, InMember}
use Rattle.sv_xmlcall.specs.declared.tag.Tag.{Tag}
use Rattle.sv_xmlcall.specs.declared.tag.Tag.TheVariants as tag
use Rattle.sv_xmlcall.specs.declared.nested.Held.{Held}
use Rattle.sv_xmlcall.specs.declared.nested.Held.TheVariants as held
use Rattle.sv_xmlcall.specs.declared.nested.Stage.{Stage}
use Rattle.sv_xmlcall.specs.declared.nested.Stage.TheVariants as code_stage
use Rattle.sv_xmlcall.specs.declared.nested.Turn.{Turn}
use Rattle.sv_xmlcall.specs.declared.nested.Turn.TheVariants as code_turn

-- before a value, after its `<value>`, after its form, before the data of an array, before a
-- further value of an array, before a further member of a struct, after the value of a member
pub data Standing : Type 0 where
  Before : Standing
  Opened : Standing
  Formed : Tree → Standing
  Data : Standing
  Items : Trees → Standing
  Further : Members → Standing
  Ended : Members → Standing

-- what was read: a stage of the same value, the opening of a value that is empty or not, also as a
-- further one of an array, the name of a member, a whole value
pub data Turning : Type 0 where
  On : Standing → Turning
  Opening : (empty : Bool) → Turning
  Item : Trees → (empty : Bool) → Turning
  Named : Members → List ℕ → Turning
  Whole : Tree → Turning

-- the stage of the code, its values as trees
abbrev pub stage_view : Stage → Standing
stage_view code_stage.Before = Before
stage_view code_stage.Opened = Opened
stage_view (code_stage.Formed value) = Formed (view value)
stage_view code_stage.Data = Data
stage_view (code_stage.Items items) = Items (trees_view items.items)
stage_view (code_stage.Further members) = Further (members_view members.items)
stage_view (code_stage.Ended members) = Ended (members_view members.items)

-- the turn of the code, its values as trees
abbrev pub turn_view : Turn → Turning
turn_view (code_turn.On stage) = On (stage_view stage)
turn_view (code_turn.Opening empty) = Opening empty
turn_view (code_turn.Item items empty) = Item (trees_view items.items) empty
turn_view (code_turn.Named members name) = Named (members_view members.items) name
turn_view (code_turn.Whole value) = Whole (view value)

-- what the code holds on its stack of an array or a struct that is open, as a frame
abbrev pub held_view : Held → Frame
held_view (held.Item items) = InArray (trees_view items.items)
held_view (held.Member members name) = InMember (members_view members.items) name

-- the frames of a stack, whose top is its last element
abbrev pub frames_on : List Frame → List Held → List Frame
frames_on below [] = below
frames_on below (h ∷ hs) = frames_on (held_view h ∷ below) hs

-- `<value/>` is empty, `<value>` is not
abbrev pub is_empty_tag : Tag → Bool
is_empty_tag tag.Value = false
is_empty_tag t = true

-- what is read before a value
abbrev pub before_at : List ℕ → Result (Turning × List ℕ) ℕ
before_at bs = do
  r ← tag_behind (tag.Value ∷ tag.NoValue ∷ []) bs
  Ok (Opening (is_empty_tag r.0), r.1)

-- the white space at the front
abbrev pub white_of : List ℕ → List ℕ
white_of [] = []
white_of (b ∷ bs) = if is_white b then b ∷ white_of bs else []

-- a bare text that begins with this white space, and `</value>`
abbrev pub bare_at : List ℕ → List ℕ → Result (Turning × List ℕ) ℕ
bare_at white bs = do
  r ← text_at white bs
  rest ← shut_at tag.EndValue r.1
  Ok (Whole (text r.0), rest)

-- a double, a date or base64 and its closing tag; the text is kept as it stands
abbrev pub other_at : List ℕ → Tag → List ℕ → Result (Turning × List ℕ) ℕ
other_at form t bs = do
  r ← content_at t bs
  Ok (On (Formed (other form r.0)), r.1)

-- an integer and its closing tag
abbrev pub number_at : Tag → List ℕ → Result (Turning × List ℕ) ℕ
number_at t bs = do
  r ← integer_at t bs
  Ok (On (Formed (integer r.0)), r.1)

-- a boolean and its closing tag
abbrev pub boolean_at : List ℕ → Result (Turning × List ℕ) ℕ
boolean_at bs = truth_at bs >>= (λ r. Ok (On (Formed (truth r.0)), r.1))

-- a string and its closing tag
abbrev pub string_at : List ℕ → Result (Turning × List ℕ) ℕ
string_at bs = content_at tag.EndString bs >>= (λ r. Ok (On (Formed (text r.0)), r.1))

-- the end of the closing tag of a value whose text is this white space
abbrev pub only_white_at : List ℕ → List ℕ → Result (Turning × List ℕ) ℕ
only_white_at white bs = close_at bs >>= (λ rest. Ok (Whole (text white), rest))

-- the tags that may stand after `<value>`
abbrev pub forms : List Tag
forms =
    tag.I4 ∷ tag.Int ∷ tag.Boolean ∷ tag.String ∷ tag.NoString ∷ tag.Double ∷ tag.DateTime
    ∷ tag.Base64
    ∷ tag.Struct ∷ tag.NoMembers ∷ tag.Array ∷ tag.EndValue ∷ []

-- what is read after this tag, before which this white space stands
abbrev pub form_of : List ℕ → Tag → List ℕ → Result (Turning × List ℕ) ℕ
form_of white tag.I4 bs = number_at tag.EndI4 bs
form_of white tag.Int bs = number_at tag.EndInt bs
form_of white tag.Boolean bs = boolean_at bs
form_of white tag.String bs = string_at bs
form_of white tag.NoString bs = Ok (On (Formed (text [])), bs)
form_of white tag.Double bs = other_at (codes "double") tag.EndDouble bs
form_of white tag.DateTime bs = other_at (codes "dateTime.iso8601") tag.EndDateTime bs
form_of white tag.Base64 bs = other_at (codes "base64") tag.EndBase64 bs
form_of white tag.Struct bs = Ok (On (Further no_member), bs)
form_of white tag.NoMembers bs = Ok (On (Formed (structure no_member)), bs)
form_of white tag.Array bs = Ok (On Data, bs)
form_of white t bs = only_white_at white bs

-- a form, or the closing tag after this white space
abbrev pub typed_at : List ℕ → List ℕ → Result (Turning × List ℕ) ℕ
typed_at white bs = do
  r ← tag_at forms bs
  form_of white r.0 r.1

-- a tag stands here
abbrev pub begins_tag : List ℕ → Bool
begins_tag [] = false
begins_tag (b ∷ bs) = b == less_sign

-- what is read after `<value>` and this white space
abbrev pub behind_white : List ℕ → List ℕ → Result (Turning × List ℕ) ℕ
behind_white white bs = if begins_tag bs then typed_at white bs else bare_at white bs

-- what is read after `<value>`
unfoldable pub opened_at : List ℕ → Result (Turning × List ℕ) ℕ
opened_at bs = behind_white (white_of bs) (skip_white bs)

-- the `</value>` after a form
abbrev pub formed_at : Tree → List ℕ → Result (Turning × List ℕ) ℕ
formed_at value bs = closing_at (tag.EndValue ∷ []) bs >>= (λ rest. Ok (Whole value, rest))

-- the `</array>` after the data
abbrev pub array_end_at : Trees → List ℕ → Result (Turning × List ℕ) ℕ
array_end_at items bs =
    closing_at (tag.EndArray ∷ []) bs >>= (λ rest. Ok (On (Formed (array items)), rest))

-- what is read after this tag, which opens the data of an array or is `<data/>`
abbrev pub data_of : Tag → List ℕ → Result (Turning × List ℕ) ℕ
data_of tag.Data bs = Ok (On (Items no_tree), bs)
data_of t bs = array_end_at no_tree bs

-- what is read after `<array>`
abbrev pub data_at : List ℕ → Result (Turning × List ℕ) ℕ
data_at bs = do
  r ← tag_behind (tag.Data ∷ tag.NoData ∷ []) bs
  data_of r.0 r.1

-- what is read after this tag, which opens a further value of an array or closes its data
abbrev pub item_of : Trees → Tag → List ℕ → Result (Turning × List ℕ) ℕ
item_of items tag.Value bs = Ok (Item items false, bs)
item_of items tag.NoValue bs = Ok (Item items true, bs)
item_of items t bs = close_at bs >>= (λ rest. array_end_at items rest)

-- what is read in the data of an array after these values
abbrev pub items_at : Trees → List ℕ → Result (Turning × List ℕ) ℕ
items_at items bs = do
  r ← tag_behind (tag.Value ∷ tag.NoValue ∷ tag.EndData ∷ []) bs
  item_of items r.0 r.1

-- what is read after this tag, which opens a further member of a struct or closes the struct
abbrev pub member_of : Members → Tag → List ℕ → Result (Turning × List ℕ) ℕ
member_of members tag.Member bs = do
  r ← tag_behind (tag.Name ∷ []) bs
  name ← content_at tag.EndName r.1
  Ok (Named members name.0, name.1)
member_of members t bs = close_at bs >>= (λ rest. Ok (On (Formed (structure members)), rest))

-- what is read in a struct after these members
abbrev pub members_at : Members → List ℕ → Result (Turning × List ℕ) ℕ
members_at members bs = do
  r ← tag_behind (tag.Member ∷ tag.EndStruct ∷ []) bs
  member_of members r.0 r.1

-- the `</member>` after the value of a member
abbrev pub ended_at : Members → List ℕ → Result (Turning × List ℕ) ℕ
ended_at members bs =
    closing_at (tag.EndMember ∷ []) bs >>= (λ rest. Ok (On (Further members), rest))

-- what is read at a stage
abbrev pub stage_at : Standing → List ℕ → Result (Turning × List ℕ) ℕ
stage_at Before bs = before_at bs
stage_at Opened bs = opened_at bs
stage_at (Formed value) bs = formed_at value bs
stage_at Data bs = data_at bs
stage_at (Items items) bs = items_at items bs
stage_at (Further members) bs = members_at members bs
stage_at (Ended members) bs = ended_at members bs
