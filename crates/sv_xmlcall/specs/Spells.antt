-- What a text spells: the layouts of XML-RPC texts, which of them are right, what each prints and
-- what it means.
use Rattle.std.specs.Prelude.{◌≡◌, ◌≢◌, ◌≤◌, ℕ, List, [], ◌∷◌, ◌++◌, Bool, true, false, codes, ⊤}
use Rattle.std.specs.Char.{encode_utf8}
use Rattle.std.specs.List.{list_all}
use Rattle.std.specs.Str.Parse.{IsNumeral, digits_value}
use Rattle.sv_letters.specs.Letters.{is_allowed}
use Rattle.sv_xmlcall.specs.Tags.{spelling}
use Rattle.sv_xmlcall.specs.Trees.{Tree, Trees, Members, integer, truth, text, other, structure}
use Rattle.sv_xmlcall.specs.Trees.{array, no_tree, tree, no_member, member}
use Rattle.sv_xmlcall.specs.Spelled.{is_white, signed}
use Rattle.sv_xmlcall.specs.Machine.{base_of, most_of}
use Rattle.sv_xmlcall.specs.declared.tag.Tag.{Tag}
use Rattle.sv_xmlcall.specs.declared.tag.Tag.TheVariants as tag

-- all the bytes are white space
abbrev pub IsWhite : List ℕ → Type 0
IsWhite bytes = list_all is_white bytes ≡ true

-- an entity by its name
pub data Entity : Type 0 where
  Ampersand : Entity
  Less : Entity
  Greater : Entity
  Quote : Entity
  Apostrophe : Entity

-- the character that an entity stands for
abbrev pub entity_character : Entity → ℕ
entity_character Ampersand = 38
entity_character Less = 60
entity_character Greater = 62
entity_character Quote = 34
entity_character Apostrophe = 39

-- the bytes of an entity
abbrev pub printed_entity : Entity → List ℕ
printed_entity Ampersand = codes "&amp;"
printed_entity Less = codes "&lt;"
printed_entity Greater = codes "&gt;"
printed_entity Quote = codes "&quot;"
printed_entity Apostrophe = codes "&apos;"

-- a character of a text: as it stands, by a name, or by its number
pub data Letter : Type 0 where
  Plain : (character : ℕ) → Letter
  Named : Entity → Letter
  Numbered : (hexadecimal : Bool) (digits : List ℕ) → Letter

-- the character that is meant
abbrev pub character_of : Letter → ℕ
character_of (Plain c) = c
character_of (Named entity) = entity_character entity
character_of (Numbered hexadecimal digits) = digits_value (base_of hexadecimal) digits

-- the beginning of a character reference (XML 1.0, production 66)
abbrev pub number_sign : Bool → List ℕ
number_sign true = codes "&#x"
number_sign false = codes "&#"

-- the bytes of a character of a text
abbrev pub printed_letter : Letter → List ℕ
printed_letter (Plain c) = encode_utf8 c
printed_letter (Named entity) = printed_entity entity
printed_letter (Numbered hexadecimal digits) = number_sign hexadecimal ++ digits ++ codes ";"

-- XML allows the character, and a bare `&` or `<` is none
abbrev pub IsLetter : Letter → Type 0
IsLetter (Plain c) = (is_allowed c ≡ true) × (c ≢ 38) × (c ≢ 60)
IsLetter (Named entity) = ⊤
IsLetter (Numbered hexadecimal digits) =
    IsNumeral (base_of hexadecimal) digits
    × (is_allowed (digits_value (base_of hexadecimal) digits) ≡ true)

-- all the characters of a text are right
abbrev pub AreLetters : List Letter → Type 0
AreLetters [] = ⊤
AreLetters (letter ∷ letters) = IsLetter letter × AreLetters letters

-- the bytes of a text
abbrev pub printed_text : List Letter → List ℕ
printed_text [] = []
printed_text (letter ∷ letters) = printed_letter letter ++ printed_text letters

-- the text that is meant, in UTF-8 without entities
abbrev pub text_of : List Letter → List ℕ
text_of [] = []
text_of (letter ∷ letters) = encode_utf8 (character_of letter) ++ text_of letters

-- the white space before a closing tag, and before its `>`
pub record Ending : Type 0 where
  pub before : List ℕ
  pub inside : List ℕ

-- only white space stands there
abbrev pub IsEnding : Ending → Type 0
IsEnding ending = IsWhite ending.before × IsWhite ending.inside

-- a closing tag right after a text
abbrev pub printed_shut : Tag → List ℕ → List ℕ
printed_shut t inside = spelling t ++ inside ++ codes ">"

-- a closing tag after white space
abbrev pub printed_end : Tag → Ending → List ℕ
printed_end t ending = ending.before ++ printed_shut t ending.inside

-- the sign of an integer, which may be left out
pub data Mark : Type 0 where
  NoMark : Mark
  Plus : Mark
  Minus : Mark

-- the bytes of the sign
abbrev pub printed_mark : Mark → List ℕ
printed_mark NoMark = []
printed_mark Plus = codes "+"
printed_mark Minus = codes "-"

-- the sign is a minus
abbrev pub is_minus : Mark → Bool
is_minus Minus = true
is_minus mark = false

-- `<i4>` or `<int>`
abbrev pub integer_tag : Bool → Tag
integer_tag true = tag.I4
integer_tag false = tag.Int

-- `</i4>` or `</int>`
abbrev pub integer_end : Bool → Tag
integer_end true = tag.EndI4
integer_end false = tag.EndInt

-- a boolean is `1` or `0`
abbrev pub truth_digit : Bool → List ℕ
truth_digit true = codes "1"
truth_digit false = codes "0"

-- the forms whose text is kept as it stands
pub data Kind : Type 0 where
  Double : Kind
  Date : Kind
  Base : Kind

-- the names of these forms
abbrev pub kind_name : Kind → List ℕ
kind_name Double = codes "double"
kind_name Date = codes "dateTime.iso8601"
kind_name Base = codes "base64"

-- the opening tags of these forms
abbrev pub kind_tag : Kind → Tag
kind_tag Double = tag.Double
kind_tag Date = tag.DateTime
kind_tag Base = tag.Base64

-- the closing tags of these forms
abbrev pub kind_end : Kind → Tag
kind_end Double = tag.EndDouble
kind_end Date = tag.EndDateTime
kind_end Base = tag.EndBase64

-- A value is `<value/>`, bare text, or a form between white space. `inside` is the white space
-- before the `>` of the closing tag, and what is called `before` is that before an opening tag.
mutual
  -- a value
  pub data ValueText : Type 0 where
    Empty : ValueText
    Bare : (letters : List Letter) (inside : List ℕ) → ValueText
    Typed : (before : List ℕ) → FormText → Ending → ValueText

  -- an integer, a boolean, a string, a form whose text is kept, a struct, or an array
  pub data FormText : Type 0 where
    Integer : (short : Bool) → Mark → (digits inside : List ℕ) → FormText
    Truth : Bool → (inside : List ℕ) → FormText
    Text : (letters : List Letter) (inside : List ℕ) → FormText
    NoText : FormText
    Other : Kind → (letters : List Letter) (inside : List ℕ) → FormText
    Struct : MembersText → Ending → FormText
    NoMembers : FormText
    Array : (before : List ℕ) → ItemsText → (of_data of_array : Ending) → FormText
    NoData : (before : List ℕ) → (of_array : Ending) → FormText

  -- the values of an array
  pub data ItemsText : Type 0 where
    NoItem : ItemsText
    Item : (before : List ℕ) → ValueText → ItemsText → ItemsText

  -- the members of a struct
  pub data MembersText : Type 0 where
    NoMember : MembersText
    Member : (before before_name : List ℕ) (name : List Letter) (inside before_value : List ℕ)
        → ValueText → Ending → MembersText → MembersText

abbrev mutual
  -- the bytes of a value
  pub printed_value : ValueText → List ℕ
  printed_value Empty = spelling tag.NoValue
  printed_value (Bare letters inside) =
      spelling tag.Value ++ printed_text letters ++ printed_shut tag.EndValue inside
  printed_value (Typed before form ending) =
      spelling tag.Value ++ before ++ printed_form form ++ printed_end tag.EndValue ending

  -- the bytes of a form
  pub printed_form : FormText → List ℕ
  printed_form (Integer short mark digits inside) =
      spelling (integer_tag short) ++ printed_mark mark ++ digits
      ++ printed_shut (integer_end short) inside
  printed_form (Truth b inside) =
      spelling tag.Boolean ++ truth_digit b ++ printed_shut tag.EndBoolean inside
  printed_form (Text letters inside) =
      spelling tag.String ++ printed_text letters ++ printed_shut tag.EndString inside
  printed_form NoText = spelling tag.NoString
  printed_form (Other kind letters inside) =
      spelling (kind_tag kind) ++ printed_text letters ++ printed_shut (kind_end kind) inside
  printed_form (Struct members ending) =
      spelling tag.Struct ++ printed_members members ++ printed_end tag.EndStruct ending
  printed_form NoMembers = spelling tag.NoMembers
  printed_form (Array before items of_data of_array) =
      spelling tag.Array ++ before ++ spelling tag.Data ++ printed_items items
      ++ printed_end tag.EndData of_data ++ printed_end tag.EndArray of_array
  printed_form (NoData before of_array) =
      spelling tag.Array ++ before ++ spelling tag.NoData ++ printed_end tag.EndArray of_array

  -- the bytes of the values of an array
  pub printed_items : ItemsText → List ℕ
  printed_items NoItem = []
  printed_items (Item before value items) = before ++ printed_value value ++ printed_items items

  -- the bytes of the members of a struct
  pub printed_members : MembersText → List ℕ
  printed_members NoMember = []
  printed_members (Member before before_name name inside before_value value ending members) =
      before ++ spelling tag.Member ++ before_name ++ spelling tag.Name ++ printed_text name
      ++ printed_shut tag.EndName inside
      ++ before_value ++ printed_value value ++ printed_end tag.EndMember ending
      ++ printed_members members

abbrev mutual
  -- the value that is meant
  pub value_of : ValueText → Tree
  value_of Empty = text []
  value_of (Bare letters inside) = text (text_of letters)
  value_of (Typed before form ending) = form_of form

  -- the value that a form means
  pub form_of : FormText → Tree
  form_of (Integer short mark digits inside) =
      integer (signed (is_minus mark) (digits_value 10 digits))
  form_of (Truth b inside) = truth b
  form_of (Text letters inside) = text (text_of letters)
  form_of NoText = text []
  form_of (Other kind letters inside) = other (kind_name kind) (text_of letters)
  form_of (Struct members ending) = structure (members_of members)
  form_of NoMembers = structure no_member
  form_of (Array before items of_data of_array) = array (items_of items)
  form_of (NoData before of_array) = array no_tree

  -- the values of an array that are meant
  pub items_of : ItemsText → Trees
  items_of NoItem = no_tree
  items_of (Item before value items) = tree (value_of value) (items_of items)

  -- the members of a struct that are meant
  pub members_of : MembersText → Members
  members_of NoMember = no_member
  members_of (Member before before_name name inside before_value value ending members) =
      member (text_of name) (value_of value) (members_of members)

abbrev mutual
  -- a value is right
  pub IsValue : ValueText → Type 0
  IsValue Empty = ⊤
  IsValue (Bare letters inside) = AreLetters letters × IsWhite inside
  IsValue (Typed before form ending) = IsWhite before × IsForm form × IsEnding ending

  -- an integer has 64 bits
  pub IsForm : FormText → Type 0
  IsForm (Integer short mark digits inside) =
      IsNumeral 10 digits × (digits_value 10 digits ≤ most_of (is_minus mark)) × IsWhite inside
  IsForm (Truth b inside) = IsWhite inside
  IsForm (Text letters inside) = AreLetters letters × IsWhite inside
  IsForm NoText = ⊤
  IsForm (Other kind letters inside) = AreLetters letters × IsWhite inside
  IsForm (Struct members ending) = AreMembers members × IsEnding ending
  IsForm NoMembers = ⊤
  IsForm (Array before items of_data of_array) =
      IsWhite before × AreItems items × IsEnding of_data × IsEnding of_array
  IsForm (NoData before of_array) = IsWhite before × IsEnding of_array

  -- the values of an array are right
  pub AreItems : ItemsText → Type 0
  AreItems NoItem = ⊤
  AreItems (Item before value items) = IsWhite before × IsValue value × AreItems items

  -- the members of a struct are right
  pub AreMembers : MembersText → Type 0
  AreMembers NoMember = ⊤
  AreMembers (Member before before_name name inside before_value value ending members) =
      IsWhite before × IsWhite before_name × AreLetters name × IsWhite inside × IsWhite before_value
      × IsValue value × IsEnding ending × AreMembers members
