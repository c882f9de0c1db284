-- The parts of a text with expansions. A text has one cut into such parts, and its expansion is
-- their joined values.
use Rattle.std.specs.Prelude.{◌≡◌, ◌≢◌, ◌==◌, ◌-◌, ℕ, List, [], ◌∷◌, ◌++◌, length, Bool, true}
use Rattle.std.specs.Prelude.{false, Option, Some, None, encode_utf8, encode_utf8_all}
use Rattle.std.specs.Prelude.{if◌then◌else◌, ⊤}
use Rattle.std.specs.Str.{chars}
use Rattle.sv_base.specs.Ascii.{digit_zero, left_parenthesis, letter_d, letter_s, percent_sign}
use Rattle.sv_base.specs.Ascii.{right_parenthesis, space}
use Rattle.sv_expand.specs.declared.fault.ExpandFault.{ExpandFault}
use Rattle.sv_expand.specs.declared.fault.ExpandFault.TheVariants.{Unknown, BadForm, OutOfMemory}
use Rattle.sv_expand.specs.declared.names.Names.{Names}
use Rattle.sv_expand.specs.Expansion.{text_told, number_told, is_width}

-- a character, a percent sign, or a form with the name that stands in it
pub data Part : Type 0 where
  Plain : (c : ℕ) → Part
  Percent : Part
  Value : (name : List ℕ) → Part
  Number : (name : List ℕ) → Part
  Spaced : (name : List ℕ) (digit : ℕ) → Part
  Zeroed : (name : List ℕ) (digit : ℕ) → Part

-- how a part is written: itself, `%%`, `%(NAME)s`, `%(NAME)d`, `%(NAME)Nd`, `%(NAME)0Nd`
abbrev pub written : Part → List ℕ
written (Plain c) = c ∷ []
written Percent = percent_sign ∷ percent_sign ∷ []
written (Value name) = percent_sign ∷ left_parenthesis ∷ (name ++ right_parenthesis ∷ letter_s ∷ [])
written (Number name) =
    percent_sign ∷ left_parenthesis ∷ (name ++ right_parenthesis ∷ letter_d ∷ [])
written (Spaced name digit) =
    percent_sign ∷ left_parenthesis ∷ (name ++ right_parenthesis ∷ digit ∷ letter_d ∷ [])
written (Zeroed name digit) =
    percent_sign ∷ left_parenthesis
    ∷ (name ++ right_parenthesis ∷ digit_zero ∷ digit ∷ letter_d ∷ [])

-- how parts are written: one after another
abbrev pub written_all : List Part → List ℕ
written_all [] = []
written_all (part ∷ parts) = written part ++ written_all parts

-- a name is any text without a closing bracket
abbrev pub is_name : List ℕ → Bool
is_name [] = true
is_name (c ∷ cs) = if c == right_parenthesis then false else is_name cs

-- a plain part is no percent sign; the places of a number are from 1 to 9
abbrev pub IsPart : Part → Type 0
IsPart (Plain c) = (c == percent_sign) ≡ false
IsPart Percent = ⊤
IsPart (Value name) = is_name name ≡ true
IsPart (Number name) = is_name name ≡ true
IsPart (Spaced name digit) = (is_name name ≡ true) × (is_width digit ≡ true)
IsPart (Zeroed name digit) = (is_name name ≡ true) × (is_width digit ≡ true)

-- the same of each of them
abbrev pub AreParts : List Part → Type 0
AreParts [] = ⊤
AreParts (part ∷ parts) = IsPart part × AreParts parts

-- the value of a part, where its name has one
abbrev pub value : Names → Part → Option (List ℕ)
value names (Plain c) = Some (encode_utf8 c)
value names Percent = Some (encode_utf8 37)
value names (Value name) = text_told names (encode_utf8_all name)
value names (Number name) = number_told names space 0 (encode_utf8_all name)
value names (Spaced name digit) = number_told names space (digit - 48) (encode_utf8_all name)
value names (Zeroed name digit) = number_told names digit_zero (digit - 48) (encode_utf8_all name)

-- one value after another, where both are there
abbrev pub joined : Option (List ℕ) → Option (List ℕ) → Option (List ℕ)
joined (Some front) (Some back) = Some (front ++ back)
joined front back = None

-- the joined values of the parts, where each has one
abbrev pub values : Names → List Part → Option (List ℕ)
values names [] = Some []
values names (part ∷ parts) = joined (value names part) (values names parts)

-- a text expands to the joined values of its parts, where it has a cut into parts that have values
pub record Expands (names : Names) (text whole : List ℕ) : Type 0 where
  pub parts : List Part
  pub cut : chars text ≡ written_all parts
  pub are : AreParts parts
  pub told : values names parts ≡ Some whole

-- no part begins with the characters that are left
pub record BeginsNone (rest : List ℕ) : Type 0 where
  pub some : rest ≢ []
  pub none : (part : Part) (more : List ℕ) → IsPart part → rest ≡ written part ++ more → ⊥

-- the name in a form
abbrev pub name_in : Part → List ℕ
name_in (Plain c) = []
name_in Percent = []
name_in (Value name) = encode_utf8_all name
name_in (Number name) = encode_utf8_all name
name_in (Spaced name digit) = encode_utf8_all name
name_in (Zeroed name digit) = encode_utf8_all name

-- a fault stands at a place: a form whose name has no value, or a percent sign that begins no form
abbrev pub StandsAt : Names → ℕ → List ℕ → ExpandFault → Type 0
StandsAt names place rest (Unknown name) =
    (part : Part) × (more : List ℕ) × (rest ≡ written part ++ more) × IsPart part
    × (value names part ≡ None) × (name ≡ name_in part)
StandsAt names place rest (BadForm at) = (at ≡ place) × BeginsNone rest
StandsAt names place rest OutOfMemory = ⊥

-- the leftmost fault of a text: what stands before it is cut into parts that each have a value
pub record HasFault (names : Names) (text : List ℕ) (fault : ExpandFault) : Type 0 where
  pub front : List Part
  pub rest : List ℕ
  pub cut : chars text ≡ written_all front ++ rest
  pub are : AreParts front
  pub whole : List ℕ
  pub told : values names front ≡ Some whole
  pub stands : StandsAt names (length (encode_utf8_all (written_all front))) rest fault

-- a fault is the leftmost one of the text; running out of memory is always allowed
abbrev pub IsLeftmost : Names → List ℕ → ExpandFault → Type 0
IsLeftmost names text OutOfMemory = ⊤
IsLeftmost names text fault = HasFault names text fault
