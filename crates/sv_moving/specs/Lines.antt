-- The lines of a text, and what each of them is, in Supervisor's reading.
use Rattle.std.specs.Prelude.{◌==◌, ◌+◌, ◌-◌, ℕ, List, [], ◌∷◌, ◌++◌, Bool, true, false, ◌&&◌, ◌||◌}
use Rattle.std.specs.Prelude.{not, Option, Some, None, length, take, drop, nat_lt}
use Rattle.std.specs.Prelude.{if◌then◌else◌}
use Rattle.std.specs.List.{position, slice_split, suffix_len}
use Rattle.std.specs.Option.{is_some, option_map}
use Rattle.sv_base.specs.Ascii.{carriage_return, colon, equals_sign, left_bracket, line_feed}
use Rattle.sv_base.specs.Ascii.{right_bracket}
use Rattle.sv_moving.specs.Comments.{comment_in, content_of}
use Rattle.sv_moving.specs.Spaces.{indent_of, trimmed}

-- what ends a line
abbrev pub is_feed : ℕ → Bool
is_feed c = c == line_feed

-- what a character becomes, where a CR stands before it or not: a CR ends a line, and so does a line feed,
-- which belongs to a CR before it
abbrev pub fed_one : Bool → ℕ → List ℕ
fed_one behind c =
    if c == carriage_return then line_feed ∷ []
    else if behind && is_feed c then []
    else c ∷ []

-- a text with a line feed at each end of a line
abbrev pub fed : Bool → List ℕ → List ℕ
fed behind [] = []
fed behind (c ∷ cs) = fed_one behind c ++ fed (c == carriage_return) cs

-- the lines of a text. What stands after the last end is one too; it is a blank line where nothing
-- stands there, and a blank line at the end of a text changes nothing
abbrev pub lines_of : List ℕ → List (List ℕ)
lines_of text = slice_split is_feed (fed false text)

-- what parts a key from its value
abbrev pub is_separator : ℕ → Bool
is_separator c = (c == equals_sign) || (c == colon)

-- a character that is no closing bracket
abbrev pub is_inside : ℕ → Bool
is_inside c = not (c == right_bracket)

-- whether there is a first character, and it opens a bracket
abbrev pub opens_bracket : List ℕ → Bool
opens_bracket [] = false
opens_bracket (c ∷ cs) = c == left_bracket

-- no characters at all
abbrev pub is_empty : List ℕ → Bool
is_empty [] = true
is_empty (c ∷ cs) = false

-- how many characters stand before the last closing bracket; none where there is none
abbrev pub name_size : List ℕ → ℕ
name_size inside = length inside - suffix_len is_inside inside - 1

-- the name between an opening bracket and the last closing one, where it isn't empty; what follows
-- is dropped
abbrev pub name_in : List ℕ → Option (List ℕ)
name_in inside = if nat_lt 0 (name_size inside) then Some (take (name_size inside) inside) else None

-- the name of the section that a line opens
abbrev pub section_name : List ℕ → Option (List ℕ)
section_name content = if opens_bracket content then name_in (drop 1 content) else None

-- what stands before the first such character, and what after it
abbrev pub cut_at : (ℕ → Bool) → List ℕ → Option (List ℕ × List ℕ)
cut_at p cs = option_map (λ at. (take at cs, drop (at + 1) cs)) (position p cs)

-- what a line is: blank, a comment, a further line of a value, a section, a key with its value, a value
-- without a key, or none of these
pub data LineKind : Type 0 where
  Blank : LineKind
  Comment : LineKind
  Further : (text : List ℕ) → LineKind
  Opens : (section : List ℕ) → LineKind
  Sets : (key : List ℕ) (value : List ℕ) → LineKind
  Keyless : LineKind
  Faulty : LineKind

-- a key and its value
abbrev pub key_and_value : Option (List ℕ × List ℕ) → LineKind
key_and_value None = Faulty
key_and_value (Some parts) =
    if is_empty (trimmed parts.0) then Keyless else Sets (trimmed parts.0) (trimmed parts.1)

-- a section where the line has its name, and else a key with its value
abbrev pub opens_or_sets : Option (List ℕ) → List ℕ → LineKind
opens_or_sets (Some name) content = Opens name
opens_or_sets None content = key_and_value (cut_at is_separator content)

-- a line with this content, behind which a comment stands or not: the first that fits. A value goes on
-- where a key is in hand and the line is indented deeper than the key's line
abbrev pub kind_with : Bool → Bool → List ℕ → LineKind
kind_with commented deeper content =
    if is_empty content then (if commented then Comment else Blank)
    else if deeper then Further content
    else opens_or_sets (section_name content) content

-- what a line is, where a key is in hand or not, and this is the depth
abbrev pub kind_of : Bool → ℕ → List ℕ → LineKind
kind_of going depth line =
    kind_with (is_some (comment_in line)) (going && nat_lt depth (indent_of line)) (content_of line)
