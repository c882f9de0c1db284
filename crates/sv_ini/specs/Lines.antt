-- The lines of a configuration text, and what each of them is (the manual's chapter on the
-- configuration file).
use Rattle.std.specs.Prelude.{◌==◌, ◌+◌, ◌-◌, ℕ, suc, List, [], ◌∷◌, Bool, true, false, ◌&&◌, ◌||◌}
use Rattle.std.specs.Prelude.{not, Option, Some, None, length, take, drop, slice_index}
use Rattle.std.specs.Prelude.{if◌then◌else◌}
use Rattle.std.specs.List.{position, prefix_len, suffix_len, slice_split}
use Rattle.std.specs.Option.{option_map}
use Rattle.std.specs.Str.{str_to_ascii_lowercase}
use Rattle.sv_base.specs.Ascii.{carriage_return, colon, equals_sign, left_bracket, line_feed}
use Rattle.sv_base.specs.Ascii.{number_sign, right_bracket, semicolon, space, tab}

-- a space or a tab
abbrev pub is_blank : ℕ → Bool
is_blank b = (b == space) || (b == tab)

-- what ends a line
abbrev pub is_feed : ℕ → Bool
is_feed b = b == line_feed

-- `[`, with which the line of a section begins
abbrev pub is_opening : ℕ → Bool
is_opening b = b == left_bracket

-- `]`, which ends a section's name
abbrev pub is_bracket : ℕ → Bool
is_bracket b = b == right_bracket

-- what parts a key from its value
abbrev pub is_separator : ℕ → Bool
is_separator b = (b == equals_sign) || (b == colon)

-- what begins a comment after a value
abbrev pub is_semicolon : ℕ → Bool
is_semicolon b = b == semicolon

-- a comment line begins with one of these
abbrev pub is_comment_mark : ℕ → Bool
is_comment_mark b = (b == semicolon) || (b == number_sign)

-- no bytes at all
abbrev pub is_empty : List ℕ → Bool
is_empty [] = true
is_empty (b ∷ bs) = false

-- whether there is a first byte, and it passes
abbrev pub begins_with : (ℕ → Bool) → List ℕ → Bool
begins_with p [] = false
begins_with p (b ∷ bs) = p b

-- without the spaces and tabs before
abbrev pub without_indent : List ℕ → List ℕ
without_indent bs = drop (prefix_len is_blank bs) bs

-- without the spaces and tabs after
abbrev pub without_tail : List ℕ → List ℕ
without_tail bs = take (length bs - suffix_len is_blank bs) bs

-- without the spaces and tabs round it
abbrev pub trimmed : List ℕ → List ℕ
trimmed bs = without_tail (without_indent bs)

-- what stands before the first such byte, and what after it
abbrev pub cut_at : (ℕ → Bool) → List ℕ → Option (List ℕ × List ℕ)
cut_at p bs = option_map (λ at. (take at bs, drop (at + 1) bs)) (position p bs)

-- a CR before a line feed belongs to the line's end
abbrev pub without_return : List ℕ → List ℕ
without_return bs =
    if slice_index bs (length bs - 1) == carriage_return then take (length bs - 1) bs else bs

-- the lines without the CR that belongs to their ends; after the last one stands no line feed
abbrev pub whole_lines : List (List ℕ) → List (List ℕ)
whole_lines [] = []
whole_lines (last ∷ []) = last ∷ []
whole_lines (line ∷ next ∷ lines) = without_return line ∷ whole_lines (next ∷ lines)

-- the lines of a text; what stands after the last line feed is one too, a blank one where nothing
-- stands there
abbrev pub lines_of : List ℕ → List (List ℕ)
lines_of bs = whole_lines (slice_split is_feed bs)

-- in a value a comment begins with a space or tab and a semicolon
abbrev pub comment_at : List ℕ → ℕ
comment_at [] = 0
comment_at (b ∷ bs) = if is_blank b && begins_with is_semicolon bs then 0 else suc (comment_at bs)

-- the value in the rest of a line: without a comment, and trimmed
abbrev pub value_in : List ℕ → List ℕ
value_in bs = trimmed (take (comment_at bs) bs)

-- what a line is: a blank, a comment, a further line of a value, a section, a key, or none of these
pub data LineKind : Type 0 where
  Blank : LineKind
  Comment : LineKind
  Further : (text : List ℕ) → LineKind
  Opens : (section : List ℕ) → LineKind
  Sets : (key : List ℕ) (value : List ℕ) → LineKind
  Bad : LineKind

-- after the bracket of a section stand only spaces, tabs or a comment
abbrev pub is_end : List ℕ → Bool
is_end bs = is_empty (without_indent bs) || begins_with is_semicolon (without_indent bs)

-- the name between the brackets of a section
abbrev pub name_between : Option (List ℕ × List ℕ) → Option (List ℕ)
name_between None = None
name_between (Some parts) = if not (is_empty parts.0) && is_end parts.1 then Some parts.0 else None

-- what stands after an opening bracket
abbrev pub behind_bracket : List ℕ → Option (List ℕ)
behind_bracket bs = if begins_with is_opening bs then Some (drop 1 bs) else None

-- the name after an opening bracket, where there is one
abbrev pub name_inside : Option (List ℕ) → Option (List ℕ)
name_inside None = None
name_inside (Some bs) = name_between (cut_at is_bracket bs)

-- the name of the section that a line opens
abbrev pub section_name : List ℕ → Option (List ℕ)
section_name content = name_inside (behind_bracket content)

-- a key, which isn't empty and is read in lower case, and its value
abbrev pub key_and_value : Option (List ℕ × List ℕ) → LineKind
key_and_value None = Bad
key_and_value (Some parts) =
    if is_empty (trimmed parts.0) then Bad
    else Sets (str_to_ascii_lowercase (trimmed parts.0)) (value_in parts.1)

-- a section where the line has its name, and else a key with its value
abbrev pub opens_or_sets : Option (List ℕ) → List ℕ → LineKind
opens_or_sets (Some name) content = Opens name
opens_or_sets None content = key_and_value (cut_at is_separator content)

-- what a line is, where a value is going on or not: the first that fits
abbrev pub kind_of : Bool → List ℕ → LineKind
kind_of going line =
    if is_empty (without_indent line) then Blank
    else if begins_with is_comment_mark (without_indent line) then Comment
    else if going && begins_with is_blank line then Further (value_in line)
    else opens_or_sets (section_name (without_indent line)) (without_indent line)
