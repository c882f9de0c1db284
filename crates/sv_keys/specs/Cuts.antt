-- How values are cut into parts.
use Rattle.std.specs.Prelude.{◌==◌, ◌-◌, ℕ, List, [], ◌∷◌, Bool, true, false, ◌||◌, not, Option}
use Rattle.std.specs.Prelude.{Some, None, nat_lt, length, take, drop, map, filter, if◌then◌else◌}
use Rattle.std.specs.List.{position_or_len, before_first, after_first, prefix_len, suffix_len}
use Rattle.std.specs.List.{slice_split, flat_map}
use Rattle.sv_base.specs.Ascii.{carriage_return, colon, comma, line_feed, space, tab}

-- a space, a tab, CR or a line feed
abbrev pub is_white : ℕ → Bool
is_white b = (b == space) || ((b == tab) || ((b == carriage_return) || (b == line_feed)))

-- a comma
abbrev pub is_comma : ℕ → Bool
is_comma b = b == comma

-- a colon
abbrev pub is_colon : ℕ → Bool
is_colon b = b == colon

-- a space
abbrev pub is_space : ℕ → Bool
is_space b = b == space

-- a line feed
abbrev pub is_feed : ℕ → Bool
is_feed b = b == line_feed

-- nothing stands in the list
abbrev pub is_empty : List ℕ → Bool
is_empty [] = true
is_empty (b ∷ bs) = false

-- without the white space before and after
abbrev pub without_indent : List ℕ → List ℕ
without_indent bs = drop (prefix_len is_white bs) bs

-- without the white space at the end
abbrev pub without_tail : List ℕ → List ℕ
without_tail bs = take (length bs - suffix_len is_white bs) bs

-- without the white space on both sides
abbrev pub trimmed : List ℕ → List ℕ
trimmed bs = without_tail (without_indent bs)

-- what stands before the first such byte, and what after it
abbrev pub cut_at : (ℕ → Bool) → List ℕ → Option (List ℕ × List ℕ)
cut_at p bs =
    if nat_lt (position_or_len p bs) (length bs) then Some (before_first p bs, after_first p bs)
    else None

-- the parts of a list with commas, without the white space round them
abbrev pub parts_of : List ℕ → List (List ℕ)
parts_of text = map trimmed (slice_split is_comma text)

-- a text that isn't empty
abbrev pub is_some_text : List ℕ → Bool
is_some_text text = not (is_empty text)

-- the parts of a text that aren't empty, where line feeds part them, and where spaces and line
-- feeds do
abbrev pub lines_in : List ℕ → List (List ℕ)
lines_in text = filter is_some_text (slice_split is_feed text)

-- the parts of a text that aren't empty, where spaces and line feeds part them
abbrev pub gaps_in : List ℕ → List (List ℕ)
gaps_in text = flat_map lines_in (slice_split is_space text)

-- what stands before the last colon, and what after it; without a colon nothing stands before
abbrev pub is_no_colon : ℕ → Bool
is_no_colon b = not (is_colon b)

-- what stands before the last colon; nothing where there is none
abbrev pub before_last_colon : List ℕ → List ℕ
before_last_colon text = take (length text - suffix_len is_no_colon text - 1) text

-- what stands after the last colon; everything where there is none
abbrev pub behind_last_colon : List ℕ → List ℕ
behind_last_colon text = drop (length text - suffix_len is_no_colon text) text
