-- White space in a line, as Python 3.11 sees it (`str.isspace`), and what stands between it.
use Rattle.std.specs.Prelude.{◌==◌, ◌-◌, ℕ, List, Bool, ◌&&◌, ◌||◌, nat_le, length, take, drop}
use Rattle.std.specs.List.{prefix_len, suffix_len}

-- tab to carriage return, the four separators of ASCII, and the space
abbrev pub is_ascii_space : ℕ → Bool
is_ascii_space c = (nat_le 9 c && nat_le c 13) || (nat_le 28 c && nat_le c 32)

-- the white space past ASCII
abbrev pub is_wide_space : ℕ → Bool
is_wide_space c =
    (c == 0x85) || (c == 0xA0) || (c == 0x1680) || (nat_le 0x2000 c && nat_le c 0x200A)
    || (c == 0x2028) || (c == 0x2029) || (c == 0x202F) || (c == 0x205F) || (c == 0x3000)

-- one of the 29 characters of white space
abbrev pub is_space : ℕ → Bool
is_space c = is_ascii_space c || is_wide_space c

-- how many characters of white space a line begins with; a tab counts as one
abbrev pub indent_of : List ℕ → ℕ
indent_of line = prefix_len is_space line

-- without the white space before
abbrev pub without_indent : List ℕ → List ℕ
without_indent line = drop (indent_of line) line

-- without the white space after
abbrev pub without_tail : List ℕ → List ℕ
without_tail line = take (length line - suffix_len is_space line) line

-- without the white space round it
abbrev pub trimmed : List ℕ → List ℕ
trimmed line = without_tail (without_indent line)
