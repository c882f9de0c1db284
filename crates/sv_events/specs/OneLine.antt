-- A text without a line feed.
use Rattle.std.specs.Prelude.{List, ℕ, Bool, nat_eq, not}
use Rattle.std.specs.List.{list_all}

-- the byte is a line feed
abbrev pub is_line_feed : ℕ → Bool
is_line_feed byte = nat_eq byte 10

-- no byte of the text is one
abbrev pub is_one_line : List ℕ → Bool
is_one_line text = list_all (λ byte. not (is_line_feed byte)) text
