-- What may be the name of a program, a group or a process, and the titles of their sections.
use Rattle.std.specs.Prelude.{ℕ, List, Bool, ◌&&◌, not, Option, Some, None}
use Rattle.std.specs.Prelude.{if◌then◌else◌}
use Rattle.std.specs.List.{list_all}
use Rattle.std.specs.Str.{bytes_eq, chars}
use Rattle.sv_keys.specs.Cuts.{cut_at, is_colon, is_empty}
use Rattle.sv_letters.specs.Letters.{is_name_letter}

-- what may be a name: one such character or more
abbrev pub is_name : List ℕ → Bool
is_name text = not (is_empty text) && list_all is_name_letter (chars text)

-- the name of a process
abbrev pub name_of : List ℕ → Option (List ℕ)
name_of text = if is_name text then Some text else None

-- what stands after this word, where the text is cut after it
abbrev pub behind : List ℕ → Option (List ℕ × List ℕ) → Option (List ℕ)
behind word None = None
behind word (Some parts) = if bytes_eq parts.0 word then Some parts.1 else None

-- what stands after this word and a colon in a title
abbrev pub titled : List ℕ → List ℕ → Option (List ℕ)
titled word title = behind word (cut_at is_colon title)
