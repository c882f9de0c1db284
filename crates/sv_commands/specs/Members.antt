-- The members of a struct that a reply gives; of those of one name the first counts.
use Rattle.std.specs.Prelude.{ℕ, ℤ, List, Option, Some, None, if◌then◌else◌}
use Rattle.std.specs.Str.{bytes_eq}
use Rattle.sv_xmlcall.specs.Trees.{Tree, Members, integer, text, no_member, member}

-- the value of the first member of this name
abbrev pub first_member : List ℕ → Members → Option Tree
first_member name no_member = None
first_member name (member own value members) =
    if bytes_eq own name then Some value else first_member name members

-- a value that is a text
abbrev pub as_text : Option Tree → Option (List ℕ)
as_text (Some (text content)) = Some content
as_text value = None

-- a value that is an integer
abbrev pub as_integer : Option Tree → Option ℤ
as_integer (Some (integer number)) = Some number
as_integer value = None

-- the text of a member
abbrev pub text_in : List ℕ → Members → Option (List ℕ)
text_in name members = as_text (first_member name members)

-- the integer of a member
abbrev pub integer_in : List ℕ → Members → Option ℤ
integer_in name members = as_integer (first_member name members)
