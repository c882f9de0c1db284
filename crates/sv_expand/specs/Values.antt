-- The values that names stand for, and how numbers are printed.
use Rattle.std.specs.Prelude.{◌-◌, ℕ, suc, zero, List, [], ◌∷◌, ◌++◌, Option, Some, None, length}
use Rattle.std.specs.Prelude.{encode_utf8, if◌then◌else◌}
use Rattle.std.specs.Fmt.{decimal}
use Rattle.std.specs.Str.{bytes_eq}

-- what a name stands for in a list: the first of several equal names counts
abbrev pub value_of : {V : Type 0} → List ℕ → List (List ℕ × V) → Option V
value_of name [] = None
value_of name (pair ∷ pairs) = if bytes_eq pair.0 name then Some pair.1 else value_of name pairs

-- a filler so many times
abbrev pub filled : ℕ → ℕ → List ℕ
filled zero filler = []
filled (suc count) filler = encode_utf8 filler ++ filled count filler

-- a number to the right in so many places, never cut
abbrev pub to_the_right : ℕ → ℕ → ℕ → List ℕ
to_the_right filler width number = filled (width - length (decimal number)) filler ++ decimal number

-- the value of a name: its text, or its number
abbrev pub plain_value : Option (List ℕ) → Option ℕ → Option (List ℕ)
plain_value (Some text) number = Some text
plain_value None (Some number) = Some (decimal number)
plain_value None None = None

-- a number printed; a name that stands for a text has none
abbrev pub number_value : ℕ → ℕ → Option (List ℕ) → Option ℕ → Option (List ℕ)
number_value filler width (Some text) number = None
number_value filler width None (Some number) = Some (to_the_right filler width number)
number_value filler width None None = None
