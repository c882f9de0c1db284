-- The known sizes of files, in bytes, by their names.
use Rattle.std.specs.Prelude.{ℕ, List, [], ◌∷◌, Bool, true, ◌&&◌, if◌then◌else◌}
use Rattle.std.specs.Cmp.Lexicographic.{slice_cmp}
use Rattle.std.specs.Ordering.{nat_cmp, is_lt}
use Rattle.std.specs.Str.{bytes_eq}

-- a name, and its size
abbrev pub Sizes : Type 0
Sizes = List (List ℕ × ℕ)

-- the one name stands before the other, by their bytes
abbrev pub is_before : List ℕ → List ℕ → Bool
is_before one other = is_lt (slice_cmp nat_cmp one other)

-- this name stands before the first of these, if there is one
abbrev pub is_before_first : List ℕ → Sizes → Bool
is_before_first name [] = true
is_before_first name (known ∷ sizes) = is_before name known.0

-- the names rise by their bytes, so that each stands once
abbrev pub rise : Sizes → Bool
rise [] = true
rise (known ∷ sizes) = is_before_first known.0 sizes && rise sizes

-- the known size of a file; 0 where none is known
abbrev pub size_in : List ℕ → Sizes → ℕ
size_in file [] = 0
size_in file (known ∷ sizes) = if bytes_eq known.0 file then known.1 else size_in file sizes

-- the sizes after the names up to this one
abbrev pub without_first : List ℕ → Sizes → Sizes
without_first file [] = []
without_first file (known ∷ sizes) = if bytes_eq known.0 file then sizes else known ∷ sizes

-- a file has this size, whatever it had; its name goes to its place in the order
abbrev pub sized : List ℕ → ℕ → Sizes → Sizes
sized file size [] = (file, size) ∷ []
sized file size (known ∷ sizes) =
    if is_before known.0 file then known ∷ sized file size sizes
    else (file, size) ∷ without_first file (known ∷ sizes)

-- a file of which a size is known has the size 0
abbrev pub cleared : List ℕ → Sizes → Sizes
cleared file [] = []
cleared file (known ∷ sizes) =
    if bytes_eq known.0 file then (known.0, 0) ∷ sizes else known ∷ cleared file sizes
