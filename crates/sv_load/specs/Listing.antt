-- Which files a configuration includes, on a shelf that tells its files.
use Rattle.std.specs.Prelude.{◌≡◌, ◌++◌, ◌∷◌, ◌⊎◌, ℕ, List, [], Option, None, Some, if◌then◌else◌}
use Rattle.std.specs.List.{list_any, flat_map}
use Rattle.std.specs.Str.{bytes_eq}
use Rattle.sv_out.specs.Files.{Files, AreNames, AreRising}

-- a pattern's names: those of the files that it matches, rising by bytes
abbrev pub IsAnswer : Files → List ℕ → List (List ℕ) → Type 0
IsAnswer files pattern names = AreRising names × AreNames pattern names files

-- the names of all patterns, those of each after those of the patterns before it
abbrev pub AreListed : Files → List (List ℕ) → List (List ℕ) → Type 0
AreListed files [] names = names ≡ []
AreListed files (pattern ∷ patterns) names =
    (answer : List (List ℕ)) × (more : List (List ℕ)) × IsAnswer files pattern answer
    × AreListed files patterns more × (names ≡ answer ++ more)

-- a name after others, unless it is one of them
abbrev pub with_name : List (List ℕ) → List ℕ → List (List ℕ)
with_name names name =
    if list_any (λ other. bytes_eq other name) names then names else names ++ name ∷ []

-- further names after others, each once
abbrev pub with_names : List (List ℕ) → List (List ℕ) → List (List ℕ)
with_names names [] = names
with_names names (name ∷ more) = with_names (with_name names name) more

-- the names, each once, where it first stands
abbrev pub each_once : List (List ℕ) → List (List ℕ)
each_once names = with_names [] names

-- a file that is there, with its name
abbrev pub text_of : List ℕ → Option (List ℕ) → List (List ℕ × List ℕ)
text_of name None = []
text_of name (Some bytes) = (name, bytes) ∷ []

-- the files of these names that are there, each with its name
abbrev pub texts_of : Files → List (List ℕ) → List (List ℕ × List ℕ)
texts_of files names = flat_map (λ name. text_of name (files name)) names

-- the name is one of these
abbrev pub IsOneOf : List (List ℕ) → List ℕ → Type 0
IsOneOf [] name = ⊥
IsOneOf (other ∷ names) name = (name ≡ other) ⊎ IsOneOf names name
