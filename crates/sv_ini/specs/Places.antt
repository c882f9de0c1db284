-- The places of names, kept in a table. They are those that going through the list would find.
use Rattle.std.specs.Prelude.{◌≡◌, ℕ, List, String}
use Rattle.std.specs.HashMap.{HashMap, get_by_text}
use Rattle.std.specs.List.{position}
use Rattle.std.specs.Str.{bytes_eq}

-- for each name, the table has the place of the first element of that name
abbrev pub HasPlaces : {A Y S : Type 0} → (A → List ℕ) → HashMap (String Y) ℕ S → List A → Type 0
HasPlaces name_of places elements =
    (name : List ℕ) → get_by_text places name ≡ position (λ x. bytes_eq (name_of x) name) elements
