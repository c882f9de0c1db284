-- The place of each name in a list, kept in a table: the one that going through the list would
-- find.
use Rattle.std.specs.Prelude.{◌≡◌, ℕ, List, Bool, Option, Some, None, String, if◌then◌else◌}
use Rattle.std.specs.HashMap.{HashMap, get_by_text}
use Rattle.std.specs.List.{position, slice_get}
use Rattle.std.specs.Option.{option_map, option_or}
use Rattle.std.specs.Str.{bytes_eq}

-- whether a pair has this name
abbrev pub has_name : List ℕ → List ℕ × List ℕ → Bool
has_name name pair = bytes_eq pair.0 name

-- the place of the first pair with this name
abbrev pub place_of : List ℕ → List (List ℕ × List ℕ) → Option ℕ
place_of name pairs = position (has_name name) pairs

-- the text of the pair at a place, where there is one
abbrev pub text_at : ℕ → List (List ℕ × List ℕ) → Option (List ℕ)
text_at place pairs = option_map (λ (pair : List ℕ × List ℕ). pair.1) (slice_get pairs place)

module _ {Y S : Type 0} where
  -- this place for this name, where it had none, and the same places for all others
  abbrev pub AddsPlace : HashMap (String Y) ℕ S → HashMap (String Y) ℕ S → List ℕ → ℕ → Type 0
  AddsPlace old new name place = (other : List ℕ)
      → get_by_text new other
      ≡ option_or (get_by_text old other) (if bytes_eq name other then Some place else None)

  -- the table has the place of each name, and no others
  abbrev pub HasPlaces : HashMap (String Y) ℕ S → List (List ℕ × List ℕ) → Type 0
  HasPlaces places pairs = (name : List ℕ) → get_by_text places name ≡ place_of name pairs
