-- Places of names, kept in a table.
use Rattle.std.specs.Prelude.{◌≡◌, ℕ, List, Some, None, Option, String, cond}
use Rattle.std.specs.HashMap.{HashMap, get_by_text}
use Rattle.std.specs.Option.{is_some}
use Rattle.std.specs.Str.{bytes_eq}

-- the place that a name has, or else this one
abbrev pub or_place : Option ℕ → ℕ → ℕ
or_place None place = place
or_place (Some first) place = first

module _ {Y S : Type 0} where
  -- this name has a place now, the one that it had or else this one, and all others have theirs
  abbrev pub AddsPlace : HashMap (String Y) ℕ S → HashMap (String Y) ℕ S → List ℕ → ℕ → Type 0
  AddsPlace old new name place = (other : List ℕ)
      → get_by_text new other
      ≡ cond (bytes_eq name other) (Some (or_place (get_by_text old name) place)) (get_by_text old other)
