-- Where a name stands among known sizes.
use Rattle.std.specs.Prelude.{◌≡◌, ℕ, ◌<◌, ◌≤◌, List, [], length, slice_index_or}
use Rattle.std.specs.Cmp.Lexicographic.{slice_cmp}
use Rattle.std.specs.Ordering.{nat_cmp}
use Rattle.std.specs.declared.cmp.Ordering.TheVariants.{Less, Greater}
use Rattle.sv_logs.specs.Sizes.{Sizes}

-- the name of this place
abbrev pub name_at : Sizes → ℕ → List ℕ
name_at sizes place = let known = slice_index_or sizes place ([], 0) in known.0

-- the file has the entry of this place
pub record StandsAt (file : List ℕ) (sizes : Sizes) (place : ℕ) : Type 0 where
  pub below : place < length sizes
  pub named : name_at sizes place ≡ file

-- it has none, and would stand here: lesser names before it, greater ones from there on
pub record IsGapFor (file : List ℕ) (sizes : Sizes) (place : ℕ) : Type 0 where
  pub below : place ≤ length sizes
  pub lesser : (other : ℕ) → other < place → slice_cmp nat_cmp (name_at sizes other) file ≡ Less
  pub greater : (other : ℕ) → place ≤ other → other < length sizes
      → slice_cmp nat_cmp (name_at sizes other) file ≡ Greater
