-- The groups of each program, kept by the program's name. They are those that going through all
-- groups would find.
use Rattle.std.specs.Prelude.{◌≡◌, ℕ, List, [], ◌∷◌, ◌++◌, String, Vec, if◌then◌else◌}
use Rattle.std.specs.HashMap.{HashMap, get_by_text}
use Rattle.std.specs.Option.{option_map_or}
use Rattle.std.specs.Str.{bytes_eq}
use Rattle.sv_sections.specs.Programs.Homes.{homes_in, homes_from}
use Rattle.sv_sections.specs.declared.programs.homes.Home.{Home}
use Rattle.sv_sections.specs.declared.programs.homes.Named.{Named}

module _ {Y Z S : Type 0} where
  -- the groups that are kept for a program
  abbrev pub homes_for : HashMap (String Y) (Vec Home Z) S → List ℕ → List Home
  homes_for homes program =
      option_map_or (λ (found : Vec Home Z). found.items) (get_by_text homes program) []

  -- one group more for this program, and the same groups for all others
  abbrev pub AddsHome : HashMap (String Y) (Vec Home Z) S → HashMap (String Y) (Vec Home Z) S
      → List ℕ → Home → Type 0
  AddsHome old new name home = (program : List ℕ)
      → homes_for new program ≡ homes_for old program
      ++ (if bytes_eq name program then home ∷ [] else [])

  -- a group more for each program that it names
  abbrev pub AddsHomes : HashMap (String Y) (Vec Home Z) S → HashMap (String Y) (Vec Home Z) S → ℕ
      → List ℕ → List (List ℕ) → Type 0
  AddsHomes old new place group names = (program : List ℕ)
      → homes_for new program ≡ homes_for old program ++ homes_in place program group names

  -- the groups that are kept are those that going through all would find
  abbrev pub HasHomes : HashMap (String Y) (Vec Home Z) S → List Named → Type 0
  HasHomes homes named = (program : List ℕ) → homes_for homes program ≡ homes_from 0 program named
