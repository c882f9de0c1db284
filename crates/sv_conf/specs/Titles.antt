-- The titles of all sections, kept in a set. It has those that going through all sections would
-- find.
use Rattle.std.specs.Prelude.{◌≡◌, ℕ, List, Bool, String}
use Rattle.std.specs.HashSet.{HashSet, contains_text}
use Rattle.std.specs.List.{list_any}
use Rattle.std.specs.Str.{bytes_eq}
use Rattle.sv_ini.specs.declared.section.Section.{Section}

-- a section has this title
abbrev pub has_title : List ℕ → List Section → Bool
has_title title sections = list_any (λ (s : Section). bytes_eq s.name title) sections

module _ {Y S : Type 0} where
  -- the set has the titles of these sections
  abbrev pub HasTitles : HashSet (String Y) S → List Section → Type 0
  HasTitles titles sections =
      (title : List ℕ) → contains_text titles title ≡ has_title title sections
