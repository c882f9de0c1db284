-- Names that stand twice among the processes of a group.
use Rattle.std.specs.Prelude.{◌≡◌, ℕ, List, [], ◌∷◌, ◌++◌, ◌||◌, Option, Some, None, String}
use Rattle.std.specs.Prelude.{if◌then◌else◌}
use Rattle.std.specs.HashSet.{HashSet, contains_text}
use Rattle.std.specs.List.{list_any}
use Rattle.std.specs.Str.{bytes_eq}
use Rattle.sv_base.specs.declared.spec.Spec.{Spec}
use Rattle.sv_sections.specs.ServerSections.{or_else}

-- the name of a process where one before it has it too
unfoldable pub twice_at : List Spec → Spec → Option (List ℕ)
twice_at before member =
    if list_any (λ (other : Spec). bytes_eq other.name member.name) before then Some member.name
    else None

-- the first name of a process that stands before it already
abbrev pub first_twice : List Spec → List Spec → Option (List ℕ)
first_twice before [] = None
first_twice before (member ∷ members) =
    or_else (twice_at before member) (first_twice (before ++ member ∷ []) members)

module _ {Y S : Type 0} where
  -- one name more in a set, and the same for all others
  abbrev pub AddsName : HashSet (String Y) S → HashSet (String Y) S → List ℕ → Type 0
  AddsName old new name =
      (other : List ℕ) → contains_text new other ≡ (bytes_eq name other || contains_text old other)
