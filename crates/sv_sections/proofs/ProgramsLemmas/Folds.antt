-- Folds over a list, one element further.
use Rattle.std.proofs.Common.{◌≡◌, ◌+◌, List, [], ◌∷◌, ◌++◌, refl}
use Rattle.sv_base.specs.declared.spec.GroupSpec.{GroupSpec}
use Rattle.sv_sections.specs.Programs.Homes.{with_part, with_parts}
use Rattle.sv_sections.specs.declared.programs.homes.Part.{Part}

pub parts_more : (parts : List (List GroupSpec)) (more : List Part) (part : Part) → with_parts parts (more ++ part ∷ []) ≡ with_part (with_parts parts more) part
parts_more parts [] part = refl
parts_more parts (first ∷ more) part = parts_more (with_part parts first) more part
