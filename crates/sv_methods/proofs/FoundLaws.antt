-- A group that is found is there.
use Rattle.std.proofs.Common.{◌≡◌, ℕ, ◌<◌, List, [], ◌∷◌, length, refl, ap, ◌∙◌}
use Rattle.std.specs.Prelude.{Option, Some, None}
use Rattle.std.specs.List.{position_from}
use Rattle.std.specs.Str.{bytes_eq}
use Rattle.std.proofs.lemmas.List.Quantifiers.{position-Some}
use Rattle.sv_base.specs.SplitName.{split_of}
use Rattle.sv_base.specs.declared.spec.GroupSpec.{GroupSpec}
use Rattle.sv_groups.specs.Lookup.{found, found_by, group_found, one_found, place_of, names_of, is_called}
use Rattle.sv_groups.specs.declared.lookup.Found.TheVariants.{One, Group, Nothing}

place_there : (name : List ℕ) (groups : List GroupSpec) (place : ℕ) → place_of name groups ≡ Some place → place < length groups
place_there name [] place is = cc
place_there name (g ∷ gs) place is = (position-Some (λ (x : GroupSpec). bytes_eq x.name name) (g ∷ gs) place g is).0

group_there : (name : List ℕ) (groups : List GroupSpec) (place : Option ℕ) (group : ℕ) → place_of name groups ≡ place → group_found place ≡ Group group → group < length groups
group_there name groups None group is e = cc
group_there name groups (Some place) group is e =
    let same : place ≡ group = cc in
    place_there name groups group (is ∙ ap Some same)

by_there : (name : List ℕ) (member : Option (List ℕ)) (groups : List GroupSpec) (group : ℕ) → found_by name member groups ≡ Group group → group < length groups
by_there name None groups group e = group_there name groups (place_of name groups) group refl e
by_there name (Some member) groups group e = one_never (position_from (is_called name member) 0 (names_of groups)) e
  where
    one_never : (place : Option ℕ) → one_found place ≡ Group group → group < length groups
    one_never None e = cc
    one_never (Some place) e = cc

pub group_is_there : (text : List ℕ) (groups : List GroupSpec) (group : ℕ) → found text groups ≡ Group group → group < length groups
group_is_there text groups group e = by_there (split_of text).0 (split_of text).1 groups group e
