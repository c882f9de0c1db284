use Rattle.std.proofs.Common.{◌≡◌, ◌≤◌, ◌++◌, ℕ, List, length, map}
use Rattle.std.specs.Option.{ForSome}
use Rattle.sv_load.specs.Sizes.LogSizes.{IsOneOf, name_of, sizes_on}
use Rattle.sv_load.proofs.sizes.sizes.sizes_of_all.Given as goal

abbrev pub invariant-loop-left : goal.invariant-loop-left
invariant-loop-left g l = record {
  names : map name_of l.sizes.items ++ map name_of l.left ≡ map name_of l.files;
  sizes : ForSome (g.S.Shelf.files l.initial.shelf) (λ held. l.sizes.items ++ sizes_on held (map name_of l.left)
      ≡ sizes_on held (map name_of l.files));
  asked : (name : List ℕ) → IsOneOf (map name_of l.left) name → IsOneOf (map name_of l.files) name;
  kept : g.S.Shelf.files l.shelf ≡ g.S.Shelf.files l.initial.shelf;
  later : g.S.Shelf.faults l.initial.shelf ≤ g.S.Shelf.faults l.shelf;
}

abbrev pub decreases-loop-left : goal.decreases-loop-left
decreases-loop-left g l = length l.left
