use Rattle.std.proofs.Common.{◌≡◌, ◌≤◌, ◌++◌, ℕ, List, length}
use Rattle.std.specs.Option.{ForSome}
use Rattle.sv_load.specs.Listing.{AreListed, IsOneOf}
use Rattle.sv_load.proofs.listing.names_of_all.Given as goal

abbrev pub invariant-loop-left : goal.invariant-loop-left
invariant-loop-left g l = record {
  listed : ForSome (g.S.Shelf.files l.initial.shelf) (λ files. (more : List (List ℕ)) → AreListed files l.left more
      → AreListed files l.patterns (l.names.items ++ more));
  asked : (name : List ℕ) → IsOneOf l.left name → IsOneOf l.patterns name;
  kept : g.S.Shelf.files l.shelf ≡ g.S.Shelf.files l.initial.shelf;
  later : g.S.Shelf.faults l.initial.shelf ≤ g.S.Shelf.faults l.shelf;
}

abbrev pub decreases-loop-left : goal.decreases-loop-left
decreases-loop-left g l = length l.left
