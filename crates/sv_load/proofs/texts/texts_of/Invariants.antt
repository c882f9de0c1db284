use Rattle.std.proofs.Common.{◌≡◌, ◌≤◌, ◌++◌, ℕ, List, length}
use Rattle.std.specs.Option.{ForSome}
use Rattle.sv_load.specs.Listing.{texts_of, IsOneOf}
use Rattle.sv_load.proofs.texts.texts_of.Given as goal

abbrev pub invariant-loop-left : goal.invariant-loop-left
invariant-loop-left g l = record {
  texts : ForSome (g.S.Shelf.files l.initial.shelf) (λ files. l.texts ++ texts_of files l.left ≡ texts_of files l.names);
  asked : (name : List ℕ) → IsOneOf l.left name → IsOneOf l.names name;
  kept : g.S.Shelf.files l.shelf ≡ g.S.Shelf.files l.initial.shelf;
  later : g.S.Shelf.faults l.initial.shelf ≤ g.S.Shelf.faults l.shelf;
}

abbrev pub decreases-loop-left : goal.decreases-loop-left
decreases-loop-left g l = length l.left
