use Rattle.std.proofs.Common.{◌≡◌, ◌≤◌, List, ℕ, [], length}
use Rattle.sv_xmlcall.specs.Trees.{no_tree, trees_view}
use Rattle.sv_xmlcall.specs.Machine.{AtParams, At, at, run, the_limits}
use Rattle.sv_xmlread.proofs.read.further_params.Given as goal

abbrev pub invariant-loop-behind : goal.invariant-loop-behind
invariant-loop-behind l = record {
  reads : (method : List ℕ) → run the_limits (at (At (AtParams method (trees_view l.params.items))) [] l.opened) l.rest ≡ run the_limits (at (At (AtParams method no_tree)) [] l.initial.opened) l.bytes;
  shorter : length l.rest ≤ length l.bytes;
}

abbrev pub decreases-loop-behind : goal.decreases-loop-behind
decreases-loop-behind l = length l.rest
