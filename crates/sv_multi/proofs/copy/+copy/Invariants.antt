use Rattle.std.proofs.Common.{◌≡◌, take, map}
use Rattle.sv_xmlcall.specs.Trees.{view}
use Rattle.sv_multi.specs.Views.{trees_by_name}
use Rattle.sv_multi.proofs.copy.+copy.Given as goal

abbrev pub invariant-copied_values-loop-value : goal.invariant-copied_values-loop-value
invariant-copied_values-loop-value l = map view l.copies.items ≡ map view (take l.value-index l.value-items)

abbrev pub invariant-copied_members-loop-name : goal.invariant-copied_members-loop-name
invariant-copied_members-loop-name l =
    trees_by_name l.copies.items ≡ trees_by_name (take l.name-index l.name-items)
