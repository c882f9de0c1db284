use Rattle.std.proofs.Common.{◌≡◌, ◌++◌, drop}
use Rattle.sv_xmlcall.specs.Trees.{trees_view}
use Rattle.sv_xmlcall.specs.Written.{written_params}
use Rattle.sv_xmlcall.proofs.write.put_params.Given as goal

abbrev pub invariant-loop-value : goal.invariant-loop-value
invariant-loop-value l =
    l.out.items ++ written_params (trees_view (drop l.value-index l.value-items)) ≡ l.initial.out.items ++ written_params (trees_view l.value-items)
