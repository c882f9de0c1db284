use Rattle.std.proofs.Common.{◌≡◌, ◌++◌, drop}
use Rattle.std.specs.Option.{option_map}
use Rattle.sv_xmlcall.specs.Trees.{trees_view}
use Rattle.sv_multi.specs.MultiCall.{parts_in}
use Rattle.sv_multi.specs.Views.{parts_view}
use Rattle.sv_multi.proofs.parts.parts_in.Given as goal

abbrev pub invariant-loop-value : goal.invariant-loop-value
invariant-loop-value l =
    parts_in (trees_view l.values) ≡ option_map (λ more. parts_view l.parts.items ++ more) (parts_in (trees_view (drop l.value-index l.values)))
