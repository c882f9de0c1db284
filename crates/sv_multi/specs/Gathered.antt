-- What is gathered of the answers of several calls in one.
use Rattle.std.specs.Global.{Vec}
use Rattle.std.specs.Prelude.{List, [], ◌∷◌, ◌++◌, Option, Some, None, map}
use Rattle.std.specs.Option.{option_map}
use Rattle.sv_multi.specs.declared.gather.Gather.{Gather}
use Rattle.sv_xmlcall.specs.Trees.{Tree, array, trees_of, view}
use Rattle.sv_xmlcall.specs.declared.value.Value.{Value}

-- the values gathered so far as plain data; none once memory was refused
abbrev pub trees_so_far : Option (Vec Value) → Option (List Tree)
trees_so_far None = None
trees_so_far (Some results) = Some (map view results.items)

-- what each answer is in the one value, in order; none once memory was refused
abbrev pub results_of : Gather → Option (List Tree)
results_of gather = trees_so_far gather.results

-- one more, after those before
abbrev pub adds : Option (List Tree) → Tree → Option (List Tree)
adds results more = option_map (λ before. before ++ more ∷ []) results

-- the array of what was gathered
abbrev pub gathered : Option (List Tree) → Option Tree
gathered results = option_map (λ all. array (trees_of all)) results
