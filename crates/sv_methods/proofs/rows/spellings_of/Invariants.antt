use Rattle.std.proofs.Common.{◌≡◌, map, take}
use Rattle.sv_xmlcall.specs.Trees.{view}
use Rattle.sv_methods.specs.Spellings.{spelling_tree}
use Rattle.sv_methods.proofs.rows.spellings_of.Given as goal

abbrev pub invariant-loop-method : goal.invariant-loop-method
invariant-loop-method l = map view l.values.items ≡ map spelling_tree (take l.method-index l.methods)
