-- Members of a struct as plain data.
use Rattle.std.specs.Prelude.{ℕ, List, map}
use Rattle.sv_xmlcall.specs.Trees.{Tree, view}
use Rattle.sv_xmlcall.specs.declared.value.Value.{Value}

-- members with their names, each value as plain data
abbrev pub trees_by_name : List (List ℕ × Value) → List (List ℕ × Tree)
trees_by_name members = map (λ m. (m.0, view m.1)) members
