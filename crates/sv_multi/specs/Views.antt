-- Parts as plain data.
use Rattle.std.specs.Prelude.{ℕ, List, map}
use Rattle.sv_xmlcall.specs.declared.value.Value.{Value}
use Rattle.sv_multi.specs.declared.part.Part.{Part}
use Rattle.sv_multi.specs.declared.part.Part.TheVariants as is
use Rattle.sv_xmlcall.specs.Trees.{CallTree, Tree, call_view, view}

-- a call to be carried out, or the fault in place of one
pub data PartTree : Type 0 where
  Calls : CallTree → PartTree
  Refuses : (number : ℕ) (content : List ℕ) → PartTree

-- a part as plain data
abbrev pub part_view : Part → PartTree
part_view (is.Call call) = Calls (call_view call)
part_view (is.Fault number content) = Refuses number content

-- parts as plain data
abbrev pub parts_view : List Part → List PartTree
parts_view parts = map part_view parts

-- members with their names, each value as plain data
abbrev pub trees_by_name : List (List ℕ × Value) → List (List ℕ × Tree)
trees_by_name members = map (λ m. (m.0, view m.1)) members
