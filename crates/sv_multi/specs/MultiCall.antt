-- Several calls in one (the manual's chapter on its XML-RPC interface, `system.multicall`): the
-- calls that one value asks for, and the one value that their answers make.
use Rattle.std.specs.Prelude.{◌≡◌, ℕ, List, [], ◌∷◌, Option, Some, None, codes, if◌then◌else◌}
use Rattle.std.specs.Option.{option_map}
use Rattle.std.specs.Str.{bytes_eq}
use Rattle.sv_multi.specs.Views.{PartTree, Calls, Refuses}
use Rattle.sv_multi.specs.declared.fault.MultiFault.{MultiFault}
use Rattle.sv_multi.specs.declared.fault.MultiFault.TheVariants.{NotParts, OutOfMemory}
use Rattle.sv_xmlcall.specs.Trees.{Tree, Trees, Members, text, structure, array, no_tree, tree}
use Rattle.sv_xmlcall.specs.Trees.{no_member, member, Reply, Returns, Faults}
use Rattle.sv_xmlcall.specs.Written.{fault_tree}

-- the value of the first member of this name
abbrev pub member_named : List ℕ → Members → Option Tree
member_named name no_member = None
member_named name (member own value members) =
    if bytes_eq own name then Some value else member_named name members

-- what stands in the place of a part that is no call
abbrev pub bad_part : PartTree
bad_part = Refuses 2 (codes "INCORRECT_PARAMETERS")

-- several calls in one aren't called within several calls in one
abbrev pub call_of : List ℕ → Trees → PartTree
call_of method params =
    if bytes_eq method (codes "system.multicall") then bad_part
    else Calls (record { method = method; params = params })

-- params that are absent are empty; any but an array are bad
abbrev pub called_with : List ℕ → Option Tree → PartTree
called_with method None = call_of method no_tree
called_with method (Some (array params)) = call_of method params
called_with method (Some value) = bad_part

-- a method's name has to be there, and is a text
abbrev pub called : Option Tree → Option Tree → PartTree
called (Some (text method)) params = called_with method params
called method params = bad_part

-- the part that a struct is, by the first member of each name
abbrev pub part_of : Members → PartTree
part_of members =
    called (member_named (codes "methodName") members) (member_named (codes "params") members)

-- the part that a value is; none exactly where it isn't a struct
abbrev pub part_in : Tree → Option PartTree
part_in (structure members) = Some (part_of members)
part_in value = None

-- a part before the parts that follow it, where all of them are parts
abbrev pub with_part : Option PartTree → Option (List PartTree) → Option (List PartTree)
with_part None parts = None
with_part (Some part) parts = option_map (λ more. part ∷ more) parts

-- the parts of values, in order; none exactly where one of them isn't a struct
abbrev pub parts_in : Trees → Option (List PartTree)
parts_in no_tree = Some []
parts_in (tree value values) = with_part (part_in value) (parts_in values)

-- the parts of a value, in order; none exactly where it isn't an array of structs
abbrev pub parts_of : Tree → Option (List PartTree)
parts_of (array values) = parts_in values
parts_of value = None

-- a refusal says that there are no parts; out of memory says nothing
abbrev pub IsRefused : Option (List PartTree) → MultiFault → Type 0
IsRefused parts NotParts = parts ≡ None
IsRefused parts OutOfMemory = Unit {0}

-- what one answer is in the one value: an array of the value alone, or the struct of the fault
abbrev pub result_of : Reply → Tree
result_of (Returns value) = array (tree value no_tree)
result_of (Faults number content) = fault_tree number content
