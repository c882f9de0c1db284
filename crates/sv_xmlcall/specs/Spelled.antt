-- What a text spells, and small words of it.
use Rattle.std.specs.Prelude.{ℕ, zero, suc, ℤ, pos, negsuc, List, Bool, true, false, ◌&&◌, ◌||◌}
use Rattle.std.specs.Prelude.{◌==◌, Option, Some, None, codes}
use Rattle.std.specs.Str.{bytes_eq}
use Rattle.sv_base.specs.Ascii.{carriage_return, line_feed, space, tab}
use Rattle.sv_xmlcall.specs.Trees.{Tree, Trees, Members, integer, text, structure, no_tree, tree}
use Rattle.sv_xmlcall.specs.Trees.{no_member, member, CallTree, Reply, Faults}

-- what a text may spell
pub data Spelled : Type 0 where
  ACall : CallTree → Spelled
  AReply : Reply → Spelled

-- space, tab, carriage return and line feed
abbrev pub is_white : ℕ → Bool
is_white b = (b == space) || (b == tab) || (b == carriage_return) || (b == line_feed)

-- the values with one more at their end
abbrev pub snoc : Trees → Tree → Trees
snoc no_tree value = tree value no_tree
snoc (tree first trees) value = tree first (snoc trees value)

-- the members with one more at their end
abbrev pub snoc_member : Members → List ℕ → Tree → Members
snoc_member no_member name value = member name value no_member
snoc_member (member first one members) name value =
    member first one (snoc_member members name value)

-- the integer of a sign and a number
abbrev pub signed : Bool → ℕ → ℤ
signed false n = pos n
signed true zero = pos 0
signed true (suc n) = negsuc n

-- the fault of this number and text, if its members have the right names
abbrev pub named_fault : Bool → ℤ → List ℕ → Option Reply
named_fault true number content = Some (Faults number content)
named_fault false number content = None

-- the fault of two members
abbrev pub two_of : List ℕ → Tree → List ℕ → Tree → Option Reply
two_of first (integer number) second (text content) =
    named_fault (bytes_eq first (codes "faultCode") && bytes_eq second (codes "faultString")) number
    content
two_of first (text content) second (integer number) =
    named_fault (bytes_eq second (codes "faultCode") && bytes_eq first (codes "faultString")) number
    content
two_of first one second more = None

-- the fault of a struct of exactly the members faultCode and faultString, in either order
abbrev pub fault_of : Tree → Option Reply
fault_of (structure (member first one (member second more no_member))) =
    two_of first one second more
fault_of value = None
