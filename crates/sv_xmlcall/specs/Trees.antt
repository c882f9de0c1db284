-- Values, calls and replies of XML-RPC as plain data.
use Rattle.std.specs.Prelude.{ℕ, ℤ, List, [], ◌∷◌, Bool, map}
use Rattle.sv_xmlcall.specs.declared.value.Value.{Value, fold-Value}
use Rattle.sv_xmlcall.specs.declared.value.Value.TheOpen.{Value-F}
use Rattle.sv_xmlcall.specs.declared.call.Call.{Call}
use Rattle.sv_xmlcall.specs.declared.call.Answered.{Answered}
use Rattle.sv_xmlcall.specs.declared.call.Answered.TheVariants as answered

mutual
  -- a value; a double, a date and base64 are a form and the text that stood in it
  pub data Tree : Type 0 where
    integer : ℤ → Tree
    truth : Bool → Tree
    text : List ℕ → Tree
    other : (form : List ℕ) (content : List ℕ) → Tree
    structure : Members → Tree
    array : Trees → Tree

  -- values, one after the other
  pub data Trees : Type 0 where
    no_tree : Trees
    tree : Tree → Trees → Trees

  -- the members of a struct, in the order of the text
  pub data Members : Type 0 where
    no_member : Members
    member : (name : List ℕ) → Tree → Members → Members

-- a call: the method's name and the values of its params
pub record CallTree : Type 0 where
  pub method : List ℕ
  pub params : Trees

-- a reply: the value that the method returns, or the number and the text of a fault
pub data Reply : Type 0 where
  Returns : Tree → Reply
  Faults : (number : ℤ) (content : List ℕ) → Reply

-- the values of a list, one after the other
abbrev pub trees_of : List Tree → Trees
trees_of [] = no_tree
trees_of (t ∷ ts) = tree t (trees_of ts)

-- the members of a list, one after the other
abbrev pub members_of : List (List ℕ × Tree) → Members
members_of [] = no_member
members_of (m ∷ ms) = member m.0 m.1 (members_of ms)

-- one level, with each value inside already seen as its tree
abbrev pub view_step : Value-F Tree → Tree
view_step (Value-F.Int n) = integer n
view_step (Value-F.Truth b) = truth b
view_step (Value-F.Text t) = text t
view_step (Value-F.Other form content) = other form content
view_step (Value-F.Struct members) = structure (members_of members.items)
view_step (Value-F.Array values) = array (trees_of values.items)

-- the tree of a value
abbrev pub view : Value → Tree
view = fold-Value Tree view_step

-- the trees of values
abbrev pub trees_view : List Value → Trees
trees_view values = trees_of (map view values)

-- the names of members, and the trees of their values
abbrev pub members_view : List (List ℕ × Value) → Members
members_view members = members_of (map (λ m. (m.0, view m.1)) members)

-- a call of the code, as plain data
abbrev pub call_view : Call → CallTree
call_view call = record { method = call.method; params = trees_view call.params.items }

-- a reply of the code, as plain data
abbrev pub reply_view : Answered → Reply
reply_view (answered.Value value) = Returns (view value)
reply_view (answered.Fault number content) = Faults number content
