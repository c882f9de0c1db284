-- The one text that is written for a call, a reply or a fault: the declaration, and no white space
-- between tags.
use Rattle.std.specs.Prelude.{ℕ, ℤ, List, [], ◌∷◌, ◌++◌, Bool, true, false, codes, ◌==◌}
use Rattle.std.specs.Prelude.{if◌then◌else◌}
use Rattle.std.specs.List.{flat_map}
use Rattle.std.specs.Fmt.{signed_decimal}
use Rattle.sv_base.specs.Ascii.{ampersand, carriage_return, greater_sign, less_sign}
use Rattle.sv_xmlcall.specs.Trees.{Tree, Trees, Members, integer, truth, text, other, structure}
use Rattle.sv_xmlcall.specs.Trees.{array, no_tree, tree, no_member, member, CallTree, Reply}
use Rattle.sv_xmlcall.specs.Trees.{Returns, Faults}

-- Within texts `&`, `<` and `>` are entities, and a carriage return is an entity by its number.
abbrev pub escaped_byte : ℕ → List ℕ
escaped_byte b =
    if b == ampersand then codes "&amp;"
    else if b == less_sign then codes "&lt;"
    else if b == greater_sign then codes "&gt;"
    else if b == carriage_return then codes "&#13;"
    else b ∷ []

-- a text as it is written
abbrev pub escaped : List ℕ → List ℕ
escaped bytes = flat_map escaped_byte bytes

-- a boolean is `1` or `0`
abbrev pub digit_of : Bool → List ℕ
digit_of true = codes "1"
digit_of false = codes "0"

-- the opening tag of an element of this name
unfoldable pub opening : List ℕ → List ℕ
opening name = codes "<" ++ name ++ codes ">"

-- the closing tag of an element of this name
unfoldable pub closing : List ℕ → List ℕ
closing name = codes "</" ++ name ++ codes ">"

-- a tag, what stands within, and its closing tag
abbrev pub element : List ℕ → List ℕ → List ℕ
element name content = opening name ++ content ++ closing name

abbrev mutual
  -- what stands within `<value>` and `</value>`
  pub written_form : Tree → List ℕ
  written_form (integer n) = element (codes "int") (signed_decimal n)
  written_form (truth b) = element (codes "boolean") (digit_of b)
  written_form (text content) = element (codes "string") (escaped content)
  written_form (other form content) = element form (escaped content)
  written_form (structure members) = element (codes "struct") (written_members members)
  written_form (array values) =
      element (codes "array") (element (codes "data") (written_values values))

  -- the values of an array, each in its `<value>`
  pub written_values : Trees → List ℕ
  written_values no_tree = []
  written_values (tree value values) =
      element (codes "value") (written_form value) ++ written_values values

  -- the members of a struct, each in its `<member>`
  pub written_members : Members → List ℕ
  written_members no_member = []
  written_members (member name value members) =
      element (codes "member")
      (element (codes "name") (escaped name) ++ element (codes "value") (written_form value))
      ++ written_members members

-- a value in its `<value>`
abbrev pub written_value : Tree → List ℕ
written_value value = element (codes "value") (written_form value)

-- the params of a call, each in its `<param>`
abbrev pub written_params : Trees → List ℕ
written_params no_tree = []
written_params (tree value values) =
    element (codes "param") (written_value value) ++ written_params values

-- the declaration of XML, version 1.0
abbrev pub declaration : List ℕ
declaration = codes "<?xml version='1.0'?>"

-- the text of a call
abbrev pub written_call : CallTree → List ℕ
written_call call =
    declaration
    ++ element (codes "methodCall")
    (element (codes "methodName") (escaped call.method)
    ++ element (codes "params") (written_params call.params))

-- the struct of a fault
abbrev pub fault_tree : ℤ → List ℕ → Tree
fault_tree number content =
    structure
    (member (codes "faultCode") (integer number)
    (member (codes "faultString") (text content) no_member))

-- the text of a reply
abbrev pub written_reply : Reply → List ℕ
written_reply (Returns value) =
    declaration
    ++ element (codes "methodResponse")
    (element (codes "params") (element (codes "param") (written_value value)))
written_reply (Faults number content) =
    declaration
    ++ element (codes "methodResponse")
    (element (codes "fault") (written_value (fault_tree number content)))
