-- What can be written: characters that XML allows, integers of 64 bits, the forms of XML-RPC, a
-- method's name.
use Rattle.std.specs.Prelude.{◌≡◌, ◌≢◌, ◌<◌, ◌^◌, ℕ, ℤ, pos, negsuc, List, [], true}
use Rattle.std.specs.Prelude.{encode_utf8_all, ⊤}
use Rattle.std.specs.List.{list_all}
use Rattle.sv_letters.specs.Letters.{is_allowed}
use Rattle.sv_xmlcall.specs.Trees.{Tree, Trees, Members, integer, truth, text, other, structure}
use Rattle.sv_xmlcall.specs.Trees.{array, no_tree, tree, no_member, member, CallTree, Reply}
use Rattle.sv_xmlcall.specs.Trees.{Returns, Faults}
use Rattle.sv_xmlcall.specs.Spells.{Kind, kind_name}

-- the UTF-8 of characters that XML allows
abbrev pub IsXml : List ℕ → Type 0
IsXml bytes =
    (characters : List ℕ) × (list_all is_allowed characters ≡ true)
    × (encode_utf8_all characters ≡ bytes)

-- an integer of 64 bits
abbrev pub Has64Bits : ℤ → Type 0
Has64Bits (pos n) = n < 2 ^ 63
Has64Bits (negsuc n) = n < 2 ^ 63

abbrev mutual
  -- a value that can be written
  pub IsWritable : Tree → Type 0
  IsWritable (integer n) = Has64Bits n
  IsWritable (truth b) = ⊤
  IsWritable (text content) = IsXml content
  IsWritable (other form content) = ((kind : Kind) × (kind_name kind ≡ form)) × IsXml content
  IsWritable (structure members) = AreWritableMembers members
  IsWritable (array values) = AreWritable values

  -- values that can be written
  pub AreWritable : Trees → Type 0
  AreWritable no_tree = ⊤
  AreWritable (tree value values) = IsWritable value × AreWritable values

  -- members that can be written
  pub AreWritableMembers : Members → Type 0
  AreWritableMembers no_member = ⊤
  AreWritableMembers (member name value members) =
      IsXml name × IsWritable value × AreWritableMembers members

-- a call that can be written; the method's name is not empty
abbrev pub IsWritableCall : CallTree → Type 0
IsWritableCall call = IsXml call.method × (call.method ≢ []) × AreWritable call.params

-- a reply that can be written
abbrev pub IsWritableReply : Reply → Type 0
IsWritableReply (Returns value) = IsWritable value
IsWritableReply (Faults number content) = Has64Bits number × IsXml content
