-- Which bytes begin a text that spells a call or a reply, and the good prefix of a text, the
-- longest one that does.
use Rattle.std.specs.Prelude.{◌≡◌, ◌≤◌, ℕ, List, ◌++◌, ◌⊎◌, length}
use Rattle.sv_xmlcall.specs.Tags.{spelling}
use Rattle.sv_xmlcall.specs.Trees.{CallTree, Reply}
use Rattle.sv_xmlcall.specs.Spells.{IsWhite, ValueText, printed_value, IsValue}
use Rattle.sv_xmlcall.specs.SpelledTexts.{HeadText, printed_head, IsHead, SpellsCall, SpellsReply}
use Rattle.sv_xmlcall.specs.declared.tag.Tag.TheVariants as tag

-- the bytes are a prefix of a text that spells a call
pub record BeginsCall (front : List ℕ) : Type 0 where
  pub rest : List ℕ
  pub call : CallTree
  pub spells : SpellsCall (front ++ rest) call

-- the bytes are a prefix of a text that spells a reply
pub record BeginsAnswer (front : List ℕ) : Type 0 where
  pub rest : List ℕ
  pub reply : Reply
  pub spells : SpellsReply (front ++ rest) reply

-- a reply up to the end of the value of a fault
pub record FaultText : Type 0 where
  pub head : HeadText
  pub before : List ℕ
  pub before_value : List ℕ
  pub value : ValueText

-- such a reply is right where its white space, its declaration and its value are
abbrev pub IsFaultText : FaultText → Type 0
IsFaultText fault =
    IsHead fault.head × IsWhite fault.before × IsWhite fault.before_value × IsValue fault.value

-- its bytes, from the declaration to the end of the value
abbrev pub printed_fault : FaultText → List ℕ
printed_fault fault =
    printed_head fault.head ++ spelling tag.MethodResponse ++ fault.before ++ spelling tag.Fault
    ++ fault.before_value ++ printed_value fault.value

-- the bytes are a prefix of such a reply
pub record BeginsFault (front : List ℕ) : Type 0 where
  pub rest : List ℕ
  pub text : FaultText
  pub right : IsFaultText text
  pub printed : printed_fault text ≡ front ++ rest

-- in a fault any value may stand until it is whole
abbrev pub BeginsReply : List ℕ → Type 0
BeginsReply front = BeginsAnswer front ⊎ BeginsFault front

-- the longest prefix of the bytes that has a property
pub record IsLongest (Begins : List ℕ → Type 0) (bytes front : List ℕ) : Type 0 where
  pub begins : Begins front
  pub rest : List ℕ
  pub parts : bytes ≡ front ++ rest
  pub longest : (other more : List ℕ) → bytes ≡ other ++ more → Begins other
      → length other ≤ length front
