use Rattle.std.proofs.Common.{◌≡◌, ◌≤◌, ◌++◌, List, ℕ, true, length}
use Rattle.sv_letters.specs.Letters.{are_letters}
use Rattle.sv_letters.specs.declared.letters.Letters.TheVariants.{OfXml}
use Rattle.sv_letters.specs.declared.letters.Awaits.TheVariants.{Character}
use Rattle.sv_xmlcall.proofs.Texts.{Reaches}
use Rattle.sv_xmlcall.proofs.content.characters.Given as goal

abbrev pub invariant-loop-value : goal.invariant-loop-value
invariant-loop-value l = record {
  read : Reaches l.kept l.bytes l.value.items l.awaits l.rest;
  letters : (tail : List ℕ) → are_letters OfXml l.awaits tail ≡ true → are_letters OfXml Character (l.value.items ++ tail) ≡ true;
  shorter : length l.rest ≤ length l.bytes;
}

abbrev pub decreases-loop-value : goal.decreases-loop-value
decreases-loop-value l = length l.rest
