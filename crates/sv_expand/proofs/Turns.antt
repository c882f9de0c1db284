-- One character more of a text that is read from left to right: what is left of it goes on where the reading has come.
use Rattle.std.proofs.Common.{◌≡◌, ◌+◌, ℕ, List, [], ◌∷◌, ◌++◌, IsUtf8, length, ap, sym, ◌∙◌, arith}
use Rattle.std.specs.Prelude.{Result, Ok, encode_utf8}
use Rattle.std.specs.Str.{chars}
use Rattle.std.specs.Char.{len_utf8}
use Rattle.std.proofs.lemmas.Str.{chars-nil, chars_past_char, length-encode}
use Rattle.sv_expand.specs.Results.{and_then}
use Rattle.sv_expand.specs.Expansion as expansion
use Rattle.sv_expand.specs.Pairs as pairs
use Rattle.sv_expand.specs.Words as words
use Rattle.sv_expand.specs.declared.fault.ExpandFault.{ExpandFault}
use Rattle.sv_expand.specs.declared.fault.ExpandFault.TheVariants as expand
use Rattle.sv_expand.specs.declared.fault.PairFault.{PairFault}
use Rattle.sv_expand.specs.declared.fault.PairFault.TheVariants as pair
use Rattle.sv_expand.specs.declared.names.Names.{Names}

pub nothing_left : (rest : List ℕ) → length rest ≡ 0 → chars rest ≡ []
nothing_left [] none = chars-nil
nothing_left (b ∷ bs) none = absurd (omega arith)

-- a step that goes well, and then the rest
and_then_ok : {A B E : Type 0} (r : Result A E) (f : A → Result B E) (x : A) → r ≡ Ok x → and_then r f ≡ f x
and_then_ok r f x is = ap (λ r. and_then r f) is

pub word_turn : (rest more : List ℕ) (c : ℕ) (old new whole : words.Reached) → IsUtf8 rest → rest ≡ encode_utf8 c ++ more
    → new ≡ words.after c old → words.after_all (chars rest) old ≡ whole → words.after_all (chars more) new ≡ whole
word_turn rest more c old new whole text parts is same = rw is (rw (chars_past_char rest more c text parts) at same)

pub word_end : (rest : List ℕ) (reached whole : words.Reached) → length rest ≡ 0 → words.after_all (chars rest) reached ≡ whole → reached ≡ whole
word_end rest reached whole none same = rw (nothing_left rest none) at same

module _ (names : Names) where
  pub expansion_turn : (at given next : ℕ) (rest more : List ℕ) (c : ℕ) (old new : expansion.Reached) (whole : Result expansion.Reached ExpandFault)
      → IsUtf8 rest → rest ≡ encode_utf8 c ++ more → given ≡ at → next ≡ at + length (encode_utf8 c)
      → expansion.after names given c old ≡ Ok new → expansion.after_all names at (chars rest) old ≡ whole → expansion.after_all names next (chars more) new ≡ whole
  expansion_turn at given next rest more c old new whole text parts here place is same =
      let goes = λ (n : expansion.Reached). expansion.after_all names (at + len_utf8 c) (chars more) n in
      let there : next ≡ at + len_utf8 c = place ∙ ap (λ n. at + n) (length-encode c) in
      rw there (sym (and_then_ok (expansion.after names at c old) goes new (rw here at is)) ∙ (rw (chars_past_char rest more c text parts) at same))

  pub expansion_end : (at : ℕ) (rest : List ℕ) (reached : expansion.Reached) (whole : Result expansion.Reached ExpandFault) → length rest ≡ 0
      → expansion.after_all names at (chars rest) reached ≡ whole → whole ≡ Ok reached
  expansion_end at rest reached whole none same = sym (rw (nothing_left rest none) at same)

  pub expansion_fault : (at given : ℕ) (rest more : List ℕ) (c : ℕ) (old : expansion.Reached) (whole : Result expansion.Reached ExpandFault) (fault : ExpandFault)
      → IsUtf8 rest → rest ≡ encode_utf8 c ++ more → given ≡ at → expansion.IsFault fault (expansion.after names given c old)
      → expansion.after_all names at (chars rest) old ≡ whole → expansion.IsFault fault whole
  expansion_fault at given rest more c old whole expand.OutOfMemory text parts here is same = tt
  expansion_fault at given rest more c old whole (expand.Unknown name) text parts here is same =
      let goes = λ (n : expansion.Reached). expansion.after_all names (at + len_utf8 c) (chars more) n in
      sym (rw (chars_past_char rest more c text parts) at same) ∙ ap (λ r. and_then r goes) (rw here at is)
  expansion_fault at given rest more c old whole (expand.BadForm place) text parts here is same =
      let goes = λ (n : expansion.Reached). expansion.after_all names (at + len_utf8 c) (chars more) n in
      sym (rw (chars_past_char rest more c text parts) at same) ∙ ap (λ r. and_then r goes) (rw here at is)

pub pair_turn : (at given next : ℕ) (rest more : List ℕ) (c : ℕ) (old new : pairs.Reached) (whole : Result pairs.Reached PairFault)
    → IsUtf8 rest → rest ≡ encode_utf8 c ++ more → given ≡ at → next ≡ at + length (encode_utf8 c)
    → pairs.after given c old ≡ Ok new → pairs.after_all at (chars rest) old ≡ whole → pairs.after_all next (chars more) new ≡ whole
pair_turn at given next rest more c old new whole text parts here place is same =
    let goes = λ (n : pairs.Reached). pairs.after_all (at + len_utf8 c) (chars more) n in
    let there : next ≡ at + len_utf8 c = place ∙ ap (λ n. at + n) (length-encode c) in
    rw there (sym (and_then_ok (pairs.after at c old) goes new (rw here at is)) ∙ (rw (chars_past_char rest more c text parts) at same))

pub pair_end : (at : ℕ) (rest : List ℕ) (reached : pairs.Reached) (whole : Result pairs.Reached PairFault) → length rest ≡ 0
    → pairs.after_all at (chars rest) reached ≡ whole → whole ≡ Ok reached
pair_end at rest reached whole none same = sym (rw (nothing_left rest none) at same)

pub pair_fault : (at given : ℕ) (rest more : List ℕ) (c : ℕ) (old : pairs.Reached) (whole : Result pairs.Reached PairFault) (fault : PairFault)
    → IsUtf8 rest → rest ≡ encode_utf8 c ++ more → given ≡ at → pairs.IsFault fault (pairs.after given c old)
    → pairs.after_all at (chars rest) old ≡ whole → pairs.IsFault fault whole
pair_fault at given rest more c old whole pair.OutOfMemory text parts here is same = tt
pair_fault at given rest more c old whole (pair.BadPair place) text parts here is same =
    let goes = λ (n : pairs.Reached). pairs.after_all (at + len_utf8 c) (chars more) n in
    sym (rw (chars_past_char rest more c text parts) at same) ∙ ap (λ r. and_then r goes) (rw here at is)
