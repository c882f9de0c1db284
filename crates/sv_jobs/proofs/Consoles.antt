-- The pieces of the console.
use Rattle.std.proofs.Common.{◌≡◌, ◌≢◌, ◌++◌, ◌∷◌, ◌∙◌, ◌+◌, ◌<◌, ℕ, List, [], Option, ap, append_assoc, append-nil, drop, get_or, length, refl, subst, sym, take}
use Rattle.std.proofs.KnownBytes.{Consumes-nil, Consumes-trans}
use Rattle.std.proofs.Math.Seq.{take-length}
use Rattle.std.proofs.lemmas.List.{take_more, take-append-drop}
use Rattle.std.proofs.lemmas.List.Elements.{All-nil}
use Rattle.std.specs.Io.KnownBytes.{Consumes, IsAtEnd}
use Rattle.std.specs.List.{flat_map}
use Rattle.std.specs.Prelude.{option_to_list}
use Rattle.sv_jobs.proofs.Lines.{Heard, heard_feed, heard_plain}
use Rattle.sv_jobs.specs.ConsoleLines.{IsPlain, kept, note_of, with_feed}
use Rattle.sv_jobs.specs.Consoling.{Consoled, Consoling}
use Rattle.sv_jobs.specs.declared.notes.Note.{Note}
use Rattle.sv_jobs.specs.declared.notes.Note.TheVariants.{NoMemory}
use Rattle.sv_outside.specs.declared.jobs.PumpEnd.{PumpEnd}
use Rattle.sv_outside.specs.declared.jobs.PumpEnd.TheVariants.{Ended, OutOfMemory}

-- all pieces so far were heard
pub record HeardSoFar (left left_after : Option (List ℕ)) (held : List ℕ) (notes notes_after : List Note) : Type 0 where
  pub bytes : List ℕ
  pub consumed : Consumes left left_after bytes
  pub heard : Heard bytes held notes notes_after

-- of the last piece, the bytes up to a place were heard
pub record HearsPiece (left left_after : Option (List ℕ)) (piece : List ℕ) (at : ℕ) (held : List ℕ) (notes notes_after : List Note) : Type 0 where
  pub before : List ℕ
  pub consumed : Consumes left left_after (before ++ piece)
  pub heard : Heard (before ++ take at piece) held notes notes_after

pub heard_none : (a : Option (List ℕ)) (held : List ℕ) (k : List Note) → held ≡ [] → HeardSoFar a a held k k
heard_none a held k is = record {
  bytes = [];
  consumed = Consumes-nil a;
  heard = record {
    lines = [];
    rest = [];
    whole = refl;
    plain = All-nil IsPlain;
    open_end = All-nil (λ b. b ≢ 10);
    is = is;
    posted = sym (append-nil k);
  };
}

pub piece_begins : (a b c : Option (List ℕ)) (piece took held : List ℕ) (k l : List Note) → HeardSoFar a b held k l → Consumes b c took
    → piece ≡ took → HearsPiece a c piece 0 held k l
piece_begins a b c piece took held k l so takes is = record {
  before = so.bytes;
  consumed = Consumes-trans a b c so.bytes piece so.consumed (subst (Consumes b c) (sym is) takes);
  heard = subst (λ bytes. Heard bytes held k l) (sym (append-nil so.bytes)) so.heard;
}

pub piece_ends : (a b : Option (List ℕ)) (piece : List ℕ) (at : ℕ) (held : List ℕ) (k l : List Note) → at ≡ length piece
    → HearsPiece a b piece at held k l → HeardSoFar a b held k l
piece_ends a b piece at held k l is so = record {
  bytes = so.before ++ piece;
  consumed = so.consumed;
  heard = subst (λ bytes. Heard bytes held k l) (ap (λ n. so.before ++ take n piece) is ∙ ap (λ p. so.before ++ p) (take-length piece)) so.heard;
}

place_on : (before piece : List ℕ) (at byte : ℕ) → at < length piece → byte ≡ get_or piece at 0
    → (before ++ take at piece) ++ byte ∷ [] ≡ before ++ take (at + 1) piece
place_on before piece at byte inside is =
    append_assoc before (take at piece) (byte ∷ [])
    ∙ ap (λ b. before ++ (take at piece ++ b ∷ [])) is
    ∙ ap (λ p. before ++ p) (sym (take_more piece at 0 inside))

pub hears_plain : (a b : Option (List ℕ)) (piece : List ℕ) (at byte : ℕ) (held held_after : List ℕ) (k l m : List Note) → at < length piece
    → byte ≡ get_or piece at 0 → HearsPiece a b piece at held k l → byte ≢ 10 → held_after ≡ kept (held ++ byte ∷ []) → m ≡ l
    → HearsPiece a b piece (at + 1) held_after k m
hears_plain a b piece at byte held held_after k l m inside here so plain is same = record {
  before = so.before;
  consumed = so.consumed;
  heard = subst (λ bytes. Heard bytes held_after k m) (place_on so.before piece at byte inside here)
      (heard_plain (so.before ++ take at piece) held held_after k l m byte so.heard plain is same);
}

pub hears_feed : (a b : Option (List ℕ)) (piece : List ℕ) (at byte : ℕ) (held held_after : List ℕ) (k l m : List Note) → at < length piece
    → byte ≡ get_or piece at 0 → HearsPiece a b piece at held k l → byte ≡ 10 → held_after ≡ [] → m ≡ l ++ option_to_list (note_of held)
    → HearsPiece a b piece (at + 1) held_after k m
hears_feed a b piece at byte held held_after k l m inside here so feed is posts = record {
  before = so.before;
  consumed = so.consumed;
  heard = subst (λ bytes. Heard bytes held_after k m) (place_on so.before piece at byte inside here)
      (heard_feed (so.before ++ take at piece) held held_after k l m byte so.heard feed is posts);
}

-- memory was refused inside a piece
pub console_refused : (a b : Option (List ℕ)) (piece : List ℕ) (at : ℕ) (held : List ℕ) (k l m : List Note)
    → HearsPiece a b piece at held k l → m ≡ l → Consoling OutOfMemory a b k m
console_refused a b piece at held k l m so same = record {
  lines = so.heard.lines;
  rest = so.heard.rest ++ drop at piece;
  bytes = subst (Consumes a b)
      (ap (λ p. so.before ++ p) (sym (take-append-drop at piece)) ∙ sym (append_assoc so.before (take at piece) (drop at piece))
      ∙ ap (λ p. p ++ drop at piece) so.heard.whole ∙ append_assoc (flat_map with_feed so.heard.lines) so.heard.rest (drop at piece))
      so.consumed;
  plain = so.heard.plain;
  open_end = λ no. absurd (no refl);
  posted = same ∙ so.heard.posted;
  whole = λ is. cc;
}

-- nothing more was read
pub console_ended : (end : PumpEnd) (a b c : Option (List ℕ)) (held : List ℕ) (k l : List Note)
    → HeardSoFar a b held k l → Consumes b c [] → (end ≡ Ended → IsAtEnd c) → Consoling end a c k l
console_ended end a b c held k l so took whole = record {
  lines = so.heard.lines;
  rest = so.heard.rest;
  bytes = subst (Consumes a c) (append-nil so.bytes ∙ so.heard.whole) (Consumes-trans a b c so.bytes [] so.consumed took);
  plain = so.heard.plain;
  open_end = λ no. so.heard.open_end;
  posted = so.heard.posted;
  whole = whole;
}

-- memory was refused before anything was read
pub console_unmade : (a : Option (List ℕ)) (k m : List Note) → m ≡ k ++ NoMemory ∷ [] → Consoled OutOfMemory a a k m
console_unmade a k m posts = record {
  lines = [];
  rest = [];
  bytes = Consumes-nil a;
  plain = All-nil IsPlain;
  open_end = λ no. All-nil (λ b. b ≢ 10);
  posted = posts ∙ ap (λ n. n ++ NoMemory ∷ []) (sym (append-nil k));
  whole = λ is. cc;
}
