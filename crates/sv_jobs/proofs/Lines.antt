-- The lines of the console, byte by byte.
use Rattle.std.proofs.Common.{◌≡◌, ◌≢◌, ◌≤◌, ◌<◌, ◌++◌, ◌∷◌, ◌∙◌, ℕ, Bool, true, false, List, [], Option, None, Some, ap, append_assoc, append-nil, arith, length, refl, sym}
use Rattle.std.proofs.lemmas.Bool.{ltb-true, lt-ltb}
use Rattle.std.proofs.lemmas.Bool.Decides.{nat_tests}
use Rattle.std.proofs.lemmas.Grind.{flat_map-append}
use Rattle.std.proofs.lemmas.List.{length-append, length-take, take-append-le, take_all}
use Rattle.std.proofs.lemmas.List.Elements.{All-append, All-cons, All-nil, filter_map-append}
use Rattle.std.proofs.lemmas.Str.{is_utf8-from_IsUtf8, IsUtf8-from_is_utf8}
use Rattle.std.specs.List.{cons_option, flat_map}
use Rattle.std.specs.Prelude.{All, IfOk, Result, Ok, Err, nat_lt, option_to_list}
use Rattle.std.specs.Str.{IsUtf8, is_utf8}
use Rattle.sv_jobs.specs.ConsoleLines.{IsPlain, asked, kept, kept_limit, line_limit, note_of, notes_of, parted, with_feed}
use Rattle.sv_jobs.specs.declared.notes.Note.{Note}

-- ---- the note of a line

noted : (line : List ℕ) (note : Option Note) → nat_lt line_limit (length line) ≡ false → IsUtf8 line → note ≡ asked (parted line) → note ≡ note_of line
noted line note short valid is = rw (short, is_utf8-from_IsUtf8 line valid) is

pub noted_text : {E : Type 0} (line text : List ℕ) (note : Result (Option Note) E) → length line ≤ line_limit → IsUtf8 line → text ≡ line
    → IfOk note (λ n. n ≡ asked (parted text)) → IfOk note (λ n. n ≡ note_of line)
noted_text line text (Ok note) short valid same is =
    noted line note (grind (arith, nat_tests)) valid (is ∙ ap (λ t. asked (parted t)) same)
noted_text line text (Err error) short valid same is = tt

unnoted_by : (long valid : Bool) (line : List ℕ) → nat_lt line_limit (length line) ≡ long → is_utf8 line ≡ valid → (IsUtf8 line → ⊥) → None ≡ note_of line
unnoted_by true valid line l v bad = rw l refl
unnoted_by false false line l v bad = rw (l, v) refl
unnoted_by false true line l v bad = absurd (bad (IsUtf8-from_is_utf8 line v))

pub unnoted : (line : List ℕ) → (IsUtf8 line → ⊥) → None ≡ note_of line
unnoted line bad = unnoted_by (nat_lt line_limit (length line)) (is_utf8 line) line refl refl bad

-- ---- what is kept of a line

pub pushed : (held held_after : List ℕ) (byte : ℕ) → length held < kept_limit → held_after ≡ held ++ byte ∷ []
    → held_after ≡ kept (held ++ byte ∷ [])
pushed held held_after byte few is =
    is ∙ sym (take_all kept_limit (held ++ byte ∷ []) (omega (arith, length-append held (byte ∷ []))))

pub unpushed : (held : List ℕ) (byte : ℕ) → kept_limit ≤ length held → length held ≤ kept_limit → held ≡ kept (held ++ byte ∷ [])
unpushed held byte many few =
    sym (take-append-le kept_limit held (byte ∷ []) many ∙ take_all kept_limit held few)

kept_more_by : (long : Bool) (rest : List ℕ) (byte : ℕ) → nat_lt kept_limit (length rest) ≡ long
    → kept (kept rest ++ byte ∷ []) ≡ kept (rest ++ byte ∷ [])
kept_more_by false rest byte short =
    ap (λ l. kept (l ++ byte ∷ [])) (take_all kept_limit rest (grind (arith, nat_tests)))
kept_more_by true rest byte long =
    let more : kept_limit < length rest = ltb-true kept_limit (length rest) long in
    let size : length (kept rest) ≡ kept_limit = omega (arith, length-take kept_limit rest) in
    take-append-le kept_limit (kept rest) (byte ∷ []) (omega arith) ∙ take_all kept_limit (kept rest) (omega arith)
    ∙ sym (take-append-le kept_limit rest (byte ∷ []) (omega arith))

kept_more : (rest : List ℕ) (byte : ℕ) → kept (kept rest ++ byte ∷ []) ≡ kept (rest ++ byte ∷ [])
kept_more rest byte = kept_more_by (nat_lt kept_limit (length rest)) rest byte refl

noted_kept_by : (long : Bool) (rest : List ℕ) → nat_lt line_limit (length rest) ≡ long → note_of (kept rest) ≡ note_of rest
noted_kept_by false rest short = ap note_of (take_all kept_limit rest (grind (arith, nat_tests)))
noted_kept_by true rest long =
    let more : line_limit < length rest = ltb-true line_limit (length rest) long in
    let still : nat_lt line_limit (length (kept rest)) ≡ true =
    lt-ltb line_limit (length (kept rest)) (omega (arith, length-take kept_limit rest)) in
    rw (long, still) refl

noted_kept : (rest : List ℕ) → note_of (kept rest) ≡ note_of rest
noted_kept rest = noted_kept_by (nat_lt line_limit (length rest)) rest refl

-- ---- the lines of what was read

-- what was read is lines and the line in hand, and the notes of the lines were posted
pub record Heard (bytes held : List ℕ) (notes notes_after : List Note) : Type 0 where
  pub lines : List (List ℕ)
  pub rest : List ℕ
  pub whole : bytes ≡ flat_map with_feed lines ++ rest
  pub plain : All IsPlain lines
  pub open_end : IsPlain rest
  pub is : held ≡ kept rest
  pub posted : notes_after ≡ notes ++ notes_of lines

all_one : {X : Type 0} (P : X → Type 0) (x : X) → P x → All P (x ∷ [])
all_one P x holds = All-cons P x [] holds (All-nil P)

one : (note : Option Note) → cons_option note [] ≡ option_to_list note
one None = refl
one (Some note) = refl

notes_more : (lines : List (List ℕ)) (line : List ℕ) → notes_of (lines ++ line ∷ []) ≡ notes_of lines ++ option_to_list (note_of line)
notes_more lines line = filter_map-append note_of lines (line ∷ []) ∙ ap (λ n. notes_of lines ++ n) (one (note_of line))

pub heard_plain : (bytes held held_after : List ℕ) (k l m : List Note) (byte : ℕ) → Heard bytes held k l
    → byte ≢ 10 → held_after ≡ kept (held ++ byte ∷ []) → m ≡ l → Heard (bytes ++ byte ∷ []) held_after k m
heard_plain bytes held held_after k l m byte so plain is same = record {
  lines = so.lines;
  rest = so.rest ++ byte ∷ [];
  whole = ap (λ b. b ++ byte ∷ []) so.whole ∙ append_assoc (flat_map with_feed so.lines) so.rest (byte ∷ []);
  plain = so.plain;
  open_end = All-append (λ b. b ≢ 10) so.rest (byte ∷ []) so.open_end (all_one (λ b. b ≢ 10) byte plain);
  is = is ∙ ap (λ h. kept (h ++ byte ∷ [])) so.is ∙ kept_more so.rest byte;
  posted = same ∙ so.posted;
}

pub heard_feed : (bytes held held_after : List ℕ) (k l m : List Note) (byte : ℕ) → Heard bytes held k l
    → byte ≡ 10 → held_after ≡ [] → m ≡ l ++ option_to_list (note_of held) → Heard (bytes ++ byte ∷ []) held_after k m
heard_feed bytes held held_after k l m byte so feed is posts = record {
  lines = so.lines ++ so.rest ∷ [];
  rest = [];
  whole = ap (λ b. b ++ byte ∷ []) so.whole ∙ append_assoc (flat_map with_feed so.lines) so.rest (byte ∷ [])
      ∙ ap (λ b. flat_map with_feed so.lines ++ (so.rest ++ b ∷ [])) feed
      ∙ sym (rw (flat_map-append with_feed so.lines (so.rest ∷ []), append-nil (with_feed so.rest), append-nil (flat_map with_feed so.lines ++ with_feed so.rest)) refl);
  plain = All-append IsPlain so.lines (so.rest ∷ []) so.plain (all_one IsPlain so.rest so.open_end);
  open_end = All-nil (λ b. b ≢ 10);
  is = is;
  posted = posts ∙ ap (λ n. n ++ option_to_list (note_of held)) so.posted
      ∙ ap (λ h. (k ++ notes_of so.lines) ++ option_to_list (note_of h)) so.is
      ∙ ap (λ n. (k ++ notes_of so.lines) ++ option_to_list n) (noted_kept so.rest)
      ∙ append_assoc k (notes_of so.lines) (option_to_list (note_of so.rest))
      ∙ ap (λ n. k ++ n) (sym (notes_more so.lines so.rest));
}
