-- A head of lines: its length.
use Rattle.std.proofs.Common.{◌≡◌, ◌==◌, ◌+◌, ◌&&◌, ◌||◌, ◌++◌, ◌∷◌, ℕ, suc, List, [], Bool, true, false, Option, Some, None, length, refl, sym, ap, ◌∙◌, arith, codes, append_assoc, length-append}
use Rattle.std.specs.Prelude.{option_map, not, if◌then◌else◌}
use Rattle.std.specs.List.{flat_map, list_all}
use Rattle.std.proofs.lemmas.Bool.{and_parts}
use Rattle.sv_http.specs.ReplyText.{line}
use Rattle.sv_http.specs.RequestStream.{head_length, is_begun}

-- not a line feed
abbrev pub is_inner : ℕ → Bool
is_inner byte = not (byte == 10)

-- a line that isn't empty, with no line feed in it
pub record IsLine (text : List ℕ) : Type 0 where
  pub begun : is_begun text ≡ true
  pub inner : list_all is_inner text ≡ true

pub data AreLines : List (List ℕ) → Type 0 where
  none : AreLines []
  more : {text : List ℕ} {lines : List (List ℕ)} → IsLine text → AreLines lines → AreLines (text ∷ lines)

-- the lines and the empty one
abbrev pub head_of : List (List ℕ) → List ℕ
head_of lines = flat_map line lines ++ codes "\r\n"

inner_byte : (byte : ℕ) (bytes : List ℕ) (test : Bool) → (byte == 10) ≡ test → not test ≡ true
    → head_length (byte ∷ bytes) ≡ option_map (λ size. 1 + size) (head_length bytes)
inner_byte byte bytes true is inner = cc
inner_byte byte bytes false is inner = rw is refl

shifted : (n : ℕ) (found : Option ℕ)
    → option_map (λ size. 1 + size) (option_map (λ size. n + size) found) ≡ option_map (λ size. suc n + size) found
shifted n None = refl
shifted n (Some size) = ap Some (omega arith)

unshifted : (found : Option ℕ) → found ≡ option_map (λ size. 0 + size) found
unshifted None = refl
unshifted (Some size) = ap Some (omega arith)

-- bytes without a line feed
passes : (text rest : List ℕ) → list_all is_inner text ≡ true
    → head_length (text ++ rest) ≡ option_map (λ size. length text + size) (head_length rest)
passes [] rest inner = unshifted (head_length rest)
passes (byte ∷ text) rest inner =
    let parts = and_parts (is_inner byte) (list_all is_inner text) inner in
    inner_byte byte (text ++ rest) (byte == 10) refl parts.0
    ∙ ap (option_map (λ size. 1 + size)) (passes text rest parts.1) ∙ shifted (length text) (head_length rest)

begun_line : (byte : ℕ) (bytes : List ℕ) (feed return : Bool) → (byte == 10) ≡ feed → (byte == 13) ≡ return
    → is_begun (byte ∷ bytes) ≡ true
    → head_length (10 ∷ byte ∷ bytes) ≡ option_map (λ size. 1 + size) (head_length (byte ∷ bytes))
begun_line byte bytes true return is other begun = absurd (let never : is_begun (byte ∷ bytes) ≡ false = rw is (by_return (byte == 13)) in cc)
  where
    by_return : (test : Bool) → (if test || true then false else true) ≡ false
    by_return true = refl
    by_return false = refl
begun_line byte bytes false true is other begun = absurd (let never : is_begun (byte ∷ bytes) ≡ false = rw other refl in cc)
begun_line byte bytes false false is other begun = rw (is, other) refl

feed_then : (text rest : List ℕ) → is_begun text ≡ true
    → head_length (10 ∷ text ++ rest) ≡ option_map (λ size. 1 + size) (head_length (text ++ rest))
feed_then [] rest begun = absurd cc
feed_then (byte ∷ text) rest begun = begun_line byte (text ++ rest) (byte == 10) (byte == 13) refl refl begun

regrouped : (text : List ℕ) (lines : List (List ℕ)) → head_of (text ∷ lines) ≡ text ++ 13 ∷ 10 ∷ head_of lines
regrouped text lines = simp append_assoc

line_size : (size : ℕ) (text rest : List ℕ) → size ≡ length rest → length text + (1 + (1 + size)) ≡ length (text ++ 13 ∷ 10 ∷ rest)
line_size size text rest is = omega (arith, is, length-append text (13 ∷ 10 ∷ rest))

passes_line : (text : List ℕ) (lines : List (List ℕ)) → list_all is_inner text ≡ true
    → head_length (10 ∷ head_of lines) ≡ Some (1 + length (head_of lines))
    → head_length (text ++ 13 ∷ 10 ∷ head_of lines) ≡ Some (length (text ++ 13 ∷ 10 ∷ head_of lines))
passes_line text lines inner behind =
    passes text (13 ∷ 10 ∷ head_of lines) inner
    ∙ ap (λ found. option_map (λ size. length text + size) (option_map (λ size. 1 + size) found)) behind
    ∙ ap Some (line_size (length (head_of lines)) text (head_of lines) refl)

-- after the line feed of a line
behind_feed : (lines : List (List ℕ)) → AreLines lines → head_length (10 ∷ head_of lines) ≡ Some (1 + length (head_of lines))
behind_feed [] none = refl
behind_feed (text ∷ lines) (more line_is are) =
    rw (regrouped text lines)
    (feed_then text (13 ∷ 10 ∷ head_of lines) line_is.begun
    ∙ ap (option_map (λ size. 1 + size)) (passes_line text lines line_is.inner (behind_feed lines are)))

-- lines and the empty one are a whole head
pub whole_head : (text : List ℕ) (lines : List (List ℕ)) → IsLine text → AreLines lines
    → head_length (head_of (text ∷ lines)) ≡ Some (length (head_of (text ∷ lines)))
whole_head text lines line_is are =
    rw (regrouped text lines) (passes_line text lines line_is.inner (behind_feed lines are))
