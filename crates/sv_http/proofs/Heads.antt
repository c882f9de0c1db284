-- The first empty line of a head.
use Rattle.std.proofs.Common.{◌≡◌, ◌+◌, ◌<◌, ◌==◌, ◌&&◌, ℕ, List, [], ◌∷◌, ◌++◌, length, take, Option, None, Some, Bool, true, false, refl, sym, ap, ◌∙◌, subst, get_or, arith, append_assoc, length-append, if◌then◌else◌}
use Rattle.std.specs.Prelude.{option_map}
use Rattle.std.proofs.lemmas.Bool.Decides.{nat_tests}
use Rattle.std.proofs.lemmas.List.{take_more}
use Rattle.sv_http.specs.RequestStream.{head_length, begins}
use Rattle.sv_http.specs.ReaderPlaces.{pending, after, IsSearched, IsFound}
use Rattle.sv_http.specs.declared.line.Line.{Line}
use Rattle.sv_http.specs.declared.line.Line.TheVariants as line

pub eq_true : (a b : ℕ) → (a == b) ≡ true → a ≡ b
eq_true a b e = grind (arith, nat_tests)

-- what holds of both arms of a choice
pub by_test : {A : Type 0} (P : A → Type 0) (test : Bool) (one other : A) → (test ≡ true → P one) → (test ≡ false → P other)
    → P (if test then one else other)
by_test P true one other holds fails = holds refl
by_test P false one other holds fails = fails refl

-- where a further byte leaves the search
abbrev pub Steps : List ℕ → Option Line → Type 0
Steps bytes None = IsFound bytes
Steps bytes (Some at) = IsSearched bytes at

-- an empty line begins with a line feed
other_byte : (byte : ℕ) (bytes : List ℕ) → (byte == 10) ≡ false
    → head_length (byte ∷ bytes) ≡ option_map (λ size. 1 + size) (head_length bytes)
other_byte byte bytes e =
    ap (λ (test : Bool). if test && begins (10 ∷ []) bytes then Some 2
    else if test && begins (13 ∷ 10 ∷ []) bytes then Some 3
    else option_map (λ size. 1 + size) (head_length bytes)) e

-- after a line feed
other_line : (byte : ℕ) (bytes : List ℕ) → (byte == 10) ≡ false → (byte == 13) ≡ false
    → head_length (10 ∷ byte ∷ bytes) ≡ option_map (λ size. 1 + size) (head_length (byte ∷ bytes))
other_line byte bytes e f =
    ap (λ (test : Bool). if test && begins [] bytes then Some 2
    else if (byte == 13) && begins (10 ∷ []) bytes then Some 3
    else option_map (λ size. 1 + size) (head_length (byte ∷ bytes))) e
    ∙ ap (λ (test : Bool). if test && begins (10 ∷ []) bytes then Some 3
    else option_map (λ size. 1 + size) (head_length (byte ∷ bytes))) f

shifts : (a b : ℕ) (found : Option ℕ)
    → option_map (λ size. a + size) (option_map (λ size. b + size) found) ≡ option_map (λ size. (a + b) + size) found
shifts a b None = refl
shifts a b (Some size) = ap Some (omega arith)

pub unshifted : (found : Option ℕ) → found ≡ option_map (λ size. 0 + size) found
unshifted None = refl
unshifted (Some size) = ap Some (omega arith)

text_steps : (byte : ℕ) → Steps (byte ∷ []) (after line.Text byte)
text_steps byte =
    by_test (Steps (byte ∷ [])) (byte == 10) (Some line.Feed) (Some line.Text)
    (λ feed. let is = eq_true byte 10 feed in
    ([], ap (λ b. b ∷ []) is, λ more. ap (λ b. head_length (b ∷ more)) is ∙ unshifted (head_length (10 ∷ more))))
    (λ other. (byte ∷ [], refl, λ more. other_byte byte more other))

feed_steps : (byte : ℕ) → Steps (10 ∷ byte ∷ []) (after line.Feed byte)
feed_steps byte =
    by_test (Steps (10 ∷ byte ∷ [])) (byte == 10) None (if byte == 13 then Some line.FeedReturn else Some line.Text)
    (λ feed. λ more. ap (λ b. head_length (10 ∷ b ∷ more)) (eq_true byte 10 feed))
    (λ other. by_test (Steps (10 ∷ byte ∷ [])) (byte == 13) (Some line.FeedReturn) (Some line.Text)
    (λ return. let is = eq_true byte 13 return in
    ([], ap (λ b. 10 ∷ b ∷ []) is, λ more. ap (λ b. head_length (10 ∷ b ∷ more)) is ∙ unshifted (head_length (10 ∷ 13 ∷ more))))
    (λ text. (
      10 ∷ byte ∷ [],
      refl,
      λ more. other_line byte more other text ∙ ap (option_map (λ size. 1 + size)) (other_byte byte more other) ∙ shifts 1 1 (head_length more),
    )))

return_steps : (byte : ℕ) → Steps (10 ∷ 13 ∷ byte ∷ []) (after line.FeedReturn byte)
return_steps byte =
    by_test (Steps (10 ∷ 13 ∷ byte ∷ [])) (byte == 10) None (Some line.Text)
    (λ feed. λ more. ap (λ b. head_length (10 ∷ 13 ∷ b ∷ more)) (eq_true byte 10 feed))
    (λ other. (
      10 ∷ 13 ∷ byte ∷ [],
      refl,
      λ more. ap (λ (test : Bool). if test && begins [] more then Some 3 else option_map (λ size. 1 + size) (head_length (13 ∷ byte ∷ more))) other
          ∙ ap (option_map (λ size. 1 + size)) (other_byte 13 (byte ∷ more) refl ∙ ap (option_map (λ size. 1 + size)) (other_byte byte more other))
          ∙ ap (option_map (λ size. 1 + size)) (shifts 1 1 (head_length more)) ∙ shifts 1 2 (head_length more),
    ))

pending_steps : (at : Line) (byte : ℕ) → Steps (pending at ++ byte ∷ []) (after at byte)
pending_steps line.Text byte = text_steps byte
pending_steps line.Feed byte = feed_steps byte
pending_steps line.FeedReturn byte = return_steps byte

-- a further byte, after all bytes that were looked at
pub one_more : (bytes : List ℕ) (at : Line) (byte : ℕ) (next : Option Line) → next ≡ after at byte → IsSearched bytes at → Steps (bytes ++ byte ∷ []) next
one_more bytes at byte next is searched = joined next (subst (λ (to : Option Line). Steps (pending at ++ byte ∷ []) to) (sym is) (pending_steps at byte))
  where
    regrouped : (more : List ℕ) → head_length ((bytes ++ byte ∷ []) ++ more)
        ≡ option_map (λ size. length searched.0 + size) (head_length ((pending at ++ byte ∷ []) ++ more))
    regrouped more =
        ap head_length (append_assoc bytes (byte ∷ []) more) ∙ searched.2 (byte ∷ more)
        ∙ ap (λ all. option_map (λ size. length searched.0 + size) (head_length all)) (sym (append_assoc (pending at) (byte ∷ []) more))

    whole : bytes ++ byte ∷ [] ≡ searched.0 ++ (pending at ++ byte ∷ [])
    whole = ap (λ all. all ++ byte ∷ []) searched.1 ∙ append_assoc searched.0 (pending at) (byte ∷ [])

    joined : (next : Option Line) → Steps (pending at ++ byte ∷ []) next → Steps (bytes ++ byte ∷ []) next
    joined None found = λ more.
        regrouped more ∙ ap (option_map (λ size. length searched.0 + size)) (found more)
        ∙ ap Some (sym (ap length whole ∙ length-append searched.0 (pending at ++ byte ∷ [])))
    joined (Some to) now = (
      searched.0 ++ now.0,
      whole ∙ ap (λ back. searched.0 ++ back) now.1 ∙ sym (append_assoc searched.0 now.0 (pending to)),
      λ more.
          regrouped more ∙ ap (option_map (λ size. length searched.0 + size)) (now.2 more)
          ∙ shifts (length searched.0) (length now.0) (head_length (pending to ++ more))
          ∙ ap (λ count. option_map (λ size. count + size) (head_length (pending to ++ more))) (sym (length-append searched.0 now.0)),
    )

-- the same where all bytes before were looked at after others
pub looked_more : (bytes : List ℕ) (count : ℕ) (from at : Line) (next : Option Line) → count < length bytes → next ≡ after at (get_or bytes count 0)
    → ((earlier : List ℕ) → IsSearched earlier from → IsSearched (earlier ++ take count bytes) at)
    → (earlier : List ℕ) → IsSearched earlier from → Steps (earlier ++ take (count + 1) bytes) next
looked_more bytes count from at next within is before = λ earlier searched.
    subst (λ (all : List ℕ). Steps all next)
    (append_assoc earlier (take count bytes) (get_or bytes count 0 ∷ []) ∙ ap (λ front. earlier ++ front) (sym (take_more bytes count 0 within)))
    (one_more (earlier ++ take count bytes) at (get_or bytes count 0) next is (before earlier searched))
