-- What a reader of a token has read is the token of what it gives, and each token is read again.
use Rattle.std.proofs.Common.{◌≡◌, ℕ, zero, suc, ◌+◌, ◌*◌, ◌-◌, ◌/◌, ◌%◌, ◌<◌, ◌≢◌, Bool, true, false, not, cond, ◌&&◌, eqb, ltb, leb, ◌⊎◌, List, [], ◌∷◌, ◌++◌, length, Result, Ok, Err, inl, inr, refl, sym, ap, ◌∙◌, subst, arith, append_assoc, IsUtf8, get_or}
use Rattle.std.proofs.lemmas.Bool.{false≢true, cases_Bool, cases_lt, lt-ltb, le-ltb, lt-leb, le-leb, ne_eqb, and_parts, and_from, or_cases, ltb-true, leb-true, eqb-true, not-true, not_from_false}
use Rattle.std.proofs.lemmas.List.Folds.{list_any_at}
use Rattle.sv_journal.specs.Spelling.{stands_for_itself, hex_digit, byte_spelling, bytes_spelling, token}
use Rattle.sv_journal.specs.Tokens.{escapes, is_hex, hex_value, sixteen, may_begin, is_first_digit, is_second_digit}
use Rattle.sv_letters.specs.Letters.{allows, after, is_whole}
use Rattle.sv_journal.specs.Escapes.{is_escape, begins_escape, is_first_of}
use Rattle.sv_journal.specs.Reading.{Stage, closed, token_from, with_first, is_lone, nonempty, token_at}
use Rattle.sv_journal.specs.Reading.Stage.{Between, Percent, Digit}
use Rattle.sv_letters.specs.declared.letters.Letters.{Letters}
use Rattle.sv_letters.specs.declared.letters.Letters.TheVariants.{OfText, OfName, OfBytes, OfXml}
use Rattle.sv_letters.specs.declared.letters.Awaits.{Awaits}
use Rattle.sv_letters.specs.declared.letters.Awaits.TheVariants.{Character, Private, Continuation}
use Rattle.sv_letters.proofs.LetterLaws.{IsText, read_utf8}
use Rattle.sv_journal.proofs.Letters.{accepts, read_accepted}
use Rattle.sv_journal.proofs.Results.{ok_pair}

abbrev pub before : Stage → List ℕ
before (Between awaits) = []
before (Percent awaits) = 37 ∷ []
before (Digit awaits high) = 37 ∷ hex_digit high ∷ []

abbrev pub awaited : Stage → Awaits
awaited (Between awaits) = awaits
awaited (Percent awaits) = awaits
awaited (Digit awaits high) = awaits

abbrev pub FitsStage : Stage → Type 0
FitsStage (Between awaits) = Unit {0}
FitsStage (Percent awaits) = Unit {0}
FitsStage (Digit awaits high) = high < 16

pub record Taken (letters : Letters) (stage : Stage) (bs v rest : List ℕ) : Type 0 where
  pub same : before stage ++ bs ≡ bytes_spelling v ++ rest
  pub good : accepts letters (awaited stage) v ≡ true

pub record Split (x : ℕ) (r : Result (List ℕ × List ℕ) ℕ) (v rest : List ℕ) : Type 0 where
  pub w : List ℕ
  pub is : v ≡ x ∷ w
  pub read : r ≡ Ok (w, rest)

pub with_first_ok : (x : ℕ) (r : Result (List ℕ × List ℕ) ℕ) (v rest : List ℕ) → with_first x r ≡ Ok (v, rest) → Split x r v rest
with_first_ok x (Ok r) v rest e =
    let p = ok_pair (x ∷ r.0) v r.1 rest e in
    record { w = r.0; is = sym p.0; read = ap (λ (q : List ℕ). Ok (r.0, q)) p.1 }
with_first_ok x (Err left) v rest e = cc e

closed_ok : (awaits : Awaits) (bs v rest : List ℕ) → closed awaits bs ≡ Ok (v, rest) → (is_whole awaits ≡ true) × (v ≡ []) × (rest ≡ bs)
closed_ok Character bs v rest e = let p = ok_pair [] v bs rest e in (refl, sym p.0, sym p.1)
closed_ok Private bs v rest e = cc e
closed_ok (Continuation low high more) bs v rest e = cc e

pub hex_below : (d : ℕ) → is_hex d ≡ true → hex_value d < 16
hex_below d h = elim (or_cases (leb 48 d && leb d 57) (leb 65 d && leb d 70) h) [
  | inl e ↦
      let p = and_parts (leb 48 d) (leb d 57) e in
      let u = leb-true d 57 p.1 in
      rw p.1 (omega arith)
  | inr e ↦
      let p = and_parts (leb 65 d) (leb d 70) e in
      let l = leb-true 65 d p.0 in
      let u = leb-true d 70 p.1 in
      rw (lt-leb d 57 (omega arith)) (omega arith)
]

pub hex_again : (d : ℕ) → is_hex d ≡ true → hex_digit (hex_value d) ≡ d
hex_again d h = elim (or_cases (leb 48 d && leb d 57) (leb 65 d && leb d 70) h) [
  | inl e ↦
      let p = and_parts (leb 48 d) (leb d 57) e in
      let l = leb-true 48 d p.0 in
      let u = leb-true d 57 p.1 in
      rw (p.1, lt-ltb (d - 48) 10 (omega arith)) (omega arith)
  | inr e ↦
      let p = and_parts (leb 65 d) (leb d 70) e in
      let l = leb-true 65 d p.0 in
      let u = leb-true d 70 p.1 in
      rw (lt-leb d 57 (omega arith), le-ltb (d - 55) 10 (omega arith)) (omega arith)
]

pub itself_small : (b : ℕ) → stands_for_itself b ≡ true → b < 127
itself_small b e =
    let p = and_parts (leb 33 b && leb b 126) (not (eqb b 37)) e in
    let q = and_parts (leb 33 b) (leb b 126) p.0 in
    let u = leb-true b 126 q.1 in
    omega arith

pub spelled_itself : (b : ℕ) → stands_for_itself b ≡ true → byte_spelling b ≡ b ∷ []
spelled_itself b e = go (stands_for_itself b) e
  where
    go : (t : Bool) → t ≡ true → cond t (b ∷ []) (37 ∷ hex_digit (b / 16) ∷ hex_digit (b % 16) ∷ []) ≡ b ∷ []
    go true e = refl
    go false e = absurd (false≢true e)

pub spelled_escaped : (b : ℕ) → stands_for_itself b ≡ false → byte_spelling b ≡ 37 ∷ hex_digit (b / 16) ∷ hex_digit (b % 16) ∷ []
spelled_escaped b e = go (stands_for_itself b) e
  where
    go : (t : Bool) → t ≡ false → cond t (b ∷ []) (37 ∷ hex_digit (b / 16) ∷ hex_digit (b % 16) ∷ []) ≡ 37 ∷ hex_digit (b / 16) ∷ hex_digit (b % 16) ∷ []
    go false e = refl
    go true e = cc e

-- the two ways of a choice
pub chosen : {X : Type 0} (t : Bool) (x y z : X) → cond t x y ≡ z → ((t ≡ true) × (x ≡ z)) ⊎ ((t ≡ false) × (y ≡ z))
chosen true x y z e = inl (refl, e)
chosen false x y z e = inr (refl, e)

pub accepts_one : (letters : Letters) (awaits : Awaits) (b : ℕ) (bs : List ℕ) → b < 256 → allows letters awaits b ≡ true
    → accepts letters (after letters awaits b) bs ≡ true → accepts letters awaits (b ∷ bs) ≡ true
accepts_one letters awaits b bs small a e =
    and_from (ltb b 256 && allows letters awaits b) (accepts letters (after letters awaits b) bs) (and_from (ltb b 256) (allows letters awaits b) (lt-ltb b 256 small) a) e

pub token_takes : (letters : Letters) (stage : Stage) (bs v rest : List ℕ) → FitsStage stage → token_from letters stage bs ≡ Ok (v, rest) → Taken letters stage bs v rest
token_takes letters (Between awaits) [] v rest fit e =
    let p = closed_ok awaits [] v rest e in
    record { same = rw (p.1, p.2) refl; good = rw p.1 p.0 }
token_takes letters (Between awaits) (b ∷ bs) v rest fit e = elim (chosen (eqb b 37) _ _ _ e) [
  | inl p ↦
      let r = token_takes letters (Percent awaits) bs v rest tt p.1 in
      record { same = rw (eqb-true b 37 p.0) r.same; good = r.good }
  | inr p ↦ elim (chosen (stands_for_itself b && allows letters awaits b) _ _ _ p.1) [
    | inl q ↦
        let s = and_parts (stands_for_itself b) (allows letters awaits b) q.0 in
        let w = with_first_ok b (token_from letters (Between (after letters awaits b)) bs) v rest q.1 in
        let r = token_takes letters (Between (after letters awaits b)) bs w.w rest tt w.read in
        record {
          same = ap (λ (l : List ℕ). b ∷ l) r.same ∙ ap (λ (l : List ℕ). (l ++ bytes_spelling w.w) ++ rest) (sym (spelled_itself b s.0)) ∙ ap (λ (l : List ℕ). bytes_spelling l ++ rest) (sym w.is);
          good = rw w.is (accepts_one letters awaits b w.w (let h = itself_small b s.0 in omega arith) s.1 r.good);
        }
    | inr q ↦
        let c = closed_ok awaits (b ∷ bs) v rest q.1 in
        record { same = rw (c.1, c.2) refl; good = rw c.1 c.0 }
  ]
]
token_takes letters (Percent awaits) [] v rest fit e = cc e
token_takes letters (Percent awaits) (d ∷ bs) v rest fit e = elim (chosen (is_first_digit letters awaits d) _ _ _ e) [
  | inl p ↦
      let h = and_parts (is_hex d) (may_begin letters awaits (hex_value d)) p.0 in
      let r = token_takes letters (Digit awaits (hex_value d)) bs v rest (hex_below d h.0) p.1 in
      record { same = ap (λ (x : ℕ). 37 ∷ x ∷ bs) (sym (hex_again d h.0)) ∙ r.same; good = r.good }
  | inr p ↦ cc p.1
]
token_takes letters (Digit awaits high) [] v rest fit e = cc e
token_takes letters (Digit awaits high) (d ∷ bs) v rest fit e = elim (chosen (is_second_digit letters awaits high d) _ _ _ e) [
  | inl p ↦
      let h = and_parts (is_hex d) (escapes letters awaits (16 * high + hex_value d)) p.0 in
      let x = 16 * high + hex_value d in
      let s = and_parts (allows letters awaits x) (not (stands_for_itself x)) h.1 in
      let low = hex_below d h.0 in
      let w = with_first_ok x (token_from letters (Between (after letters awaits x)) bs) v rest p.1 in
      let r = token_takes letters (Between (after letters awaits x)) bs w.w rest tt w.read in
      let top : x / 16 ≡ high = omega arith in
      let bottom : x % 16 ≡ hex_value d = omega arith in
      let spelled : byte_spelling x ≡ 37 ∷ hex_digit high ∷ d ∷ [] =
      spelled_escaped x (not-true (stands_for_itself x) s.1) ∙ ap (λ (y : ℕ). 37 ∷ hex_digit y ∷ hex_digit (x % 16) ∷ []) top ∙ ap (λ (y : ℕ). 37 ∷ hex_digit high ∷ y ∷ []) (ap hex_digit bottom ∙ hex_again d h.0) in
      record {
        same = ap (λ (l : List ℕ). 37 ∷ hex_digit high ∷ d ∷ l) r.same ∙ ap (λ (l : List ℕ). (l ++ bytes_spelling w.w) ++ rest) (sym spelled) ∙ ap (λ (l : List ℕ). bytes_spelling l ++ rest) (sym w.is);
        good = rw w.is (accepts_one letters awaits x w.w (omega arith) s.0 r.good);
      }
  | inr p ↦ cc p.1
]

-- a token of these letters ends before this
abbrev pub closes : Letters → List ℕ → Bool
closes letters [] = true
closes letters (b ∷ bs) = not (eqb b 37) && not (stands_for_itself b && allows letters Character b)

-- whatever its letters are, a token ends before this
abbrev pub ends : List ℕ → Bool
ends [] = true
ends (b ∷ bs) = not (eqb b 37) && not (stands_for_itself b)

pub closed_there : {X : Type 0} (p q : Bool) (x y z : X) → p ≡ false → q ≡ false → cond p x (cond q y z) ≡ z
closed_there false false x y z e f = refl
closed_there true q x y z e f = cc e
closed_there false true x y z e f = cc f

pub stops : (letters : Letters) (rest : List ℕ) → closes letters rest ≡ true → token_from letters (Between Character) rest ≡ Ok ([], rest)
stops letters [] e = refl
stops letters (b ∷ bs) e =
    let p = and_parts (not (eqb b 37)) (not (stands_for_itself b && allows letters Character b)) e in
    closed_there (eqb b 37) (stands_for_itself b && allows letters Character b) _ _ _ (not-true (eqb b 37) p.0) (not-true (stands_for_itself b && allows letters Character b) p.1)

pub ends_closes : (letters : Letters) (rest : List ℕ) → ends rest ≡ true → closes letters rest ≡ true
ends_closes letters [] e = refl
ends_closes letters (b ∷ bs) e =
    let p = and_parts (not (eqb b 37)) (not (stands_for_itself b)) e in
    and_from (not (eqb b 37)) (not (stands_for_itself b && allows letters Character b)) p.0 (neither (stands_for_itself b) (allows letters Character b) (not-true (stands_for_itself b) p.1))
  where
    neither : (s a : Bool) → s ≡ false → not (s && a) ≡ true
    neither false a e = refl
    neither true a e = cc e

pub digit_is_hex : (n : ℕ) → n < 16 → is_hex (hex_digit n) ≡ true
digit_is_hex n h = elim (cases_lt n 10) [
  | inl u ↦ rw (lt-ltb n 10 u, le-leb 48 (48 + n) (omega arith), le-leb (48 + n) 57 (omega arith)) refl
  | inr l ↦ rw (le-ltb n 10 l, le-leb 65 (55 + n) (omega arith), le-leb (55 + n) 70 (omega arith), lt-leb (55 + n) 57 (omega arith), le-leb 48 (55 + n) (omega arith)) refl
]

pub value_of_digit : (n : ℕ) → n < 16 → hex_value (hex_digit n) ≡ n
value_of_digit n h = elim (cases_lt n 10) [
  | inl u ↦ rw (lt-ltb n 10 u, le-leb (48 + n) 57 (omega arith)) (omega arith)
  | inr l ↦ rw (le-ltb n 10 l, lt-leb (55 + n) 57 (omega arith)) (omega arith)
]

sixteen_at : (k : ℕ) → k < 16 → get_or sixteen k 0 ≡ k
sixteen_at k h = agree k h
  where
    agree : (k : ℕ) → k < 16 → get_or sixteen k 0 ≡ k
    agree zero h = refl
    agree (suc zero) h = refl
    agree (suc (suc zero)) h = refl
    agree (suc (suc (suc zero))) h = refl
    agree (suc (suc (suc (suc zero)))) h = refl
    agree (suc (suc (suc (suc (suc zero))))) h = refl
    agree (suc (suc (suc (suc (suc (suc zero)))))) h = refl
    agree (suc (suc (suc (suc (suc (suc (suc zero))))))) h = refl
    agree (suc (suc (suc (suc (suc (suc (suc (suc zero)))))))) h = refl
    agree (suc (suc (suc (suc (suc (suc (suc (suc (suc zero))))))))) h = refl
    agree (suc (suc (suc (suc (suc (suc (suc (suc (suc (suc zero)))))))))) h = refl
    agree (suc (suc (suc (suc (suc (suc (suc (suc (suc (suc (suc zero))))))))))) h = refl
    agree (suc (suc (suc (suc (suc (suc (suc (suc (suc (suc (suc (suc zero)))))))))))) h = refl
    agree (suc (suc (suc (suc (suc (suc (suc (suc (suc (suc (suc (suc (suc zero))))))))))))) h = refl
    agree (suc (suc (suc (suc (suc (suc (suc (suc (suc (suc (suc (suc (suc (suc zero)))))))))))))) h = refl
    agree (suc (suc (suc (suc (suc (suc (suc (suc (suc (suc (suc (suc (suc (suc (suc zero))))))))))))))) h = refl
    agree (suc (suc (suc (suc (suc (suc (suc (suc (suc (suc (suc (suc (suc (suc (suc (suc n)))))))))))))))) h = absurd (omega arith)

begins : (comes : ℕ → Bool) (high low : ℕ) → low < 16 → is_escape comes (16 * high + low) ≡ true → begins_escape comes high ≡ true
begins comes high low h e =
    list_any_at (λ (k : ℕ). is_escape comes (16 * high + k)) sixteen low 0 h (ap (λ (k : ℕ). is_escape comes (16 * high + k)) (sixteen_at low h) ∙ e)

pub choose_true : {X : Type 0} (t : Bool) (x y : X) → t ≡ true → cond t x y ≡ x
choose_true true x y e = refl
choose_true false x y e = absurd (false≢true e)

pub first_of_again : (comes : ℕ → Bool) (b : ℕ) → b < 256 → is_escape comes b ≡ true → is_first_of comes (hex_digit (b / 16)) ≡ true
first_of_again comes b small e =
    let top : b / 16 < 16 = omega arith in
    let whole : 16 * (b / 16) + b % 16 ≡ b = omega arith in
    and_from (is_hex (hex_digit (b / 16))) (begins_escape comes (hex_value (hex_digit (b / 16)))) (digit_is_hex (b / 16) top)
    (ap (begins_escape comes) (value_of_digit (b / 16) top) ∙ begins comes (b / 16) (b % 16) (omega arith) (ap (is_escape comes) whole ∙ e))

pub first_again : (letters : Letters) (awaits : Awaits) (b : ℕ) → b < 256 → escapes letters awaits b ≡ true → is_first_digit letters awaits (hex_digit (b / 16)) ≡ true
first_again letters awaits b small e = first_of_again (allows letters awaits) b small e

-- the escape of a byte that may come is read as it
escape_again : (letters : Letters) (awaits : Awaits) (b : ℕ) (rest : List ℕ) → b < 256 → escapes letters awaits b ≡ true
    → token_from letters (Between awaits) (37 ∷ hex_digit (b / 16) ∷ hex_digit (b % 16) ∷ rest) ≡ with_first b (token_from letters (Between (after letters awaits b)) rest)
escape_again letters awaits b rest small e =
    let top : b / 16 < 16 = omega arith in
    let low : b % 16 < 16 = omega arith in
    let whole : 16 * (b / 16) + b % 16 ≡ b = omega arith in
    let e2 : escapes letters awaits (16 * (b / 16) + b % 16) ≡ true = ap (escapes letters awaits) whole ∙ e in
    let first : is_first_digit letters awaits (hex_digit (b / 16)) ≡ true =
    and_from (is_hex (hex_digit (b / 16))) (may_begin letters awaits (hex_value (hex_digit (b / 16)))) (digit_is_hex (b / 16) top)
    (ap (may_begin letters awaits) (value_of_digit (b / 16) top) ∙ begins (allows letters awaits) (b / 16) (b % 16) low e2) in
    let value : 16 * (b / 16) + hex_value (hex_digit (b % 16)) ≡ b = ap (λ (x : ℕ). 16 * (b / 16) + x) (value_of_digit (b % 16) low) ∙ whole in
    let second : is_second_digit letters awaits (b / 16) (hex_digit (b % 16)) ≡ true =
    and_from (is_hex (hex_digit (b % 16))) (escapes letters awaits (16 * (b / 16) + hex_value (hex_digit (b % 16)))) (digit_is_hex (b % 16) low) (ap (escapes letters awaits) value ∙ e) in
    let one : token_from letters (Between awaits) (37 ∷ hex_digit (b / 16) ∷ hex_digit (b % 16) ∷ rest) ≡ token_from letters (Digit awaits (hex_value (hex_digit (b / 16)))) (hex_digit (b % 16) ∷ rest) =
    choose_true (is_first_digit letters awaits (hex_digit (b / 16))) _ _ first in
    let two : token_from letters (Digit awaits (b / 16)) (hex_digit (b % 16) ∷ rest)
    ≡ with_first (16 * (b / 16) + hex_value (hex_digit (b % 16))) (token_from letters (Between (after letters awaits (16 * (b / 16) + hex_value (hex_digit (b % 16))))) rest) =
    choose_true (is_second_digit letters awaits (b / 16) (hex_digit (b % 16))) _ _ second in
    one
    ∙ ap (λ (h : ℕ). token_from letters (Digit awaits h) (hex_digit (b % 16) ∷ rest)) (value_of_digit (b / 16) top)
    ∙ two
    ∙ ap (λ (x : ℕ). with_first x (token_from letters (Between (after letters awaits x)) rest)) value

pub pick : {X : Type 0} (p s a : Bool) (x y z : X) → p ≡ false → s ≡ true → a ≡ true → cond p x (cond (s && a) y z) ≡ y
pick false true true x y z e f g = refl
pick true s a x y z e f g = cc e
pick false false a x y z e f g = absurd (false≢true f)
pick false true false x y z e f g = absurd (false≢true g)

itself_again : (letters : Letters) (awaits : Awaits) (b : ℕ) (rest : List ℕ) → stands_for_itself b ≡ true → allows letters awaits b ≡ true
    → token_from letters (Between awaits) (b ∷ rest) ≡ with_first b (token_from letters (Between (after letters awaits b)) rest)
itself_again letters awaits b rest s a =
    let p = and_parts (leb 33 b && leb b 126) (not (eqb b 37)) s in
    pick (eqb b 37) (stands_for_itself b) (allows letters awaits b) _ _ _ (not-true (eqb b 37) p.1) s a

pub bytes_again : (letters : Letters) (awaits : Awaits) (v rest : List ℕ) → accepts letters awaits v ≡ true → closes letters rest ≡ true
    → token_from letters (Between awaits) (bytes_spelling v ++ rest) ≡ Ok (v, rest)
bytes_again letters Character [] rest e end = stops letters rest end
bytes_again letters Private [] rest e end = absurd (false≢true e)
bytes_again letters (Continuation low high more) [] rest e end = absurd (false≢true e)
bytes_again letters awaits (b ∷ v) rest e end =
    let p = and_parts (ltb b 256 && allows letters awaits b) (accepts letters (after letters awaits b) v) e in
    let q = and_parts (ltb b 256) (allows letters awaits b) p.0 in
    let again = ap (with_first b) (bytes_again letters (after letters awaits b) v rest p.1 end) in
    let regroup = append_assoc (byte_spelling b) (bytes_spelling v) rest in
    ap (token_from letters (Between awaits)) regroup ∙ elim (cases_Bool (stands_for_itself b)) [
      | inl s ↦
          ap (λ (l : List ℕ). token_from letters (Between awaits) (l ++ (bytes_spelling v ++ rest))) (spelled_itself b s)
          ∙ itself_again letters awaits b (bytes_spelling v ++ rest) s q.1
          ∙ again
      | inr s ↦
          ap (λ (l : List ℕ). token_from letters (Between awaits) (l ++ (bytes_spelling v ++ rest))) (spelled_escaped b s)
          ∙ escape_again letters awaits b (bytes_spelling v ++ rest) (ltb-true b 256 q.0) (and_from (allows letters awaits b) (not (stands_for_itself b)) q.1 (not_from_false (stands_for_itself b) s))
          ∙ again
    ]

-- what a token of these letters may spell
abbrev pub Good : Letters → List ℕ → Type 0
Good OfText v = accepts OfText Character v ≡ true
Good OfBytes v = accepts OfBytes Character v ≡ true
Good OfXml v = accepts OfXml Character v ≡ true
Good OfName v = (accepts OfName Character v ≡ true) × (0 < length v)

good_accepts : (letters : Letters) (v : List ℕ) → Good letters v → accepts letters Character v ≡ true
good_accepts OfText v g = g
good_accepts OfBytes v g = g
good_accepts OfXml v g = g
good_accepts OfName v g = g.0

pub good_nonempty : (letters : Letters) (b : ℕ) (v : List ℕ) → accepts letters Character (b ∷ v) ≡ true → Good letters (b ∷ v)
good_nonempty OfText b v e = e
good_nonempty OfBytes b v e = e
good_nonempty OfXml b v e = e
good_nonempty OfName b v e = (e, omega arith)

lone_is_text : (letters : Letters) (bs : List ℕ) → is_lone letters bs ≡ true → Good letters []
lone_is_text OfText bs e = refl
lone_is_text OfBytes bs e = refl
lone_is_text OfXml bs e = refl
lone_is_text OfName bs e = absurd (false≢true e)

nonempty_ok : (left : ℕ) (r : Result (List ℕ × List ℕ) ℕ) (v rest : List ℕ) → nonempty left r ≡ Ok (v, rest) → (r ≡ Ok (v, rest)) × (0 < length v)
nonempty_ok left (Ok ([], rest)) v r e = cc e
nonempty_ok left (Ok (x ∷ xs, rest)) v r e =
    let p = ok_pair (x ∷ xs) v rest r e in
    (e, subst (λ (q : List ℕ). 0 < length q) p.0 (omega arith))
nonempty_ok left (Err l) v r e = cc e

pub record TokenTaken (letters : Letters) (bs v rest : List ℕ) : Type 0 where
  pub same : bs ≡ token v ++ rest
  pub good : Good letters v

taken_nonempty : (letters : Letters) (bs v rest : List ℕ) → bs ≡ bytes_spelling v ++ rest → accepts letters Character v ≡ true → 0 < length v → TokenTaken letters bs v rest
taken_nonempty letters bs [] rest e a h = absurd (omega arith)
taken_nonempty letters bs (b ∷ v) rest e a h = record { same = e; good = good_nonempty letters b v a }

pub token_at_takes : (letters : Letters) (bs v rest : List ℕ) → token_at letters bs ≡ Ok (v, rest) → TokenTaken letters bs v rest
token_at_takes letters [] v rest e = cc e
token_at_takes letters (b ∷ bs) v rest e = elim (chosen (eqb b 37 && is_lone letters bs) _ _ _ e) [
  | inl p ↦
      let q = and_parts (eqb b 37) (is_lone letters bs) p.0 in
      let r = ok_pair [] v bs rest p.1 in
      record {
        same = ap (λ (x : ℕ). x ∷ bs) (eqb-true b 37 q.0) ∙ ap (λ (l : List ℕ). 37 ∷ l) r.1 ∙ ap (λ (l : List ℕ). token l ++ rest) r.0;
        good = subst (Good letters) r.0 (lone_is_text letters bs q.1);
      }
  | inr p ↦
      let q = nonempty_ok (suc (length bs)) (token_from letters (Between Character) (b ∷ bs)) v rest p.1 in
      let t = token_takes letters (Between Character) (b ∷ bs) v rest tt q.0 in
      taken_nonempty letters (b ∷ bs) v rest t.same t.good q.1
]

text_letters : (letters : Letters) → (letters ≢ OfBytes) → IsText letters
text_letters OfText n = refl
text_letters OfName n = refl
text_letters OfXml n = refl
text_letters OfBytes n = absurd (n refl)

-- what is read as a text or a name is UTF-8
pub token_utf8 : (letters : Letters) (bs v rest : List ℕ) → (letters ≢ OfBytes) → token_at letters bs ≡ Ok (v, rest) → IsUtf8 v
token_utf8 letters bs v rest n e = read_utf8 letters v (read_accepted letters (text_letters letters n) v (good_accepts letters v (token_at_takes letters bs v rest e).good))

hex_stands : (d : ℕ) → is_hex d ≡ true → stands_for_itself d ≡ true
hex_stands d h = elim (or_cases (leb 48 d && leb d 57) (leb 65 d && leb d 70) h) [
  | inl e ↦
      let p = and_parts (leb 48 d) (leb d 57) e in
      let l = leb-true 48 d p.0 in
      let u = leb-true d 57 p.1 in
      rw (le-leb 33 d (omega arith), le-leb d 126 (omega arith), ne_eqb d 37 (λ e. omega arith)) refl
  | inr e ↦
      let p = and_parts (leb 65 d) (leb d 70) e in
      let l = leb-true 65 d p.0 in
      let u = leb-true d 70 p.1 in
      rw (le-leb 33 d (omega arith), le-leb d 126 (omega arith), ne_eqb d 37 (λ e. omega arith)) refl
]

-- what follows a token is no digit of an escape
ends_not_first : (letters : Letters) (d : ℕ) (bs : List ℕ) → ends (d ∷ bs) ≡ true → is_first_digit letters Character d ≡ false
ends_not_first letters d bs e =
    let p = and_parts (not (eqb d 37)) (not (stands_for_itself d)) e in
    elim (cases_Bool (is_first_digit letters Character d)) [
      | inl f ↦
          let h = and_parts (is_hex d) (may_begin letters Character (hex_value d)) f in
          absurd (false≢true (sym (not-true (stands_for_itself d) p.1) ∙ hex_stands d h.0))
      | inr f ↦ f
    ]

not_first : (letters : Letters) (d : ℕ) (bs : List ℕ) → ends (d ∷ bs) ≡ true → not (is_first_digit letters Character d) ≡ true
not_first letters d bs e = not_from_false (is_first_digit letters Character d) (ends_not_first letters d bs e)

lone_ends : (letters : Letters) (bs : List ℕ) → Good letters [] → ends bs ≡ true → is_lone letters bs ≡ true
lone_ends OfText [] g e = refl
lone_ends OfText (d ∷ bs) g e = not_first OfText d bs e
lone_ends OfBytes [] g e = refl
lone_ends OfBytes (d ∷ bs) g e = not_first OfBytes d bs e
lone_ends OfXml [] g e = refl
lone_ends OfXml (d ∷ bs) g e = not_first OfXml d bs e
lone_ends OfName bs g e = absurd (omega (arith, g.1))

token_cons : (letters : Letters) (x b : ℕ) (xs v rest : List ℕ) → (eqb x 37 && is_lone letters xs) ≡ false
    → token_from letters (Between Character) (x ∷ xs) ≡ Ok (b ∷ v, rest) → token_at letters (x ∷ xs) ≡ Ok (b ∷ v, rest)
token_cons letters x b xs v rest e read = rw e (ap (nonempty (suc (length xs))) read)

not_lone : (letters : Letters) (d : ℕ) (bs : List ℕ) → is_first_digit letters Character d ≡ true → is_lone letters (d ∷ bs) ≡ false
not_lone OfText d bs e = ap not e
not_lone OfBytes d bs e = ap not e
not_lone OfXml d bs e = ap not e
not_lone OfName d bs e = refl

-- this ends a token of these bytes
abbrev pub may_follow : Letters → List ℕ → List ℕ → Bool
may_follow letters [] rest = is_lone letters rest
may_follow letters (b ∷ v) rest = closes letters rest

pub token_before : (letters : Letters) (v rest : List ℕ) → Good letters v → may_follow letters v rest ≡ true → token_at letters (token v ++ rest) ≡ Ok (v, rest)
token_before OfText [] rest g end = ap (λ (t : Bool). cond t (Ok ([], rest)) (nonempty (suc (length rest)) (token_from OfText (Between Character) (37 ∷ rest)))) end
token_before OfBytes [] rest g end = ap (λ (t : Bool). cond t (Ok ([], rest)) (nonempty (suc (length rest)) (token_from OfBytes (Between Character) (37 ∷ rest)))) end
token_before OfXml [] rest g end = ap (λ (t : Bool). cond t (Ok ([], rest)) (nonempty (suc (length rest)) (token_from OfXml (Between Character) (37 ∷ rest)))) end
token_before OfName [] rest g end = absurd (omega (arith, g.1))
token_before letters (b ∷ v) rest g end =
    let a = good_accepts letters (b ∷ v) g in
    let read = bytes_again letters Character (b ∷ v) rest a end in
    let p = and_parts (ltb b 256 && allows letters Character b) (accepts letters (after letters Character b) v) a in
    let q = and_parts (ltb b 256) (allows letters Character b) p.0 in
    elim (cases_Bool (stands_for_itself b)) [
      | inl s ↦
          let is : bytes_spelling (b ∷ v) ++ rest ≡ b ∷ (bytes_spelling v ++ rest) = ap (λ (l : List ℕ). (l ++ bytes_spelling v) ++ rest) (spelled_itself b s) in
          let plain = and_parts (leb 33 b && leb b 126) (not (eqb b 37)) s in
          ap (token_at letters) is ∙ token_cons letters b b (bytes_spelling v ++ rest) v rest (rw (not-true (eqb b 37) plain.1) refl) (ap (token_from letters (Between Character)) (sym is) ∙ read)
      | inr s ↦
          let high = hex_digit (b / 16) in
          let tail = hex_digit (b % 16) ∷ (bytes_spelling v ++ rest) in
          let is : bytes_spelling (b ∷ v) ++ rest ≡ 37 ∷ high ∷ tail = ap (λ (l : List ℕ). (l ++ bytes_spelling v) ++ rest) (spelled_escaped b s) in
          let e : escapes letters Character b ≡ true = and_from (allows letters Character b) (not (stands_for_itself b)) q.1 (not_from_false (stands_for_itself b) s) in
          ap (token_at letters) is ∙ token_cons letters 37 b (high ∷ tail) v rest (not_lone letters high tail (first_again letters Character b (ltb-true b 256 q.0) e)) (ap (token_from letters (Between Character)) (sym is) ∙ read)
    ]

follows : (letters : Letters) (v rest : List ℕ) → Good letters v → ends rest ≡ true → may_follow letters v rest ≡ true
follows letters [] rest g e = lone_ends letters rest g e
follows letters (b ∷ v) rest g e = ends_closes letters rest e

pub token_again : (letters : Letters) (v rest : List ℕ) → Good letters v → ends rest ≡ true → token_at letters (token v ++ rest) ≡ Ok (v, rest)
token_again letters v rest g e = token_before letters v rest g (follows letters v rest g e)

chosen_closes : (letters : Letters) (awaits : Awaits) (bs v rest : List ℕ) → closed awaits bs ≡ Ok (v, rest) → (awaits ≡ Character) × (rest ≡ bs)
chosen_closes letters Character bs v rest e = (refl, (closed_ok Character bs v rest e).2)
chosen_closes letters Private bs v rest e = cc e
chosen_closes letters (Continuation low high more) bs v rest e = cc e

-- a reader of a token stops where the token may end
pub token_closes : (letters : Letters) (stage : Stage) (bs v rest : List ℕ) → token_from letters stage bs ≡ Ok (v, rest) → closes letters rest ≡ true
token_closes letters (Between awaits) [] v rest e = let p = closed_ok awaits [] v rest e in rw p.2 refl
token_closes letters (Between awaits) (b ∷ bs) v rest e = elim (chosen (eqb b 37) _ _ _ e) [
  | inl p ↦ token_closes letters (Percent awaits) bs v rest p.1
  | inr p ↦ elim (chosen (stands_for_itself b && allows letters awaits b) _ _ _ p.1) [
    | inl q ↦
        let w = with_first_ok b (token_from letters (Between (after letters awaits b)) bs) v rest q.1 in
        token_closes letters (Between (after letters awaits b)) bs w.w rest w.read
    | inr q ↦
        let c = chosen_closes letters awaits (b ∷ bs) v rest q.1 in
        let plain : (stands_for_itself b && allows letters Character b) ≡ false = subst (λ (a : Awaits). (stands_for_itself b && allows letters a b) ≡ false) c.0 q.0 in
        subst (λ (r : List ℕ). closes letters r ≡ true) (sym c.1)
        (and_from (not (eqb b 37)) (not (stands_for_itself b && allows letters Character b)) (not_from_false (eqb b 37) p.0) (not_from_false (stands_for_itself b && allows letters Character b) plain))
  ]
]
token_closes letters (Percent awaits) [] v rest e = cc e
token_closes letters (Percent awaits) (d ∷ bs) v rest e = elim (chosen (is_first_digit letters awaits d) _ _ _ e) [
  | inl p ↦ token_closes letters (Digit awaits (hex_value d)) bs v rest p.1
  | inr p ↦ cc p.1
]
token_closes letters (Digit awaits high) [] v rest e = cc e
token_closes letters (Digit awaits high) (d ∷ bs) v rest e = elim (chosen (is_second_digit letters awaits high d) _ _ _ e) [
  | inl p ↦
      let x = 16 * high + hex_value d in
      let w = with_first_ok x (token_from letters (Between (after letters awaits x)) bs) v rest p.1 in
      token_closes letters (Between (after letters awaits x)) bs w.w rest w.read
  | inr p ↦ cc p.1
]

follows_nonempty : (letters : Letters) (v rest : List ℕ) → 0 < length v → closes letters rest ≡ true → may_follow letters v rest ≡ true
follows_nonempty letters [] rest h e = absurd (omega arith)
follows_nonempty letters (b ∷ v) rest h e = e

pub token_follows : (letters : Letters) (bs v rest : List ℕ) → token_at letters bs ≡ Ok (v, rest) → may_follow letters v rest ≡ true
token_follows letters [] v rest e = cc e
token_follows letters (b ∷ bs) v rest e = elim (chosen (eqb b 37 && is_lone letters bs) _ _ _ e) [
  | inl p ↦
      let q = and_parts (eqb b 37) (is_lone letters bs) p.0 in
      let r = ok_pair [] v bs rest p.1 in
      subst (λ (w : List ℕ). may_follow letters w rest ≡ true) r.0 (subst (λ (l : List ℕ). is_lone letters l ≡ true) r.1 q.1)
  | inr p ↦
      let q = nonempty_ok (suc (length bs)) (token_from letters (Between Character) (b ∷ bs)) v rest p.1 in
      follows_nonempty letters v rest q.1 (token_closes letters (Between Character) (b ∷ bs) v rest q.0)
]
