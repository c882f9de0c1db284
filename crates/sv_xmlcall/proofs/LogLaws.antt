-- Bytes of a log as a text are UTF-8.
use Rattle.std.proofs.Common.{◌≡◌, ℕ, zero, suc, ◌+◌, ◌-◌, ◌<◌, ◌≤◌, true, List, [], ◌∷◌, length, inl, inr, refl, sym, ap, ◌∙◌, arith, subst, IsUtf8, ◌++◌, append-nil}
use Rattle.std.proofs.lemmas.Bool.{cases_Bool, cases_lt, lt-ltb, le-ltb}
use Rattle.sv_xmlcall.specs.Characters.{length_from, character_length, log_from, log_text}
use Rattle.sv_letters.specs.Letters.{allows, after, is_whole, are_letters}
use Rattle.sv_letters.specs.declared.letters.Letters.TheVariants.{OfXml}
use Rattle.sv_letters.specs.declared.letters.Awaits.{Awaits}
use Rattle.sv_letters.specs.declared.letters.Awaits.TheVariants.{Character, Private, Continuation}
use Rattle.sv_letters.proofs.LetterLaws.{letters_utf8}

whole_is : (awaits : Awaits) → is_whole awaits ≡ true → awaits ≡ Character
whole_is Character e = refl
whole_is Private e = cc e
whole_is (Continuation low high more) e = cc e

-- so many bytes complete a character
abbrev Completes : Awaits → ℕ → List ℕ → Type 0
Completes awaits zero bs = awaits ≡ Character
Completes awaits (suc left) [] = ⊥
Completes awaits (suc left) (b ∷ bs) = (allows OfXml awaits b ≡ true) × Completes (after OfXml awaits b) left bs

above : (awaits : Awaits) (n k : ℕ) (bs : List ℕ) → length_from awaits n bs ≡ suc k → n ≤ k
above awaits n k [] e = absurd (omega (arith, e))
above awaits n k (b ∷ bs) e = elim (cases_Bool (allows OfXml awaits b)) [
  | inl a ↦ elim (cases_Bool (is_whole (after OfXml awaits b))) [
    | inl w ↦ let f : suc n ≡ suc k = rw (a, w) at e in omega arith
    | inr w ↦ let f = above (after OfXml awaits b) (suc n) k bs (rw (a, w) at e) in omega arith
  ]
  | inr a ↦ let f : 0 ≡ suc k = rw a at e in absurd (omega arith)
]

-- what is measured completes a character
measured : (awaits : Awaits) (n m : ℕ) (bs : List ℕ) → length_from awaits n bs ≡ suc (n + m) → Completes awaits (suc m) bs
measured awaits n m [] e = absurd (omega (arith, e))
measured awaits n zero (b ∷ bs) e = elim (cases_Bool (allows OfXml awaits b)) [
  | inl a ↦ elim (cases_Bool (is_whole (after OfXml awaits b))) [
    | inl w ↦ (a, whole_is (after OfXml awaits b) w)
    | inr w ↦ let f = above (after OfXml awaits b) (suc n) (n + 0) bs (rw (a, w) at e) in absurd (omega arith)
  ]
  | inr a ↦ let f : 0 ≡ suc (n + 0) = rw a at e in absurd (omega arith)
]
measured awaits n (suc m) (b ∷ bs) e = elim (cases_Bool (allows OfXml awaits b)) [
  | inl a ↦ elim (cases_Bool (is_whole (after OfXml awaits b))) [
    | inl w ↦ let f : suc n ≡ suc (n + suc m) = rw (a, w) at e in absurd (omega arith)
    | inr w ↦
        let f : length_from (after OfXml awaits b) (suc n) bs ≡ suc (n + suc m) = rw (a, w) at e in
        let g : suc (n + suc m) ≡ suc (suc n + m) = omega arith in
        (a, measured (after OfXml awaits b) (suc n) m bs (f ∙ g))
  ]
  | inr a ↦ let f : 0 ≡ suc (n + suc m) = rw a at e in absurd (omega arith)
]

begun : (b : ℕ) (bs : List ℕ) → 0 < character_length (b ∷ bs) → Completes Character (suc (character_length (b ∷ bs) - 1)) (b ∷ bs)
begun b bs h = measured Character 0 (character_length (b ∷ bs) - 1) (b ∷ bs) (omega (arith, h))

kept_step : (b : ℕ) (rest : List ℕ) → allows OfXml Character b ≡ true → are_letters OfXml (after OfXml Character b) rest ≡ true → are_letters OfXml Character (b ∷ rest) ≡ true
kept_step b rest a r = rw (a, r) refl

log_kept : (b : ℕ) (bs : List ℕ) → 0 < character_length (b ∷ bs) → log_from 0 (b ∷ bs) ≡ b ∷ log_from (character_length (b ∷ bs) - 1) bs
log_kept b bs h = rw (lt-ltb 0 (character_length (b ∷ bs)) h) refl

log_lost : (b : ℕ) (bs : List ℕ) → character_length (b ∷ bs) ≤ 0 → log_from 0 (b ∷ bs) ≡ 63 ∷ log_from 0 bs
log_lost b bs h = rw (le-ltb 0 (character_length (b ∷ bs)) h) refl

log_letters : (left : ℕ) (awaits : Awaits) (bs : List ℕ) → Completes awaits left bs → are_letters OfXml awaits (log_from left bs) ≡ true
log_letters zero awaits [] c = rw c refl
log_letters (suc left) awaits [] c = absurd c
log_letters (suc left) awaits (b ∷ bs) c = rw (c.0, log_letters left (after OfXml awaits b) bs c.1) refl
log_letters zero awaits (b ∷ bs) c = subst (λ (x : Awaits). are_letters OfXml x (log_from 0 (b ∷ bs)) ≡ true) (sym c) (elim (cases_lt 0 (character_length (b ∷ bs))) [
  | inl h ↦
      let k = begun b bs h in
      subst (λ (x : List ℕ). are_letters OfXml Character x ≡ true) (sym (log_kept b bs h))
      (kept_step b (log_from (character_length (b ∷ bs) - 1) bs) k.0 (log_letters (character_length (b ∷ bs) - 1) (after OfXml Character b) bs k.1))
  | inr h ↦
      subst (λ (x : List ℕ). are_letters OfXml Character x ≡ true) (sym (log_lost b bs h))
      (kept_step 63 (log_from 0 bs) refl (log_letters 0 Character bs refl))
])

pub log_utf8 : (bs : List ℕ) → IsUtf8 (log_text bs)
log_utf8 bs = letters_utf8 OfXml refl (log_text bs) (log_letters 0 Character bs refl)

no_more : (left : ℕ) → log_from left [] ≡ []
no_more zero = refl
no_more (suc left) = refl

pub end_utf8 : (text rest bytes : List ℕ) (left : ℕ) → text ++ log_from left rest ≡ log_text bytes → length rest < 1 → IsUtf8 text
end_utf8 text [] bytes left e h =
    subst (λ (x : List ℕ). IsUtf8 x) (sym e ∙ ap (λ (x : List ℕ). text ++ x) (no_more left) ∙ append-nil text) (log_utf8 bytes)
end_utf8 text (b ∷ rest) bytes left e h = absurd (omega arith)
