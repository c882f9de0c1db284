-- Exit codes that are read are a list with commas, and each such list is read again.
use Rattle.std.proofs.Common.{◌≡◌, ℕ, ◌+◌, ◌*◌, ◌-◌, ◌<◌, ◌≤◌, Bool, true, false, ◌&&◌, not, eqb, ltb, leb, List, [], ◌∷◌, ◌++◌, length, Result, Ok, Option, Some, None, inl, inr, refl, sym, ap, ◌∙◌, subst, arith, append_assoc}
use Rattle.std.specs.Fmt.{decimal}
use Rattle.std.specs.Char.{is_ascii_digit}
use Rattle.std.specs.List.{list_all}
use Rattle.std.proofs.lemmas.Bool.{ltb-true, leb-true, le-leb, eqb-true, and_parts, and_from, not-true}
use Rattle.std.proofs.lemmas.Fmt.{decimal_digit}
use Rattle.sv_journal.specs.JournalLine.{is_exit_code}
use Rattle.sv_journal.specs.Spelling.{comma_list}
use Rattle.sv_journal.specs.Reading.{◌>>=◌, goes_on, codes_from, codes_tail, with_first}
use Rattle.sv_journal.specs.ReadingLines.{begins_with_digit}
use Rattle.sv_journal.proofs.Codes.{codes_number}
use Rattle.sv_journal.proofs.NumberLaws.{IsLimit, digit_range, one_more, number_again}
use Rattle.sv_journal.proofs.Results.{ok_pair}
use Rattle.sv_journal.proofs.TokenLaws.{chosen, with_first_ok}

abbrev pub read_so_far : Option ℕ → List ℕ
read_so_far None = []
read_so_far (Some n) = decimal n

abbrev pub FitsSoFar : Option ℕ → Type 0
FitsSoFar None = Unit {0}
FitsSoFar (Some n) = n ≤ 255

pub record CodesTaken (front : List ℕ) (bs codes rest : List ℕ) : Type 0 where
  pub same : front ++ bs ≡ comma_list codes ++ rest
  pub some : 0 < length codes
  pub fits : list_all is_exit_code codes ≡ true

one_code : (n : ℕ) (bs codes rest : List ℕ) → n ≤ 255 → (n ∷ [] ≡ codes) × (bs ≡ rest) → CodesTaken (decimal n) bs codes rest
one_code n bs codes rest h e = subst (λ (q : List ℕ). CodesTaken (decimal n) bs q rest) e.0 (record {
  same = ap (λ (q : List ℕ). decimal n ++ q) e.1;
  some = omega arith;
  fits = rw (le-leb n 255 h) refl;
})

comma_more : (n : ℕ) (bs w rest : List ℕ) → n ≤ 255 → CodesTaken [] bs w rest → CodesTaken (decimal n) (44 ∷ bs) (n ∷ w) rest
comma_more n bs [] rest h t = absurd (let s = t.some in omega arith)
comma_more n bs (m ∷ ms) rest h t = record {
  same = ap (λ (q : List ℕ). decimal n ++ 44 ∷ q) t.same ∙ sym (append_assoc (decimal n) (44 ∷ comma_list (m ∷ ms)) rest);
  some = omega arith;
  fits = and_from (is_exit_code n) (list_all is_exit_code (m ∷ ms)) (le-leb n 255 h) t.fits;
}

pub codes_take : (so_far : Option ℕ) (bs codes rest : List ℕ) → FitsSoFar so_far → codes_from so_far bs ≡ Ok (codes, rest) → CodesTaken (read_so_far so_far) bs codes rest
codes_take None [] codes rest fits e = cc e
codes_take None (b ∷ bs) codes rest fits e = elim (chosen (is_ascii_digit b) _ _ _ e) [
  | inl p ↦
      let d = digit_range b p.0 in
      let t = codes_take (Some (b - 48)) bs codes rest (omega arith) p.1 in
      let first : decimal (b - 48) ≡ b ∷ [] = decimal_digit (b - 48) (omega arith) ∙ ap (λ (x : ℕ). x ∷ []) (omega arith) in
      record { same = ap (λ (q : List ℕ). q ++ bs) (sym first) ∙ t.same; some = t.some; fits = t.fits }
  | inr p ↦ cc p.1
]
codes_take (Some n) [] codes rest fits e = one_code n [] codes rest fits (ok_pair (n ∷ []) codes [] rest e)
codes_take (Some n) (b ∷ bs) codes rest fits e = elim (chosen (goes_on 255 n b) _ _ _ e) [
  | inl p ↦
      let q = and_parts (is_ascii_digit b && ltb 0 n) (leb (n * 10 + (b - 48)) 255) p.0 in
      let r = and_parts (is_ascii_digit b) (ltb 0 n) q.0 in
      let d = digit_range b r.0 in
      let most = leb-true (n * 10 + (b - 48)) 255 q.1 in
      let t = codes_take (Some (n * 10 + (b - 48))) bs codes rest most p.1 in
      record {
        same = sym (append_assoc (decimal n) (b ∷ []) bs) ∙ ap (λ (q : List ℕ). q ++ bs) (one_more n b (ltb-true 0 n r.1) d.0 d.1 (omega arith)) ∙ t.same;
        some = t.some;
        fits = t.fits;
      }
  | inr p ↦ elim (chosen (eqb b 44) _ _ _ p.1) [
    | inl q ↦
        let w = with_first_ok n (codes_from None bs) codes rest q.1 in
        let t = codes_take None bs w.w rest tt w.read in
        subst (λ (c : List ℕ). CodesTaken (decimal n) (b ∷ bs) c rest) (sym w.is)
        (subst (λ (x : ℕ). CodesTaken (decimal n) (x ∷ bs) (n ∷ w.w) rest) (sym (eqb-true b 44 q.0)) (comma_more n bs w.w rest fits t))
    | inr q ↦ one_code n (b ∷ bs) codes rest fits (ok_pair (n ∷ []) codes (b ∷ bs) rest q.1)
  ]
]

-- the list of exit codes ends before this
abbrev pub ends_codes : List ℕ → Bool
ends_codes [] = true
ends_codes (b ∷ bs) = not (is_ascii_digit b) && not (eqb b 44)

no_digit : (rest : List ℕ) → ends_codes rest ≡ true → begins_with_digit rest ≡ false
no_digit [] e = refl
no_digit (b ∷ bs) e = let p = and_parts (not (is_ascii_digit b)) (not (eqb b 44)) e in not-true (is_ascii_digit b) p.0

last_code : (n : ℕ) (rest : List ℕ) → ends_codes rest ≡ true → codes_tail n rest ≡ Ok (n ∷ [], rest)
last_code n [] e = refl
last_code n (b ∷ bs) e = let p = and_parts (not (is_ascii_digit b)) (not (eqb b 44)) e in rw (not-true (eqb b 44) p.1) refl

codes_fit : IsLimit 255
codes_fit = (omega arith, omega arith)

pub codes_again : (codes rest : List ℕ) → 0 < length codes → list_all is_exit_code codes ≡ true → ends_codes rest ≡ true → codes_from None (comma_list codes ++ rest) ≡ Ok (codes, rest)
codes_again [] rest some fits e = absurd (omega arith)
codes_again (n ∷ []) rest some fits e =
    let p = and_parts (is_exit_code n) true fits in
    codes_number (decimal n ++ rest)
    ∙ ap (λ (r : Result (ℕ × List ℕ) ℕ). r >>= (λ r. codes_tail r.0 r.1)) (number_again 0 255 n rest codes_fit (omega arith) (omega arith) (leb-true n 255 p.0) (no_digit rest e))
    ∙ last_code n rest e
codes_again (n ∷ m ∷ ms) rest some fits e =
    let p = and_parts (is_exit_code n) (list_all is_exit_code (m ∷ ms)) fits in
    let more = comma_list (m ∷ ms) ++ rest in
    ap (codes_from None) (append_assoc (decimal n) (44 ∷ comma_list (m ∷ ms)) rest)
    ∙ codes_number (decimal n ++ 44 ∷ more)
    ∙ ap (λ (r : Result (ℕ × List ℕ) ℕ). r >>= (λ r. codes_tail r.0 r.1)) (number_again 0 255 n (44 ∷ more) codes_fit (omega arith) (omega arith) (leb-true n 255 p.0) refl)
    ∙ ap (with_first n) (codes_again (m ∷ ms) rest (omega arith) p.1 e)
