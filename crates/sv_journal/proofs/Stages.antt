-- A token read byte by byte is the token read stage by stage.
use Rattle.std.proofs.Common.{◌≡◌, ℕ, ◌&&◌, eqb, List, [], ◌∷◌, ◌++◌, Result, Ok, Err, Option, Some, None, inl, inr, refl, sym, ap, ◌∙◌, append_assoc, append-nil}
use Rattle.std.proofs.lemmas.Bool.{cases_Bool}
use Rattle.sv_journal.specs.Spelling.{stands_for_itself}
use Rattle.sv_journal.specs.Tokens.{is_first_digit, is_second_digit, hex_value}
use Rattle.sv_letters.specs.Letters.{allows, after}
use Rattle.sv_journal.specs.Reading.{◌>>=◌, closed, token_from, with_first, with_front, second_digit_at, escape_at, some_byte, token_end, spelled_byte_at}
use Rattle.sv_journal.specs.Reading.Stage.{Between, Percent, Digit}
use Rattle.sv_letters.specs.declared.letters.Letters.{Letters}
use Rattle.sv_letters.specs.declared.letters.Awaits.{Awaits}
use Rattle.sv_letters.specs.declared.letters.Awaits.TheVariants.{Character, Private, Continuation}

-- how the token goes on after one byte of it, or ends
abbrev go_on : Letters → Awaits → List ℕ → Result (Option (ℕ × List ℕ)) ℕ → Result (List ℕ × List ℕ) ℕ
go_on letters awaits bs (Ok None) = Ok ([], bs)
go_on letters awaits bs (Ok (Some r)) = with_first r.0 (token_from letters (Between (after letters awaits r.0)) r.1)
go_on letters awaits bs (Err left) = Err left

second : (letters : Letters) (awaits : Awaits) (high : ℕ) (bs all : List ℕ) → token_from letters (Digit awaits high) bs ≡ go_on letters awaits all (second_digit_at letters awaits high bs >>= some_byte)
second letters awaits high [] all = refl
second letters awaits high (d ∷ bs) all = elim (cases_Bool (is_second_digit letters awaits high d)) [
  | inl e ↦ rw e refl
  | inr e ↦ rw e refl
]

first : (letters : Letters) (awaits : Awaits) (bs all : List ℕ) → token_from letters (Percent awaits) bs ≡ go_on letters awaits all (escape_at letters awaits bs >>= some_byte)
first letters awaits [] all = refl
first letters awaits (d ∷ bs) all = elim (cases_Bool (is_first_digit letters awaits d)) [
  | inl e ↦ rw e (second letters awaits (hex_value d) bs all)
  | inr e ↦ rw e refl
]

ends : (letters : Letters) (awaits : Awaits) (bs : List ℕ) → closed awaits bs ≡ go_on letters awaits bs (token_end awaits bs)
ends letters Character bs = refl
ends letters Private bs = refl
ends letters (Continuation low high more) bs = refl

step : (letters : Letters) (awaits : Awaits) (bs : List ℕ) → token_from letters (Between awaits) bs ≡ go_on letters awaits bs (spelled_byte_at letters awaits bs)
step letters awaits [] = ends letters awaits []
step letters awaits (b ∷ bs) = elim (cases_Bool (eqb b 37)) [
  | inl e ↦ rw e (first letters awaits bs (b ∷ bs))
  | inr e ↦ elim (cases_Bool (stands_for_itself b && allows letters awaits b)) [
    | inl f ↦ rw (f, e) refl
    | inr f ↦ rw (f, e) (ends letters awaits (b ∷ bs))
  ]
]

-- nothing was read before
pub front_none : (r : Result (List ℕ × List ℕ) ℕ) → with_front [] r ≡ r
front_none (Ok r) = refl
front_none (Err left) = refl

pub front_first : (xs : List ℕ) (x : ℕ) (r : Result (List ℕ × List ℕ) ℕ) → with_front xs (with_first x r) ≡ with_front (xs ++ x ∷ []) r
front_first xs x (Ok r) = ap (λ (q : List ℕ). Ok (q, r.1)) (sym (append_assoc xs (x ∷ []) r.0))
front_first xs x (Err left) = refl

pub step_more : (letters : Letters) (awaits : Awaits) (bs xs : List ℕ) (x : ℕ) (rest : List ℕ) → spelled_byte_at letters awaits bs ≡ Ok (Some (x, rest))
    → with_front xs (token_from letters (Between awaits) bs) ≡ with_front (xs ++ x ∷ []) (token_from letters (Between (after letters awaits x)) rest)
step_more letters awaits bs xs x rest e =
    ap (with_front xs) (step letters awaits bs ∙ ap (go_on letters awaits bs) e) ∙ front_first xs x _

pub step_end : (letters : Letters) (awaits : Awaits) (bs xs : List ℕ) → spelled_byte_at letters awaits bs ≡ Ok None
    → with_front xs (token_from letters (Between awaits) bs) ≡ Ok (xs, bs)
step_end letters awaits bs xs e = ap (with_front xs) (step letters awaits bs ∙ ap (go_on letters awaits bs) e) ∙ ap (λ (q : List ℕ). Ok (q, bs)) (append-nil xs)

step_bad : (letters : Letters) (awaits : Awaits) (bs xs : List ℕ) (left : ℕ) → spelled_byte_at letters awaits bs ≡ Err left
    → with_front xs (token_from letters (Between awaits) bs) ≡ Err left
step_bad letters awaits bs xs left e = ap (with_front xs) (step letters awaits bs ∙ ap (go_on letters awaits bs) e)

pub step_err : (left : ℕ) (letters : Letters) (awaits : Awaits) (bs xs : List ℕ) (all : Result (List ℕ × List ℕ) ℕ)
    → spelled_byte_at letters awaits bs ≡ Err left → with_front xs (token_from letters (Between awaits) bs) ≡ all → all ≡ Err left
step_err left letters awaits bs xs all e is = sym is ∙ step_bad letters awaits bs xs left e
