-- What was read where a line goes on with a word, a number or a token.
use Rattle.std.proofs.Common.{◌≡◌, ℕ, eqb, List, [], ◌∷◌, ◌++◌, length, Result, Ok, Err, inl, inr, refl, sym, ap, ◌∙◌, min}
use Rattle.std.proofs.lemmas.Bool.{eqb-true}
use Rattle.sv_journal.specs.Reading.{◌>>=◌, end_at, word_at, keyword_or, keyword_from, keyword_at, number_at, token_at, last_token_at}
use Rattle.sv_journal.specs.ReadingLines.{word_then, keyword_then, number_then, token_then, last_token_then}
use Rattle.sv_letters.specs.declared.letters.Letters.{Letters}
use Rattle.sv_journal.proofs.Results.{ok_value, ok_pair}
use Rattle.sv_journal.proofs.TokenLaws.{chosen, TokenTaken, token_at_takes}
use Rattle.sv_journal.proofs.NumberLaws.{IsLimit, NumberTaken, number_takes}

pub bind_then : {A B P : Type 0} (r : Result A ℕ) (f : A → Result B ℕ) (y : B) → (r >>= f) ≡ Ok y → ((x : A) → r ≡ Ok x → f x ≡ Ok y → P) → P
bind_then (Ok x) f y e k = k x refl e
bind_then (Err left) f y e k = cc e

pub end_takes : {X : Type 0} (x y : X) (bs : List ℕ) → end_at x bs ≡ Ok y → (bs ≡ []) × (x ≡ y)
end_takes x y [] e = (refl, ok_value x y e)
end_takes x y (b ∷ bs) e = cc e

word_takes : (w bs rest : List ℕ) → word_at w bs ≡ Ok rest → bs ≡ w ++ rest
word_takes [] bs rest e = ok_value bs rest e
word_takes (w ∷ ws) [] rest e = cc e
word_takes (w ∷ ws) (b ∷ bs) rest e = elim (chosen (eqb b w) _ _ _ e) [
  | inl p ↦ ap (λ (x : ℕ). x ∷ bs) (eqb-true b w p.0) ∙ ap (λ (l : List ℕ). w ∷ l) (word_takes ws bs rest p.1)
  | inr p ↦ cc p.1
]

keyword_case : {K : Type 0} (spelling : K → List ℕ) (k : K) (others : ℕ → Result (K × List ℕ) ℕ) (least : ℕ) (bs : List ℕ) (j : K) (rest : List ℕ) (r : Result (List ℕ) ℕ)
    → word_at (spelling k) bs ≡ r → keyword_or k others least r ≡ Ok (j, rest)
    → ((n : ℕ) → others n ≡ Ok (j, rest) → bs ≡ spelling j ++ rest) → bs ≡ spelling j ++ rest
keyword_case spelling k others least bs j rest (Ok after) is e next =
    let p = ok_pair k j after rest e in
    word_takes (spelling k) bs after is ∙ ap (λ (q : List ℕ). spelling k ++ q) p.1 ∙ ap (λ q. spelling q ++ rest) p.0
keyword_case spelling k others least bs j rest (Err left) is e next = next (min least left) e

pub keyword_takes : {K : Type 0} (spelling : K → List ℕ) (ks : List K) (least : ℕ) (bs : List ℕ) (j : K) (rest : List ℕ)
    → keyword_from spelling ks least bs ≡ Ok (j, rest) → bs ≡ spelling j ++ rest
keyword_takes spelling [] least bs j rest e = cc e
keyword_takes spelling (k ∷ ks) least bs j rest e =
    keyword_case spelling k (λ n. keyword_from spelling ks n bs) least bs j rest (word_at (spelling k) bs) refl e (λ n e. keyword_takes spelling ks n bs j rest e)

pub word_then_takes : {X P : Type 0} (w : List ℕ) (next : List ℕ → Result X ℕ) (bs : List ℕ) (x : X) → word_then w next bs ≡ Ok x
    → ((rest : List ℕ) → bs ≡ w ++ rest → next rest ≡ Ok x → P) → P
word_then_takes w next bs x e k = bind_then (word_at w bs) next x e (λ rest is e. k rest (word_takes w bs rest is) e)

pub keyword_then_takes : {K X P : Type 0} (spelling : K → List ℕ) (ks : List K) (next : K → List ℕ → Result X ℕ) (bs : List ℕ) (x : X) → keyword_then spelling ks next bs ≡ Ok x
    → ((j : K) (rest : List ℕ) → bs ≡ spelling j ++ rest → next j rest ≡ Ok x → P) → P
keyword_then_takes spelling ks next bs x e k =
    bind_then (keyword_at spelling ks bs) (λ r. next r.0 r.1) x e (λ r is e. k r.0 r.1 (keyword_takes spelling ks (length bs) bs r.0 r.1 is) e)

pub number_then_takes : {X P : Type 0} (least limit : ℕ) (next : ℕ → List ℕ → Result X ℕ) (bs : List ℕ) (x : X) → IsLimit limit → number_then least limit next bs ≡ Ok x
    → ((n : ℕ) (rest : List ℕ) → NumberTaken least limit n bs rest → next n rest ≡ Ok x → P) → P
number_then_takes least limit next bs x fits e k =
    bind_then (number_at least limit bs) (λ r. next r.0 r.1) x e (λ r is e. k r.0 r.1 (number_takes least limit bs r.0 r.1 fits is) e)

pub token_then_takes : {X P : Type 0} (letters : Letters) (next : List ℕ → List ℕ → Result X ℕ) (bs : List ℕ) (x : X) → token_then letters next bs ≡ Ok x
    → ((v rest : List ℕ) → TokenTaken letters bs v rest → next v rest ≡ Ok x → P) → P
token_then_takes letters next bs x e k =
    bind_then (token_at letters bs) (λ r. next r.0 r.1) x e (λ r is e. k r.0 r.1 (token_at_takes letters bs r.0 r.1 is) e)

pub last_token_takes : {X P : Type 0} (letters : Letters) (value : List ℕ → X) (bs : List ℕ) (x : X) → last_token_then letters value bs ≡ Ok x
    → ((v : List ℕ) → TokenTaken letters bs v [] → x ≡ value v → P) → P
last_token_takes letters value bs x e k =
    bind_then (last_token_at letters bs) (λ v. Ok (value v)) x e (λ v is e.
    bind_then (token_at letters bs) (λ r. end_at r.0 r.1) v is (λ r is f.
    let p = end_takes r.0 v r.1 f in
    k v (token_at_takes letters bs v [] (is ∙ ap (λ (q : List ℕ). Ok (r.0, q)) p.0 ∙ ap (λ (q : List ℕ). Ok (q, [])) p.1)) (sym (ok_value (value v) x e))))
