-- Heads and what follows them, over plain lists.
use Rattle.std.proofs.Common.{◌≡◌, ◌≤◌, ◌+◌, ◌==◌, ◌&&◌, ℕ, List, [], ◌∷◌, ◌++◌, length, Option, None, Some, Bool, true, false, refl, sym, ap, ◌∙◌, arith, if◌then◌else◌}
use Rattle.std.specs.Prelude.{option_map}
use Rattle.sv_http.proofs.Rulings.{same_value}
use Rattle.sv_http.specs.RequestStream.{head_length, begins}

-- the choice that ends the search, or goes on with what follows
abbrev choice : Bool → Bool → Option ℕ → Option ℕ
choice feed return later = if feed then Some 2 else if return then Some 3 else option_map (λ size. 1 + size) later

abbrev feeds : ℕ → ℕ → Bool
feeds a b = a == 10 && (b == 10 && true)

abbrev returns : ℕ → ℕ → ℕ → Bool
returns a b c = a == 10 && (b == 13 && (c == 10 && true))

pub no_value : {A : Type 0} {value : A} → None ≡ Some value → ⊥
no_value e = absurd cc

-- where it found, and where it would have found
choice_most : (feed return : Bool) (later : Option ℕ) (size : ℕ) → choice feed return later ≡ Some size
    → ((rest : ℕ) → later ≡ Some rest → 2 ≤ rest) → 2 ≤ size
choice_most true return later size e more = omega (arith, same_value e)
choice_most false true later size e more = omega (arith, same_value e)
choice_most false false None size e more = absurd (no_value e)
choice_most false false (Some rest) size e more = omega (arith, same_value e, more rest refl)

pub two_at_least : (bytes : List ℕ) (size : ℕ) → head_length bytes ≡ Some size → 2 ≤ size
two_at_least [] size e = absurd (no_value e)
two_at_least (a ∷ bytes) size e =
    choice_most (begins (10 ∷ 10 ∷ []) (a ∷ bytes)) (begins (10 ∷ 13 ∷ 10 ∷ []) (a ∷ bytes)) (head_length bytes) size e
    (λ rest later. two_at_least bytes rest later)

choice_same : (feed return : Bool) (one other : Option ℕ) (size : ℕ) → choice feed return one ≡ Some size
    → ((rest : ℕ) → one ≡ Some rest → other ≡ Some rest) → choice feed return other ≡ Some size
choice_same true return one other size e more = e
choice_same false true one other size e more = e
choice_same false false None other size e more = absurd (no_value e)
choice_same false false (Some rest) other size e more = ap (option_map (λ size. 1 + size)) (more rest refl) ∙ e

-- one byte is no head
lone : (feed : Bool) → choice (feed && false) (feed && false) None ≡ None
lone true = refl
lone false = refl

pair_front : (a b return next : Bool) (one other : Option ℕ) (size : ℕ) → one ≡ None
    → choice (a && (b && true)) (a && (return && false)) one ≡ Some size → choice (a && (b && true)) (a && (return && next)) other ≡ Some size
pair_front true true return next one other size none e = e
pair_front true false true next one other size none e = absurd (no_value (sym (ap (option_map (λ size. 1 + size)) none) ∙ e))
pair_front true false false next one other size none e = absurd (no_value (sym (ap (option_map (λ size. 1 + size)) none) ∙ e))
pair_front false b return next one other size none e = absurd (no_value (sym (ap (option_map (λ size. 1 + size)) none) ∙ e))

later_only : (later : Option ℕ) (size : ℕ) → option_map (λ size. 1 + size) later ≡ Some size → size ≤ 2
    → ((rest : ℕ) → later ≡ Some rest → 2 ≤ rest) → ⊥
later_only None size e within more = no_value e
later_only (Some rest) size e within more = omega (arith, same_value e, within, more rest refl)

pair_within : (a b return next : Bool) (one other : Option ℕ) (size : ℕ)
    → choice (a && (b && true)) (a && (return && next)) other ≡ Some size → size ≤ 2 → ((rest : ℕ) → other ≡ Some rest → 2 ≤ rest)
    → choice (a && (b && true)) (a && (return && false)) one ≡ Some size
pair_within true true return next one other size e within more = e
pair_within true false true true one other size e within more = absurd (omega (arith, same_value e, within))
pair_within true false true false one other size e within more = absurd (later_only other size e within more)
pair_within true false false next one other size e within more = absurd (later_only other size e within more)
pair_within false b return next one other size e within more = absurd (later_only other size e within more)

-- what follows a whole head doesn't matter
pub head_front : (head more : List ℕ) (size : ℕ) → head_length head ≡ Some size → head_length (head ++ more) ≡ Some size
head_front [] more size e = absurd (no_value e)
head_front (a ∷ []) more size e = absurd (no_value (sym (lone (a == 10)) ∙ e))
head_front (a ∷ b ∷ []) more size e =
    pair_front (a == 10) (b == 10) (b == 13) (begins (10 ∷ []) more) (head_length (b ∷ [])) (head_length (b ∷ more)) size (lone (b == 10)) e
head_front (a ∷ b ∷ c ∷ rest) more size e =
    choice_same (feeds a b) (returns a b c) (head_length (b ∷ c ∷ rest)) (head_length (b ∷ c ∷ rest ++ more)) size e
    (λ size later. head_front (b ∷ c ∷ rest) more size later)

choice_within : (feed return : Bool) (one other : Option ℕ) (size most : ℕ) → choice feed return one ≡ Some size → size ≤ 1 + most
    → ((rest : ℕ) → one ≡ Some rest → rest ≤ most → other ≡ Some rest) → choice feed return other ≡ Some size
choice_within true return one other size most e within more = e
choice_within false true one other size most e within more = e
choice_within false false None other size most e within more = absurd (no_value e)
choice_within false false (Some rest) other size most e within more =
    ap (option_map (λ size. 1 + size)) (more rest refl (omega (arith, same_value e, within))) ∙ e

-- a head that these bytes hold
pub head_within : (bytes more : List ℕ) (size : ℕ) → head_length (bytes ++ more) ≡ Some size → size ≤ length bytes → head_length bytes ≡ Some size
head_within [] more size e within = absurd (omega (arith, two_at_least more size e, within))
head_within (a ∷ []) more size e within = absurd (omega (arith, two_at_least (a ∷ more) size e, within))
head_within (a ∷ b ∷ []) more size e within =
    pair_within (a == 10) (b == 10) (b == 13) (begins (10 ∷ []) more) (head_length (b ∷ [])) (head_length (b ∷ more)) size e (omega (arith, within))
    (λ rest later. two_at_least (b ∷ more) rest later)
head_within (a ∷ b ∷ c ∷ rest) more size e within =
    choice_within (feeds a b) (returns a b c) (head_length (b ∷ c ∷ rest ++ more)) (head_length (b ∷ c ∷ rest)) size (length (b ∷ c ∷ rest)) e (omega (arith, within))
    (λ size later most. head_within (b ∷ c ∷ rest) more size later most)

pair_size : (a b return : Bool) (later : Option ℕ) (size : ℕ) → later ≡ None → choice (a && (b && true)) (a && (return && false)) later ≡ Some size → size ≤ 2
pair_size true true return later size none e = omega (arith, same_value e)
pair_size true false true later size none e = absurd (no_value (sym (ap (option_map (λ size. 1 + size)) none) ∙ e))
pair_size true false false later size none e = absurd (no_value (sym (ap (option_map (λ size. 1 + size)) none) ∙ e))
pair_size false b return later size none e = absurd (no_value (sym (ap (option_map (λ size. 1 + size)) none) ∙ e))

choice_size : (feed return : Bool) (later : Option ℕ) (size most : ℕ) → choice feed return later ≡ Some size → 2 ≤ most
    → ((rest : ℕ) → later ≡ Some rest → rest ≤ most) → size ≤ 1 + most
choice_size true return later size most e some more = omega (arith, same_value e, some)
choice_size false true later size most e some more = omega (arith, same_value e, some)
choice_size false false None size most e some more = absurd (no_value e)
choice_size false false (Some rest) size most e some more = omega (arith, same_value e, more rest refl)

-- a head is no longer than the bytes that begin with it
pub head_size : (bytes : List ℕ) (size : ℕ) → head_length bytes ≡ Some size → size ≤ length bytes
head_size [] size e = absurd (no_value e)
head_size (a ∷ []) size e = absurd (no_value (sym (lone (a == 10)) ∙ e))
head_size (a ∷ b ∷ []) size e = pair_size (a == 10) (b == 10) (b == 13) (head_length (b ∷ [])) size (lone (b == 10)) e
head_size (a ∷ b ∷ c ∷ rest) size e =
    let within : size ≤ 1 + length (b ∷ c ∷ rest)
    = choice_size (feeds a b) (returns a b c) (head_length (b ∷ c ∷ rest)) size (length (b ∷ c ∷ rest)) e (omega arith)
    (λ size later. head_size (b ∷ c ∷ rest) size later) in
    omega (arith, within)
