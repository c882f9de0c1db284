-- Words of which a part was said, over plain lists.
use Rattle.std.proofs.Common.{◌≡◌, ◌≢◌, ◌<◌, ◌+◌, ◌==◌, ℕ, suc, List, [], ◌∷◌, ◌++◌, length, take, drop, get_or, Bool, true, false, nat_lt, cond, refl, ap, sym, ◌∙◌, arith, append_assoc, length-drop, drop-cons}
use Rattle.std.proofs.lemmas.Bool.{and_parts}
use Rattle.std.proofs.lemmas.Bool.Decides.{nat_tests}
use Rattle.std.proofs.lemmas.List.{append_cancel_left, take_more, take-append-drop}
use Rattle.sv_pipes.specs.TalkPlaces.{is_next}

pub no_bytes : (xs : List ℕ) → length xs ≡ 0 → xs ≡ []
no_bytes [] none = refl
no_bytes (x ∷ xs) none = absurd (omega arith)

-- what holds of both arms of a choice
pub cond_by : {A : Type 0} (P : A → Type 0) (b : Bool) (x y : A) → (b ≡ true → P x) → (b ≡ false → P y) → P (cond b x y)
cond_by P true x y f g = f refl
cond_by P false x y f g = g refl

pub eq_true : (a b : ℕ) → (a == b) ≡ true → a ≡ b
eq_true a b e = grind (arith, nat_tests)

pub eq_false : (a b : ℕ) → (a == b) ≡ false → a ≡ b → ⊥
eq_false a b e s = grind (arith, nat_tests)

pub lt_true : (a b : ℕ) → nat_lt a b ≡ true → a < b
lt_true a b e = grind (arith, nat_tests)

pub next_is : (word : List ℕ) (count byte : ℕ) → is_next word count byte ≡ true → get_or word count 0 ≡ byte
next_is word count byte e = eq_true (get_or word count 0) byte (and_parts (nat_lt count (length word)) (get_or word count 0 == byte) e).1

pub next_not : (word : List ℕ) (count byte : ℕ) → is_next word count byte ≡ false → count < length word → get_or word count 0 ≡ byte → ⊥
next_not word count byte e within same = grind (arith, nat_tests)

-- the part that was said grows by its next byte
pub word_more : (word : List ℕ) (count byte : ℕ) → count < length word → get_or word count 0 ≡ byte
    → take (count + 1) word ≡ take count word ++ byte ∷ []
word_more word count byte within same = take_more word count 0 within ∙ ap (λ b. take count word ++ b ∷ []) same

-- the part that was said, and what is left
pub word_split : (word : List ℕ) (count byte : ℕ) → count < length word → get_or word count 0 ≡ byte
    → (take count word ++ byte ∷ []) ++ drop (count + 1) word ≡ word
word_split word count byte within same =
    ap (λ front. front ++ drop (count + 1) word) (sym (word_more word count byte within same)) ∙ take-append-drop (count + 1) word

pub word_left : (word : List ℕ) (count : ℕ) → count < length word → drop count word ≢ []
word_left word count within none = absurd (omega (arith, length-drop count word, ap length none))

-- no word that goes on so has another byte there
pub word_outside : (word : List ℕ) (count byte : ℕ) (more tail : List ℕ) → count < length word → (get_or word count 0 ≡ byte → ⊥)
    → take count word ++ byte ∷ more ≡ word ++ tail → ⊥
word_outside word count byte more tail within other same =
    let whole : word ≡ take count word ++ get_or word count 0 ∷ drop (suc count) word
    = sym (take-append-drop count word) ∙ ap (λ back. take count word ++ back) (drop-cons word count 0 within) in
    let regrouped : word ++ tail ≡ take count word ++ get_or word count 0 ∷ (drop (suc count) word ++ tail)
    = ap (λ all. all ++ tail) whole ∙ append_assoc (take count word) (get_or word count 0 ∷ drop (suc count) word) tail in
    let heads : byte ∷ more ≡ get_or word count 0 ∷ (drop (suc count) word ++ tail)
    = append_cancel_left (take count word) (byte ∷ more) (get_or word count 0 ∷ (drop (suc count) word ++ tail)) (same ∙ regrouped) in
    other (cc)
