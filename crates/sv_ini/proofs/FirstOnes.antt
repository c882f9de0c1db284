-- Names that are added where they aren't there yet are each there once, in order of first appearance.
use Rattle.std.proofs.Common.{◌≡◌, ℕ, List, [], ◌∷◌, ◌++◌, Bool, true, false, ◌||◌, ◌&&◌, cond, refl, sym, ap, ◌∙◌}
use Rattle.std.proofs.lemmas.List.{append-nil}
use Rattle.std.proofs.lemmas.List.Folds.{list_any-append}
use Rattle.std.proofs.lemmas.Slice.Eq.{bytes_eq-Decides}
use Rattle.std.specs.List.{filter, list_any}
use Rattle.std.specs.Prelude.{not, if◌then◌else◌}
use Rattle.std.specs.Str.{bytes_eq}
use Rattle.sv_ini.specs.Appearances.{first_ones}

abbrev pub is_in : List (List ℕ) → List ℕ → Bool
is_in names name = list_any (λ m. bytes_eq m name) names

abbrev pub add : List (List ℕ) → List ℕ → List (List ℕ)
add names name = if is_in names name then names else names ++ name ∷ []

abbrev pub adds : List (List ℕ) → List (List ℕ) → List (List ℕ)
adds names [] = names
adds names (name ∷ more) = adds (add names name) more

both_if : {X : Type 0} (a b : Bool) (q : X → Bool) (x : X) (rest all : List X) → q x ≡ b → filter q rest ≡ all
    → filter q (cond a (x ∷ rest) rest) ≡ cond (a && b) (x ∷ all) all
both_if true true q x rest all e h = rw (e, h) refl
both_if true false q x rest all e h = rw (e, h) refl
both_if false b q x rest all e h = h

pub filter_both : {X : Type 0} (p q r : X → Bool) → ((x : X) → r x ≡ (p x && q x)) → (xs : List X)
    → filter q (filter p xs) ≡ filter r xs
filter_both p q r h [] = refl
filter_both p q r h (x ∷ xs) =
    both_if (p x) (q x) q x (filter p xs) (filter r xs) refl (filter_both p q r h xs)
    ∙ ap (λ (b : Bool). cond b (x ∷ filter r xs) (filter r xs)) (sym (h x))

-- what is in the list passes over what equals it
in_past : (test : Bool) (names : List (List ℕ)) (name other : List ℕ) → is_in names name ≡ true → bytes_eq name other ≡ test
    → not (is_in names other) ≡ (not test && not (is_in names other))
in_past true names name other there e =
    ap not (sym (ap (is_in names) ((bytes_eq-Decides name other).0 e)) ∙ there)
in_past false names name other there e = refl

or_not : (a b : Bool) → not (a || (b || false)) ≡ (not b && not a)
or_not true true = refl
or_not true false = refl
or_not false true = refl
or_not false false = refl

append_one : (names : List (List ℕ)) (name : List ℕ) (more : List (List ℕ)) → (names ++ name ∷ []) ++ more ≡ names ++ name ∷ more
append_one [] name more = refl
append_one (n ∷ names) name more = ap (λ (ns : List (List ℕ)). n ∷ ns) (append_one names name more)

one_more : (test : Bool) (names : List (List ℕ)) (name : List ℕ) (more : List (List ℕ)) → is_in names name ≡ test
    → ((names : List (List ℕ)) → adds names more ≡ names ++ filter (λ n. not (is_in names n)) (first_ones more))
    → adds (if test then names else names ++ name ∷ []) more
    ≡ names ++ cond (not test) (name ∷ filter (λ n. not (is_in names n)) (filter (λ n. not (bytes_eq name n)) (first_ones more)))
    (filter (λ n. not (is_in names n)) (filter (λ n. not (bytes_eq name n)) (first_ones more)))
one_more true names name more there rest =
    rest names
    ∙ ap (λ (ns : List (List ℕ)). names ++ ns)
    (sym (filter_both (λ n. not (bytes_eq name n)) (λ n. not (is_in names n)) (λ n. not (is_in names n))
    (λ n. in_past (bytes_eq name n) names name n there refl) (first_ones more)))
one_more false names name more there rest =
    rest (names ++ name ∷ [])
    ∙ append_one names name _
    ∙ ap (λ (ns : List (List ℕ)). names ++ name ∷ ns)
    (sym (filter_both (λ n. not (bytes_eq name n)) (λ n. not (is_in names n)) (λ n. not (is_in (names ++ name ∷ []) n))
    (λ n. ap not (list_any-append (λ m. bytes_eq m n) names (name ∷ [])) ∙ or_not (is_in names n) (bytes_eq name n)) (first_ones more)))

pub adds_all : (more names : List (List ℕ)) → adds names more ≡ names ++ filter (λ n. not (is_in names n)) (first_ones more)
adds_all [] names = sym (append-nil names)
adds_all (name ∷ more) names = one_more (is_in names name) names name more refl (adds_all more)

kept_all : {X : Type 0} (xs : List X) → filter (λ x. true) xs ≡ xs
kept_all [] = refl
kept_all (x ∷ xs) = ap (λ ys. x ∷ ys) (kept_all xs)

pub adds_none : (more : List (List ℕ)) → adds [] more ≡ first_ones more
adds_none more = adds_all more [] ∙ kept_all (first_ones more)
