-- A list and its first cut.
use Rattle.std.proofs.Common.{◌≡◌, ◌<◌, ◌==◌, ℕ, zero, suc, List, [], ◌∷◌, ◌++◌, Bool, true, false, Option, None, Some, length, take, drop, refl, ap, ◌∙◌, arith}
use Rattle.std.specs.Prelude.{option_map, if◌then◌else◌}
use Rattle.std.proofs.lemmas.Bool.Decides.{nat_tests}
use Rattle.memchr.specs.Find.{Nowhere, Passes, is_byte}
use Rattle.sv_listener.specs.Reading.{cut_at}

-- what holds of both arms of a choice
cond_by : {A : Type 0} (P : A → Type 0) (b : Bool) (x y : A) → (b ≡ true → P x) → (b ≡ false → P y) → P (if b then x else y)
cond_by P true x y f g = f refl
cond_by P false x y f g = g refl

eq_true : (a b : ℕ) → (a == b) ≡ true → a ≡ b
eq_true a b e = grind (arith, nat_tests)

eq_is : (a b : ℕ) → a ≡ b → (a == b) ≡ true
eq_is a b s = grind (arith, nat_tests)

eq_false : (a b : ℕ) → (a == b) ≡ false → a ≡ b → ⊥
eq_false a b e s = grind (arith, nat_tests)

-- a cut of what follows these bytes
abbrev pub with_front : List ℕ → Option (List ℕ × List ℕ) → Option (List ℕ × List ℕ)
with_front front None = None
with_front front (Some parts) = Some (front ++ parts.0, parts.1)

cut_other : (stop byte : ℕ) (more : List ℕ) → (byte ≡ stop → ⊥)
    → cut_at stop (byte ∷ more) ≡ option_map (λ parts. (byte ∷ parts.0, parts.1)) (cut_at stop more)
cut_other stop byte more other =
    cond_by (λ (r : Option (List ℕ × List ℕ)). r ≡ option_map (λ parts. (byte ∷ parts.0, parts.1)) (cut_at stop more)) (byte == stop)
    (Some ([], more)) (option_map (λ parts. (byte ∷ parts.0, parts.1)) (cut_at stop more))
    (λ same. absurd (other (eq_true byte stop same))) (λ _. refl)

cut_here : (stop byte : ℕ) (more : List ℕ) → byte ≡ stop → cut_at stop (byte ∷ more) ≡ Some ([], more)
cut_here stop byte more same =
    cond_by (λ (r : Option (List ℕ × List ℕ)). r ≡ Some ([], more)) (byte == stop)
    (Some ([], more)) (option_map (λ parts. (byte ∷ parts.0, parts.1)) (cut_at stop more))
    (λ _. refl) (λ other. absurd (eq_false byte stop other same))

-- the first byte like this has a place
pub cut_none : (stop : ℕ) (bytes : List ℕ) → Nowhere (Passes (is_byte stop) bytes) 0 (length bytes) → cut_at stop bytes ≡ None
cut_none stop [] nowhere = refl
cut_none stop (byte ∷ bytes) nowhere =
    cut_other stop byte bytes (λ same. nowhere 0 (omega arith) (omega arith) (eq_is byte stop same))
    ∙ ap (λ (cut : Option (List ℕ × List ℕ)). option_map (λ parts. (byte ∷ parts.0, parts.1)) cut)
    (cut_none stop bytes (λ place low high. nowhere (suc place) (omega arith) (omega (arith, high))))

pub cut_first : (stop : ℕ) (bytes : List ℕ) (place : ℕ) → place < length bytes → Nowhere (Passes (is_byte stop) bytes) 0 place
    → Passes (is_byte stop) bytes place
    → ◌≡◌ {A = Option (List ℕ × List ℕ)} (cut_at stop bytes) (Some (take place bytes, drop (suc place) bytes))
cut_first stop [] place within before here = absurd (omega (arith, within))
cut_first stop (byte ∷ bytes) zero within before here = cut_here stop byte bytes (eq_true byte stop here)
cut_first stop (byte ∷ bytes) (suc place) within before here =
    cut_other stop byte bytes (λ same. before 0 (omega arith) (omega arith) (eq_is byte stop same))
    ∙ ap (λ (cut : Option (List ℕ × List ℕ)). option_map (λ parts. (byte ∷ parts.0, parts.1)) cut)
    (cut_first stop bytes place (omega (arith, within)) (λ k low high. before (suc k) (omega arith) (omega (arith, high))) here)

-- what was cut

same_value : {A : Type 0} {one other : A} → Some one ≡ Some other → one ≡ other
same_value is = cc

same_parts : (bytes others rest more : List ℕ) → ◌≡◌ {A = Option (List ℕ × List ℕ)} (Some (bytes, rest)) (Some (others, more))
    → (bytes ≡ others) × (rest ≡ more)
same_parts bytes others rest more is =
    let pair : List ℕ × List ℕ = (bytes, rest) in
    let also : List ℕ × List ℕ = (others, more) in
    let same : pair ≡ also = same_value is in
    (ap (λ (p : List ℕ × List ℕ). p.0) same, ap (λ (p : List ℕ × List ℕ). p.1) same)

pub record Cuts (stop : ℕ) (bytes front rest : List ℕ) : Type 0 where
  pub parts : bytes ≡ front ++ stop ∷ rest
  pub again : (more : List ℕ) → cut_at stop (bytes ++ more) ≡ Some (front, rest ++ more)

pub cuts : (stop : ℕ) (bytes front rest : List ℕ) → ◌≡◌ {A = Option (List ℕ × List ℕ)} (cut_at stop bytes) (Some (front, rest)) → Cuts stop bytes front rest
cuts stop [] front rest is = absurd (cc)
cuts stop (byte ∷ bytes) front rest is = by_test (byte == stop) refl (λ f r e. cuts stop bytes f r e) is
  where
    by_cut : (cut : Option (List ℕ × List ℕ)) → cut_at stop bytes ≡ cut → (byte ≡ stop → ⊥)
        → ((f r : List ℕ) → ◌≡◌ {A = Option (List ℕ × List ℕ)} (cut_at stop bytes) (Some (f, r)) → Cuts stop bytes f r)
        → ◌≡◌ {A = Option (List ℕ × List ℕ)} (option_map (λ parts. (byte ∷ parts.0, parts.1)) cut) (Some (front, rest)) → Cuts stop (byte ∷ bytes) front rest
    by_cut None is_cut other further is = absurd (cc)
    by_cut (Some parts) is_cut other further is =
        let pair = same_parts (byte ∷ parts.0) front parts.1 rest is in
        let later : Cuts stop bytes parts.0 parts.1 = further parts.0 parts.1 is_cut in
        record {
          parts = ap (λ b. byte ∷ b) later.parts ∙ ap (λ f. f ++ stop ∷ parts.1) pair.0 ∙ ap (λ r. front ++ stop ∷ r) pair.1;
          again = λ more. cut_other stop byte (bytes ++ more) other ∙ ap (λ cut. option_map (λ parts. (byte ∷ parts.0, parts.1)) cut) (later.again more)
              ∙ ap (λ (f : List ℕ). Some (f, parts.1 ++ more)) pair.0 ∙ ap (λ (r : List ℕ). Some (front, r ++ more)) pair.1;
        }

    by_test : (test : Bool) → (byte == stop) ≡ test
        → ((f r : List ℕ) → ◌≡◌ {A = Option (List ℕ × List ℕ)} (cut_at stop bytes) (Some (f, r)) → Cuts stop bytes f r)
        → ◌≡◌ {A = Option (List ℕ × List ℕ)} (if test then Some ([], bytes) else option_map (λ parts. (byte ∷ parts.0, parts.1)) (cut_at stop bytes)) (Some (front, rest))
        → Cuts stop (byte ∷ bytes) front rest
    by_test true test further is =
        let here : byte ≡ stop = eq_true byte stop test in
        let pair = same_parts [] front bytes rest is in
        record {
          parts = ap (λ b. b ∷ bytes) here ∙ ap (λ f. f ++ stop ∷ bytes) pair.0 ∙ ap (λ r. front ++ stop ∷ r) pair.1;
          again = λ more. cut_here stop byte (bytes ++ more) here ∙ ap (λ (f : List ℕ). Some (f, bytes ++ more)) pair.0
              ∙ ap (λ (r : List ℕ). Some (front, r ++ more)) pair.1;
        }
    by_test false test further is = by_cut (cut_at stop bytes) refl (λ same. eq_false byte stop test same) further is
