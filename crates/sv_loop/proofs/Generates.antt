-- What is told of a generated run, and of words that are refused, by the number of the status.
use Rattle.std.proofs.Common.{arith, ◌≡◌, ◌⊎◌, ℕ, List, [], ◌∷◌, Option, Some, None, inl, inr, refl, sym, subst, ap, ◌∙◌}
use Rattle.std.proofs.lemmas.Fmt.{decimal_injective}
use Rattle.std.specs.Io.KnownBytes.{Appends, Keeps}
use Rattle.sv_loop.specs.Generating.{AreGen, Generates, generated_line}
use Rattle.sv_loop.specs.Replaying.{Refuses, status_number, usage}
use Rattle.sv_loop.specs.Telling.{Tells, TellsLine}
use Rattle.sv_loop.specs.declared.replaying.Status.{Status}
use Rattle.sv_loop.specs.declared.replaying.Status.TheVariants.{Done, WordsRefused}
use Rattle.sv_out.specs.Written.{AppendsFront}

keeps : (left : Option (List ℕ)) → Keeps left left
keeps None = tt
keeps (Some bytes) = refl

-- the words say one number
same_number : (words : List (List ℕ)) (n k : ℕ) → AreGen words n → AreGen words k → n ≡ k
same_number (verb ∷ word ∷ []) n k one other =
    decimal_injective n k (omega (arith, one.1.most)) (omega (arith, other.1.most)) (sym one.1.spelled ∙ other.1.spelled)
same_number [] n k one other = absurd one
same_number (verb ∷ []) n k one other = absurd one
same_number (verb ∷ word ∷ more ∷ words) n k one other = absurd one

told : (text : List ℕ) (status : Status) (got : ℕ) (old new : Option (List ℕ)) → got ≡ status_number status
    → TellsLine text Done old new status
    → ((got ≡ 0) × Appends old new text) ⊎ ((got ≡ 3) × Appends old new []) ⊎ ((got ≡ 4) × AppendsFront old new text)
told text status got old new is (inl (inl whole)) = inl (is ∙ ap status_number whole.0, whole.1)
told text status got old new is (inl (inr half)) = inr (inr (is ∙ ap status_number half.0, half.1))
told text status got old new is (inr none) = inr (inl (is ∙ ap status_number none.0, none.1))

pub generates : (words : List (List ℕ)) (number found : ℕ) (status : Status) (got : ℕ) (left old new : Option (List ℕ))
    → AreGen words number → AreGen words found → got ≡ status_number status
    → TellsLine (generated_line found) Done old new status → Generates number got left left old new
generates words number found status got left old new said read is tells =
    subst (λ (n : ℕ). Generates n got left left old new) (same_number words found number read said)
    (keeps left, told (generated_line found) status got old new is tells)

pub refuses : (status : Status) (got : ℕ) (left old new : Option (List ℕ)) → got ≡ status_number status
    → Tells usage WordsRefused old new status → Refuses got left left old new
refuses status got left old new is (inl whole) = (keeps left, inl (is ∙ ap status_number whole.0, whole.1))
refuses status got left old new is (inr half) = (keeps left, inr (is ∙ ap status_number half.0, half.1))
