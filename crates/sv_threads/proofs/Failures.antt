-- Which orders may be told to have failed.
use Rattle.std.proofs.Common.{arith, ◌≡◌, ◌⊎◌, ◌||◌, ◌==◌, ◌+◌, ◌%◌, ◌^◌, ◌≤◌, ℕ, Bool, true, false, List, [], ◌∷◌, ◌++◌, OnOk, Result, Ok, Err, ap, inl, inr, refl, sym, ◌∙◌}
use Rattle.std.proofs.lemmas.Bool.{eqb-true}
use Rattle.std.proofs.lemmas.List.Folds.{list_any-append}
use Rattle.sv_outside.specs.declared.handing.Handed.{Handed}
use Rattle.sv_outside.specs.declared.handing.Handed.TheVariants.{Done, Failed}
use Rattle.sv_out.specs.Faults.{Rose, counted}
use Rattle.sv_out.specs.declared.order.Order.{Order}
use Rattle.sv_threads.specs.Giving.{failures_left, tells}
use Rattle.sv_threads.specs.Performing.{Count, Counts, HandsOn, HandsOver, Parts}
use Rattle.sv_outside.specs.Worlds.{MayFail}

or_right : (a b : Bool) → b ≡ true → (a || b) ≡ true
or_right true b is = refl
or_right false b is = is

or_parts : (a b : Bool) → (a || b) ≡ true → (a ≡ true) ⊎ (b ≡ true)
or_parts true b is = inl refl
or_parts false b is = inr is

or_false : (a : Bool) → (a || false) ≡ true → a ≡ true
or_false true is = refl
or_false false is = is

-- what is still told was told before
pub still_told : (failures left : List ℕ) (n : ℕ) → left ≡ failures_left failures → tells n left ≡ true → tells n failures ≡ true
still_told [] left n is told = sym (ap (tells n) is) ∙ told
still_told (number ∷ later) left n is told = or_right (number == n) (tells n later) (sym (ap (tells n) is) ∙ told)

-- one order more failed
pub may_fail : (failures new : List ℕ) (number faults now n : ℕ) → new ≡ failures ++ number ∷ [] → Rose faults now → tells n new ≡ true
    → MayFail (λ (m : ℕ). tells m failures) number faults now n
may_fail failures new number faults now n is rose told =
    elim (or_parts (tells n failures) (tells n (number ∷ []))
    (sym (list_any-append (λ (m : ℕ). m == n) failures (number ∷ [])) ∙ sym (ap (tells n) is) ∙ told)) [
      | inl before ↦ inl before
      | inr last ↦ inr (sym (eqb-true number n (or_false (number == n) last)), rose)
    ]

same_least : (a b : ℕ) → b ≡ a → a ≤ b
same_least a b is = omega arith

rose_as : (before now : ℕ) → now ≡ counted before → Rose before now
rose_as before now is = same_least (counted before) now is

told_before : (A E : Type 0) (given : Result Handed E) (before now : Count) (result : Result A E) (n : ℕ)
    → Counts given before now result → tells n now.failures ≡ true
    → MayFail (λ (m : ℕ). tells m before.failures) before.number before.faults now.faults n
told_before A E (Ok Done) before now (Ok done) n counts told =
    inl (sym (ap (λ (c : Count). tells n c.failures) counts) ∙ told)
told_before A E (Ok Failed) before now (Ok done) n counts told =
    may_fail before.failures now.failures before.number before.faults now.faults n
    (ap (λ (c : Count). c.failures) counts) (rose_as before.faults now.faults (ap (λ (c : Count). c.faults) counts)) told
told_before A E (Err error) before now (Ok done) n counts told = absurd counts
told_before A E given before now (Err error) n counts told =
    inl (sym (ap (λ (c : Count). tells n c.failures) counts) ∙ told)

numbered : (A E : Type 0) (given : Result Handed E) (before now : Count) (result : Result A E) → Counts given before now result
    → OnOk result (now.number ≡ (before.number + 1) % 2 ^ 64)
numbered A E (Ok Done) before now (Ok done) counts = ap (λ (c : Count). c.number) counts
numbered A E (Ok Failed) before now (Ok done) counts = ap (λ (c : Count). c.number) counts
numbered A E (Err error) before now (Ok done) counts = absurd counts
numbered A E given before now (Err error) counts = tt

module _ (K A E : Type 0) (order : Order) (old new : Parts K) (before now : Count) where
  -- an order that may be told to have failed was told so before, or failed now
  pub told_failed : (result : Result A E) (n : ℕ) → HandsOver order old new before now result → tells n now.failures ≡ true
      → MayFail (λ (m : ℕ). tells m before.failures) before.number before.faults now.faults n
  told_failed result n over told = told_before A E over.given before now result n over.counts told

  pub next_number : (result : Result A E) → HandsOver order old new before now result
      → OnOk result (now.number ≡ (before.number + 1) % 2 ^ 64)
  next_number result over = numbered A E over.given before now result over.counts

  -- an order that was handed on
  pub over_done : (done : A) → HandsOn {E = E} order old new (Ok Done)
      → now ≡ record before { number = (before.number + 1) % 2 ^ 64 } → HandsOver {E = E} order old new before now (Ok done)
  over_done done hands counts = record { given = Ok Done; hands = hands; counts = counts }

  -- one that failed
  pub over_failed : (done : A) → HandsOn {E = E} order old new (Ok Failed)
      → now ≡ record {
        number = (before.number + 1) % 2 ^ 64;
        failures = before.failures ++ before.number ∷ [];
        faults = counted before.faults;
      }
      → HandsOver {E = E} order old new before now (Ok done)
  over_failed done hands counts = record { given = Ok Failed; hands = hands; counts = counts }

  -- one at which memory was refused
  pub over_refused : (given : Result Handed E) (error : E) → HandsOn order old new given → now ≡ before
      → HandsOver {A = A} order old new before now (Err error)
  over_refused given error hands counts = record { given = given; hands = hands; counts = counts }
