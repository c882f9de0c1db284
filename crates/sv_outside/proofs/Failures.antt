-- Which orders may be told to have failed, after one more was handed over.
use Rattle.std.proofs.Common.{◌≡◌, ℕ, Bool, true, false, ◌&&◌, List, [], ◌∷◌, ◌++◌, length, inl, inr, sym, ap, ◌∙◌, arith, length-append}
use Rattle.std.specs.Prelude.{nat_lt}
use Rattle.std.proofs.lemmas.Bool.{false≢true, cases_lt, and_from, and_parts, ltb-true, lt-ltb}
use Rattle.sv_out.specs.declared.input.Input.{Input}
use Rattle.sv_outside.specs.Worlds.{tell_failure}

-- the order handed over last is not among them, where nothing tells of it
pub could_before : {A : Type 0} (before after : List A) (last : A) (n number : ℕ) (told : Bool) (inputs : List Input)
    → after ≡ before ++ last ∷ [] → number ≡ length before → told ≡ tell_failure number inputs → told ≡ false
    → (nat_lt n (length after) && tell_failure n inputs) ≡ true → (nat_lt n (length before) && tell_failure n inputs) ≡ true
could_before before after last n number told inputs is counted is_told none may =
    let parts = and_parts (nat_lt n (length after)) (tell_failure n inputs) may in
    elim (cases_lt n (length before)) [
      | inl below ↦ and_from (nat_lt n (length before)) (tell_failure n inputs) (lt-ltb n (length before) below) parts.1
      | inr above ↦
          let small = ltb-true n (length after) parts.0 in
          let longer = ap length is ∙ length-append before (last ∷ []) in
          let same : number ≡ n = omega arith in
          absurd (false≢true (sym none ∙ is_told ∙ ap (λ (m : ℕ). tell_failure m inputs) same ∙ parts.1))
    ]
