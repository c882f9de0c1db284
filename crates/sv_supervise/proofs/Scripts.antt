-- What is known of inputs that lead to the halt.
use Rattle.std.proofs.Common.{◌≡◌, ◌<◌, ◌+◌, ◌-◌, ◌^◌, ℕ, Bool, true, false, cond, List, [], ◌∷◌, ◌++◌, length, Option, None, Some, refl, sym, ap, ◌∙◌, subst, arith, append-nil, append_assoc, length-append}
use Rattle.sv_supervise.specs.MainLoop.Course.{AreTaken, GoesOn, IsRefused}
use Rattle.sv_supervise.specs.MainLoop.Journal.{Texts}
use Rattle.sv_supervise.specs.MainLoop.Rules.{Rules, after}
use Rattle.sv_supervise.specs.MainLoop.Telling.{IsUsedUp, Told, led}
use Rattle.sv_out.specs.declared.input.Input.{Input}

-- the inputs taken so far, of those that a world had
pub record TakenOf (inputs taken : List Input) (now : Option (List Input)) : Type 0 where
  pub rest : List Input
  pub left : now ≡ Some rest
  pub parts : inputs ≡ taken ++ rest

taken_of : (inputs taken : List Input) (now : Option (List Input)) → Some inputs ≡ led taken now → TakenOf inputs taken now
taken_of inputs taken None is = let no : Some inputs ≡ None = is in cc
taken_of inputs taken (Some rest) is =
    let same : Some inputs ≡ Some (taken ++ rest) = is in record { rest = rest; left = refl; parts = cc }

-- an input among those that are taken is accepted
taken_at : {M : Type 0} (R : Rules M) → (m : M) (before : List Input) (input : Input) (behind : List Input)
    → AreTaken R m (before ++ (input ∷ behind)) → R.accepts (after R m before) input ≡ true
taken_at R m [] input behind taken = taken.1
taken_at R m (i ∷ is) input behind taken =
    subst (λ s. R.accepts s input ≡ true) (sym (ap (λ (t : Bool). cond t (after R (R.next m i) is) (after R m is)) taken.1))
    (taken_at R (R.next m i) is input behind taken.2)

-- where these inputs are all that there are, the halt came
all_halted : {M : Type 0} (R : Rules M) → (m : M) (inputs taken rest : List Input) → R.halted (after R m inputs) ≡ true → R.halted (after R m taken) ≡ false
    → inputs ≡ taken ++ rest → length rest < 1 → ⊥
all_halted R m inputs taken [] halts going parts few =
    let same : inputs ≡ taken = parts ∙ append-nil taken in
    let still : R.halted (after R m inputs) ≡ false = ap (λ (is : List Input). R.halted (after R m is)) same ∙ going in
    let no : true ≡ false = sym halts ∙ still in cc
all_halted R m inputs taken (i ∷ is) halts going parts few = absurd (omega (arith, few))

-- the end of the inputs comes after the halt
pub ended_halted : {M : Type 0} (R : Rules M) (k : Texts) → (m : M) (old new : Told) (inputs taken : List Input) → old.left ≡ Some inputs
    → R.halted (after R m inputs) ≡ true → GoesOn R k m old new taken → IsUsedUp new → ⊥
ended_halted R k m old new inputs taken all halts goes used =
    let had : TakenOf inputs taken new.left = taken_of inputs taken new.left (sym all ∙ goes.0.went.left) in
    let none : length had.rest ≡ 0 = ap length (used had.rest had.left) in
    all_halted R m inputs taken had.rest halts goes.1 had.parts (omega arith)

-- and so does the end of the counting
pub full_halted : {M : Type 0} (R : Rules M) (k : Texts) → (m : M) (old new : Told) (inputs taken : List Input) → old.left ≡ Some inputs → length inputs < 2 ^ 64
    → R.halted (after R m inputs) ≡ true → GoesOn R k m old new taken → 0 + length taken ≡ 2 ^ 64 - 1 → ⊥
full_halted R k m old new inputs taken all few halts goes count =
    let had : TakenOf inputs taken new.left = taken_of inputs taken new.left (sym all ∙ goes.0.went.left) in
    let long : length inputs ≡ length taken + length had.rest = ap length had.parts ∙ length-append taken had.rest in
    let none : length had.rest < 1 = omega arith in
    all_halted R m inputs taken had.rest halts goes.1 had.parts none

-- no input is refused
pub refused_taken : {M : Type 0} (R : Rules M) (k : Texts) → (m : M) (old new : Told) (inputs : List Input) (number : ℕ) → old.left ≡ Some inputs → AreTaken R m inputs
    → IsRefused R k m old new number → ⊥
refused_taken R k m old new inputs number all taken refused =
    let given : List Input = refused.before ++ refused.last ∷ [] in
    let had : TakenOf inputs given new.left = taken_of inputs given new.left (sym all ∙ refused.went.left) in
    let parts : inputs ≡ refused.before ++ (refused.last ∷ had.rest) = had.parts ∙ append_assoc refused.before (refused.last ∷ []) had.rest in
    let accepted : R.accepts (after R m refused.before) refused.last ≡ true =
    taken_at R m refused.before refused.last had.rest (subst (λ (is : List Input). AreTaken R m is) parts taken) in
    let no : true ≡ false = sym accepted ∙ refused.refused in cc
