-- What a world of threads gives next.
use Rattle.std.specs.Prelude.{◌≡◌, ◌==◌, ◌∷◌, ℕ, Bool, List, [], IfOk, OnErr, Option, None, Some}
use Rattle.std.specs.Prelude.{Result, Ok}
use Rattle.std.specs.List.{list_any}
use Rattle.sv_jobs.specs.declared.notes.Note.{Note}
use Rattle.sv_out.specs.declared.input.Input.{Input}
use Rattle.sv_out.specs.declared.input.Input.TheVariants.{Failed}
use Rattle.sv_threads.specs.Answers.{input_of_answer}
use Rattle.sv_threads.specs.Hearing.{Hears, Refuses}
use Rattle.sv_threads.specs.declared.answers.Answer.{Answer}

-- this number is among those of the orders that failed
abbrev pub tells : ℕ → List ℕ → Bool
tells n failures = list_any (λ (number : ℕ). number == n) failures

-- a failure first, then the answer, then the next note that is an input
abbrev pub Gives : {E : Type 0} → List ℕ → Option Answer → Option ℕ → ℕ → List (ℕ × Note)
    → List (ℕ × Note) → Result Input E → Type 0
Gives (number ∷ later) answer next count taken taken_after result =
    (result ≡ Ok (Failed number)) × (taken_after ≡ taken)
Gives [] (Some answer) next count taken taken_after result =
    (result ≡ Ok (input_of_answer answer)) × (taken_after ≡ taken)
Gives [] None next count taken taken_after result =
    IfOk result (Hears next count taken taken_after)
    × OnErr result (Refuses count taken taken_after)

-- the failures that aren't told yet, after one call
abbrev pub failures_left : List ℕ → List ℕ
failures_left [] = []
failures_left (number ∷ later) = later

-- the answer that isn't given yet, after one call
abbrev pub answer_left : List ℕ → Option Answer → Option Answer
answer_left [] answer = None
answer_left (number ∷ later) answer = answer
