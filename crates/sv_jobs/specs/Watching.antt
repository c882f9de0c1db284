-- What a watch posts.
use Rattle.std.specs.Prelude.{◌≡◌, ◌++◌, ◌∷◌, List, [], Result, Ok, Err}
use Rattle.sv_base.specs.declared.ids.Run.{Run}
use Rattle.sv_base.specs.declared.state.How.{How}
use Rattle.sv_base.specs.declared.state.How.TheVariants.{Code}
use Rattle.sv_jobs.specs.declared.notes.Note.{Note}
use Rattle.sv_jobs.specs.declared.notes.Note.TheVariants.{Exit}
use Rattle.sv_out.specs.declared.failed.Failed as call
use Rattle.sv_outside.specs.declared.jobs.PumpEnd.{PumpEnd}
use Rattle.sv_outside.specs.declared.jobs.PumpEnd.TheVariants.{Ended, Failed}

-- the end that a waiter answered; a failure is told as the code 255
abbrev pub how_of : Result How call.Failed → How
how_of (Ok how) = how
how_of (Err failed) = Code 255

-- how the watch ends by that
abbrev pub end_of : Result How call.Failed → PumpEnd
end_of (Ok how) = Ended
end_of (Err failed) = Failed

-- the waiter gave one answer, and that is the one note
pub record Watched {W : Type 0} (answers : W → Result How call.Failed → W → Type 0) (run : Run)
    (end : PumpEnd) (waiter waiter_after : W) (notes notes_after : List Note) : Type 0 where
  pub answer : Result How call.Failed
  pub answered : answers waiter answer waiter_after
  pub posted : notes_after ≡ notes ++ Exit run (how_of answer) ∷ []
  pub is : end ≡ end_of answer
