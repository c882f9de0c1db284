-- What a pump reads and posts.
use Rattle.std.specs.Prelude.{◌≡◌, ◌++◌, ℕ, List, Option, map}
use Rattle.std.specs.Io.KnownBytes.{Consumes, IsAtEnd}
use Rattle.std.specs.List.{concat}
use Rattle.sv_base.specs.declared.ids.Run.{Run}
use Rattle.sv_base.specs.declared.state.Stream.{Stream}
use Rattle.sv_jobs.specs.LastNotes.{last_notes}
use Rattle.sv_jobs.specs.declared.notes.Note.{Note}
use Rattle.sv_jobs.specs.declared.notes.Note.TheVariants.{Out, OutEnd}
use Rattle.sv_outside.specs.declared.jobs.PumpEnd.{PumpEnd}
use Rattle.sv_outside.specs.declared.jobs.PumpEnd.TheVariants.{Ended}

-- the bytes that were read are, in order, those of the pieces that were posted
pub record Pumping (run : Run) (stream : Stream) (left left_after : Option (List ℕ))
    (notes notes_after : List Note) : Type 0 where
  pub pieces : List (List ℕ)
  pub bytes : Consumes left left_after (concat pieces)
  pub posted : notes_after ≡ notes ++ map (Out run stream) pieces

-- and after them stands the end of the stream; where the work ended well, nothing is left to read
pub record Pumped (run : Run) (stream : Stream) (end : PumpEnd) (left left_after : Option (List ℕ))
    (notes notes_after : List Note) : Type 0 where
  pub pieces : List (List ℕ)
  pub bytes : Consumes left left_after (concat pieces)
  pub posted : notes_after ≡ (notes ++ map (Out run stream) pieces)
      ++ last_notes end (OutEnd run stream)
  pub whole : end ≡ Ended → IsAtEnd left_after
