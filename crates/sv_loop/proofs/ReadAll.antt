-- A journal is read piece by piece.
use Rattle.std.proofs.Common.{◌≡◌, ℕ, ◌-◌, ◌≤◌, List, [], ◌∷◌, ◌++◌, length, length-append, Option, subst, append-nil, arith}
use Rattle.std.proofs.KnownBytes.{Consumes-trans}
use Rattle.std.specs.Io.KnownBytes.{Consumes, IsAtEnd}
use Rattle.sv_loop.proofs.RunSteps.{goes_further, stops_further}
use Rattle.sv_judge.specs.JournalPlaces.{Line, Stage}
use Rattle.sv_loop.specs.Reading.{IsAt, GoesOn, StopsAt}
use Rattle.sv_loop.specs.Replaying.{Taken, ReadOn, ReadsOn, Ended}
use Rattle.sv_loop.specs.Telling.{IsBehind}
use Rattle.sv_loop.specs.declared.replaying.Ending.{Ending}
use Rattle.sv_loop.specs.declared.replaying.Ending.TheVariants.{Whole, Broken, Full, Stopped}
use Rattle.sv_loop.specs.declared.run.End.{End}
use Rattle.sv_loop.specs.declared.run.Run.{Run}
use Rattle.sv_out.specs.declared.order.Order.{Order}

pub reads_more : (run later : Run) (room : ℕ) (one two three : Option (List ℕ)) (old mid new : Option (List ℕ)) (piece : List ℕ)
    → ReadsOn run room one two old mid → Consumes two three piece → length piece ≤ room
    → ((lines : List Line) (at : Stage) (g : List Order) (b : List ℕ) → IsAt run lines at g b → GoesOn later (b ++ piece) g mid new)
    → ReadsOn later (room - length piece) one three old new
reads_more run later room one two three old mid new piece reads took fits step = record {
  bytes = reads.bytes ++ piece;
  consumed = Consumes-trans one two three reads.bytes piece reads.consumed took;
  size = omega (arith, reads.size, length-append reads.bytes piece);
  goes = goes_further run later reads.bytes piece [] old mid new reads.goes step;
}

pub read_stops : (end : End) (run later : Run) (room : ℕ) (one two three : Option (List ℕ)) (old mid new : Option (List ℕ)) (piece : List ℕ)
    → ReadsOn run room one two old mid → Consumes two three piece → length piece ≤ room
    → ((lines : List Line) (at : Stage) (g : List Order) (b : List ℕ) → IsAt run lines at g b → StopsAt end later (b ++ piece) g mid new)
    → (bytes : List ℕ) × Taken one three bytes × StopsAt end later bytes [] old new
read_stops end run later room one two three old mid new piece reads took fits step =
    let P : List ℕ → Type 0 = λ b. StopsAt end later b [] old new in (
      reads.bytes ++ piece,
      record {
        consumed = Consumes-trans one two three reads.bytes piece reads.consumed took;
        within = omega (arith, reads.size, length-append reads.bytes piece);
      },
      subst P (append-nil (reads.bytes ++ piece)) (stops_further end run later reads.bytes piece [] [] old mid new reads.goes step),
    )

read_on : (run : Run) (room : ℕ) (one two three old new : Option (List ℕ)) → ReadsOn run room one two old new → Consumes two three []
    → ReadOn run one three old new
read_on run room one two three old new reads took =
    let P : List ℕ → Type 0 = λ b. Consumes one three b in
    record {
      bytes = reads.bytes;
      taken = record {
        consumed = subst P (append-nil reads.bytes) (Consumes-trans one two three reads.bytes [] reads.consumed took);
        within = omega (arith, reads.size);
      };
      goes = reads.goes;
    }

pub ended_at_end : (run : Run) (room : ℕ) (one two three old new : Option (List ℕ)) → ReadsOn run room one two old new → Consumes two three [] → IsAtEnd three
    → ReadOn run one three old new × IsAtEnd three
ended_at_end run room one two three old new reads took at_end = (read_on run room one two three old new reads took, at_end)

pub ended_behind : (ending : Ending) (run : Run) (room : ℕ) (one two three old new : Option (List ℕ)) → room ≡ 0 → ReadsOn run room one two old new
    → IsBehind ending two three → Ended ending run one three old new
ended_behind Whole run room one two three old new none reads found = (read_on run room one two three old new reads found.0, found.1)
ended_behind Broken run room one two three old new none reads found = read_on run room one two three old new reads found
ended_behind Full run room one two three old new none reads found =
    (reads.bytes, found.0, Consumes-trans one two three reads.bytes (found.0 ∷ []) reads.consumed found.1, omega (arith, reads.size, none), reads.goes)
ended_behind (Stopped end) run room one two three old new none reads found = absurd found
