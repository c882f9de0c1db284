-- The status of a daemon, and the line that it leaves.
use Rattle.std.specs.Prelude.{◌≡◌, ◌⊎◌, ◌++◌, ◌∷◌, ℕ, List, [], Option, codes}
use Rattle.std.specs.Fmt.{decimal}
use Rattle.std.specs.Io.KnownBytes.{Appends}
use Rattle.sv_base.specs.Ascii.{line_feed}
use Rattle.sv_out.specs.Faults.{Rose}
use Rattle.sv_out.specs.Written.{AppendsFront}
use Rattle.sv_supervise.specs.declared.outcome.Outcome.{Outcome}
use Rattle.sv_supervise.specs.declared.outcome.Outcome.TheVariants.{Usage, NoFile, Refused}
use Rattle.sv_supervise.specs.declared.outcome.Outcome.TheVariants.{Unreadable, NoMemory, Unwritten}
use Rattle.sv_supervise.specs.declared.outcome.Outcome.TheVariants.{Halted, WorldFailed, InputEnded}
use Rattle.sv_supervise.specs.declared.outcome.Outcome.TheVariants.{Full, Misplaced}

-- the status
abbrev pub status_of : Outcome → ℕ
status_of Usage = 2
status_of (NoFile file) = 2
status_of (Refused fault) = 2
status_of (Unreadable name) = 8
status_of NoMemory = 3
status_of Unwritten = 7
status_of Halted = 0
status_of WorldFailed = 4
status_of InputEnded = 5
status_of Full = 6
status_of (Misplaced number) = 9

-- the line with its line feed; empty where there is none
abbrev pub report_of : Outcome → List ℕ
report_of Usage = codes "Error: usage: supervisord -c FILE [--journal] [-n]" ++ line_feed ∷ []
report_of (NoFile file) = codes "Error: no file " ++ file ++ line_feed ∷ []
report_of (Refused fault) = codes "Error: conf " ++ fault ++ line_feed ∷ []
report_of (Unreadable name) = codes "Error: cannot read " ++ name ++ line_feed ∷ []
report_of NoMemory = []
report_of Unwritten = []
report_of Halted = []
report_of WorldFailed = codes "Error: the world failed" ++ line_feed ∷ []
report_of InputEnded = codes "Error: the input ended" ++ line_feed ∷ []
report_of Full = codes "Error: too many inputs" ++ line_feed ∷ []
report_of (Misplaced number) = codes "Error: misplaced input " ++ decimal number ++ line_feed ∷ []

-- the outcome was told on a sink with this status: its line was written and the status is its own,
-- or memory was refused and nothing was written, or the line couldn't be written, and the sink's
-- count of faults rose
abbrev pub Tells : Outcome → Option (List ℕ) → Option (List ℕ) → ℕ → ℕ → ℕ → Type 0
Tells outcome written written_now faults faults_now status =
    ((status ≡ status_of outcome) × Appends written written_now (report_of outcome))
    ⊎ (((status ≡ 3) × Appends written written_now [])
    ⊎
    ((status ≡ 7) × AppendsFront written written_now (report_of outcome)
    × Rose faults faults_now))
