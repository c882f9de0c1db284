-- What is written of a journal's header.
use Rattle.std.specs.Prelude.{◌≡◌, List, [], ℕ, Option, Result, Ok, Err}
use Rattle.std.specs.Io.KnownBytes.{Appends}
use Rattle.sv_out.specs.Written.{AppendsFront}
use Rattle.sv_supervise.specs.declared.journal.lines.HeaderFault.{HeaderFault}
use Rattle.sv_supervise.specs.declared.journal.lines.HeaderFault.TheVariants.{Unwritten, OutOfMemory}
use Rattle.sv_supervise.specs.declared.journal.lines.JournalLines.{JournalLines}
use Rattle.sv_supervise.specs.declared.journal.lines.JournalLines.TheVariants.{Kept, Quiet}

-- the text of the header, where a journal is kept
abbrev pub begun : JournalLines → List ℕ → List ℕ
begun Kept header = header
begun Quiet header = []

-- it was written whole, or a prefix of it where writing failed, or nothing where memory was refused
abbrev pub Begins : JournalLines → List ℕ → Option (List ℕ) → Option (List ℕ)
    → Result (Unit {0}) HeaderFault → Type 0
Begins lines header old new (Ok done) = Appends old new (begun lines header)
Begins lines header old new (Err Unwritten) = AppendsFront old new (begun lines header)
Begins lines header old new (Err OutOfMemory) = new ≡ old
