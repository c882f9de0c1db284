-- The words `gen N`: a generated run of 200 programs, and the line that is written of it.
use Rattle.std.specs.Prelude.{◌≡◌, ◌≤◌, ℕ, zero, suc, List, [], ◌∷◌, ◌++◌, ◌⊎◌, Option, codes}
use Rattle.std.specs.Fmt.{decimal}
use Rattle.std.specs.Io.KnownBytes.{Appends, Keeps}
use Rattle.sv_base.specs.declared.signal.Signal.TheVariants.{Term}
use Rattle.sv_base.specs.declared.state.Autorestart.TheVariants.{Always}
use Rattle.sv_core.specs.Deeds.{deeds}
use Rattle.sv_generated.specs.Counted.{run_line}
use Rattle.sv_generated.specs.Generated.{generated, program_name}
use Rattle.sv_generated.specs.Taken.{Beginning, first_of}
use Rattle.sv_journal.specs.declared.header.Program.{Program}
use Rattle.sv_judge.specs.ShortHeader.{config_of, host_at}
use Rattle.sv_loop.specs.WholeJournal.{groups_of}
use Rattle.sv_out.specs.Written.{AppendsFront}

-- the word is a number from 1 to 1,000,000, without leading zeros
pub record IsNumber (word : List ℕ) (number : ℕ) : Type 0 where
  pub spelled : word ≡ decimal number
  pub least : 1 ≤ number
  pub most : number ≤ 1000000

-- the words are `gen` and this number
abbrev pub AreGen : List (List ℕ) → ℕ → Type 0
AreGen (verb ∷ word ∷ []) number = (verb ≡ codes "gen") × IsNumber word number
AreGen words number = ⊥

-- the program of a line `program NAME 1 3 true 0 TERM 10`, by its number
abbrev pub program_of : ℕ → Program
program_of number = record {
  name = program_name number;
  startsecs = 1;
  startretries = 3;
  autorestart = Always;
  exitcodes = 0 ∷ [];
  stopsignal = Term;
  stopwaitsecs = 10;
}

-- the first so many programs, p000, p001 and so on
abbrev pub programs_to : ℕ → List Program
programs_to zero = []
programs_to (suc count) = programs_to count ++ program_of count ∷ []

-- the programs of the run, p000 to p199
unfoldable pub programs : List Program
programs = programs_to 200

-- the daemon of the short header with these programs and `go 0`, as it begins
abbrev pub run_begins : Beginning
run_begins = record { config = config_of (groups_of [] programs); sizes = []; host = host_at 0 }

-- the line of the run of so many inputs
unfoldable pub generated_line : ℕ → List ℕ
generated_line number =
    run_line number (deeds (first_of run_begins) (generated (first_of run_begins) number))

-- of a run of so many inputs nothing was read, and the line was written; or no memory was left for
-- it, or the sink failed
abbrev pub Generates : ℕ → ℕ → Option (List ℕ) → Option (List ℕ) → Option (List ℕ) → Option (List ℕ)
    → Type 0
Generates number got left left_after old new =
    Keeps left left_after
    × (((got ≡ 0) × Appends old new (generated_line number))
    ⊎ ((got ≡ 3) × Appends old new [])
    ⊎ ((got ≡ 4) × AppendsFront old new (generated_line number)))
