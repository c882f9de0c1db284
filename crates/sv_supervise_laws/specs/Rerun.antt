-- What the journal of a daemon says, and what comes of it where it is replayed.
use Rattle.std.specs.Prelude.{◌≡◌, ◌≤◌, ℕ, List, [], ◌∷◌, ◌++◌, Bool, true, ◌&&◌, Option, Some, map}
use Rattle.std.specs.Prelude.{length, nat_lt, if◌then◌else◌}
use Rattle.std.specs.Io.KnownBytes.{Appends}
use Rattle.sv_base.specs.declared.config.Host.{Host}
use Rattle.sv_supervise.specs.declared.begin.beginning.Beginning.{Beginning}
use Rattle.sv_core.specs.Deeds.{deeds}
use Rattle.sv_core.specs.MachineState.{Model, accepts, next, orders}
use Rattle.sv_logs.specs.Sizes.{Sizes, is_before}
use Rattle.sv_judge.specs.JournalPlaces.{Line, AllFit, journal_text, order_text}
use Rattle.sv_loop.specs.Replaying.{Done, journal_limit}
use Rattle.sv_loop.specs.WholeJournal.{Entry, HoldsGoodJournal, inputs_in, journal_lines}
use Rattle.sv_loop.specs.WholeJournal.Beginning.{Long}
use Rattle.sv_loop.specs.WholeJournal.Entry.{Told, Given}
use Rattle.sv_out.specs.declared.input.Input.{Input}
use Rattle.sv_supervise.specs.Supervising.{machine_of}

-- the sizes above 0
abbrev pub told_sizes : Sizes → Sizes
told_sizes [] = []
told_sizes (known ∷ sizes) = if nat_lt 0 known.1 then known ∷ told_sizes sizes else told_sizes sizes

-- this name stands before the first of these, if there is one
abbrev pub is_first : {A : Type 0} → List ℕ → List (List ℕ × A) → Bool
is_first name [] = true
is_first name (entry ∷ entries) = is_before name entry.0

-- the names rise by their bytes, so that each stands once
abbrev pub names_rise : {A : Type 0} → List (List ℕ × A) → Bool
names_rise [] = true
names_rise (entry ∷ entries) = is_first entry.0 entries && names_rise entries

-- each input, and after it the orders that it gave
abbrev pub entries_of : Model → List Input → List Entry
entries_of m [] = []
entries_of m (i ∷ is) =
    if accepts m i then Told i ∷ (map Given (orders m i) ++ entries_of (next m i) is)
    else entries_of m is

-- the lines of the journal of a daemon that began so and was given these inputs
abbrev pub daemon_lines : Beginning → Host → List Input → List Line
daemon_lines beginning host inputs =
    journal_lines
    (Long host (told_sizes beginning.sizes.items) beginning.loaded.main
    beginning.loaded.included)
    (entries_of (machine_of beginning host) inputs)

-- the lines can stand in a journal, which isn't too long
pub record IsWithinLimits (lines : List Line) : Type 0 where
  pub fit : AllFit lines
  pub short : length (journal_text lines) ≤ journal_limit

-- the journal holds these lines, whose inputs are these; it is a good one, and where it is
-- replayed, the lines of the deeds of these inputs are written
pub record IsRerun (journal : Option (List ℕ)) (beginning : Beginning) (host : Host)
    (inputs : List Input) : Type 0 where
  pub said : journal ≡ Some (journal_text (daemon_lines beginning host inputs))
  pub inputs_are : inputs_in (entries_of (machine_of beginning host) inputs) ≡ inputs
  pub good : HoldsGoodJournal journal
  pub replayed : (left old new : Option (List ℕ)) → Done journal left old new
      → Appends old new (order_text (deeds (machine_of beginning host) inputs))
