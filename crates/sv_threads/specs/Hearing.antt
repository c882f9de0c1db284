-- How notes become inputs.
use Rattle.std.specs.Prelude.{◌≡◌, ◌==◌, ◌+◌, ◌-◌, ◌^◌, ◌++◌, ◌∷◌, ℕ, Bool, true, false, List, []}
use Rattle.std.specs.Prelude.{MatchOption, Option, None, Some, Result, Ok, Err, remove}
use Rattle.std.specs.List.{list_all}
use Rattle.std.specs.Option.{ForSome}
use Rattle.sv_jobs.specs.declared.notes.Note.{Note}
use Rattle.sv_jobs.specs.declared.notes.Note.TheVariants as notes
use Rattle.sv_parts.specs.Links.Links as links
use Rattle.sv_parts.specs.Links.Noting as links_noting
use Rattle.sv_parts.specs.declared.links.live_links.LiveLinks.{LiveLinks}
use Rattle.sv_out.specs.declared.input.Input.{Input}
use Rattle.sv_out.specs.declared.input.Input.TheVariants as inputs
use Rattle.sv_parts.specs.Runs.Lives as runs
use Rattle.sv_parts.specs.Runs.Noting as runs_noting
use Rattle.sv_parts.specs.declared.runs.live_runs.LiveRuns.{LiveRuns}

-- a note as an input at a moment, after so many links; what was written, and out of memory, are
-- none
abbrev pub stamped : ℕ → ℕ → Note → Option Input
stamped at count notes.Tick = Some (inputs.Tick at)
stamped at count (notes.Exit run how) = Some (inputs.Exit at run how)
stamped at count (notes.Out run stream bytes) = Some (inputs.Out at run stream bytes)
stamped at count (notes.OutEnd run stream) = Some (inputs.OutEnd at run stream)
stamped at count (notes.Open side) = Some (inputs.Open at (record { 0 = count + 1 }) side)
stamped at count (notes.Piece link bytes) = Some (inputs.Piece at link bytes)
stamped at count (notes.LinkEnd link) = Some (inputs.LinkEnd at link)
stamped at count (notes.Signal signal) = Some (inputs.Signal at signal)
stamped at count (notes.Start name) = Some (inputs.Start at name)
stamped at count (notes.Stop name) = Some (inputs.Stop at name)
stamped at count (notes.Wrote run) = None
stamped at count (notes.StdinEnd run) = None
stamped at count (notes.Sent link) = None
stamped at count notes.NoMemory = None

-- a note that is passed over: what was written, and an open after the last number
abbrev pub is_quiet : ℕ → Note → Bool
is_quiet count notes.Tick = false
is_quiet count (notes.Exit run how) = false
is_quiet count (notes.Out run stream bytes) = false
is_quiet count (notes.OutEnd run stream) = false
is_quiet count (notes.Open side) = count == 2 ^ 32 - 1
is_quiet count (notes.Piece link bytes) = false
is_quiet count (notes.LinkEnd link) = false
is_quiet count (notes.Signal signal) = false
is_quiet count (notes.Start name) = false
is_quiet count (notes.Stop name) = false
is_quiet count (notes.Wrote run) = true
is_quiet count (notes.StdinEnd run) = true
is_quiet count (notes.Sent link) = true
is_quiet count notes.NoMemory = false

-- a note at which memory is refused: one that says so, and an open, for which memory is taken
abbrev pub may_refuse : Note → Bool
may_refuse notes.NoMemory = true
may_refuse (notes.Open side) = true
may_refuse note = false

-- this note is told as this input, at the moment of the clock
pub record IsTold (note : Note) (next : Option ℕ) (count : ℕ) (input : Input) : Type 0 where
  pub at : ℕ
  pub moment : ForSome next (λ told. at ≡ told)
  pub told : stamped at count note ≡ Some input

-- what one note comes to
abbrev pub HearsNote : {E : Type 0} → Note → Option ℕ → ℕ → Result (Option Input) E → Type 0
HearsNote note next count (Ok (Some input)) = IsTold note next count input
HearsNote note next count (Ok None) = is_quiet count note ≡ true
HearsNote note next count (Err error) = may_refuse note ≡ true

-- notes, each taken from some seat, that are all passed over
abbrev pub are_quiet : ℕ → List (ℕ × Note) → Bool
are_quiet count heard = list_all (λ (x : ℕ × Note). is_quiet count x.1) heard

-- the next note that isn't passed over was taken, and is this input
pub record Hears (next : Option ℕ) (count : ℕ) (taken taken_after : List (ℕ × Note))
    (input : Input) : Type 0 where
  pub quiet : List (ℕ × Note)
  pub seat : ℕ
  pub note : Note
  pub grew : taken_after ≡ (taken ++ quiet) ++ (seat, note) ∷ []
  pub passed : are_quiet count quiet ≡ true
  pub told : IsTold note next count input

-- memory was refused at the next note that isn't passed over
pub record Refuses (count : ℕ) (taken taken_after : List (ℕ × Note)) : Type 0 where
  pub quiet : List (ℕ × Note)
  pub seat : ℕ
  pub note : Note
  pub grew : taken_after ≡ (taken ++ quiet) ++ (seat, note) ∷ []
  pub passed : are_quiet count quiet ≡ true
  pub refused : may_refuse note ≡ true

-- how many links there were, after this input
abbrev pub count_after : Input → ℕ → ℕ
count_after (inputs.Open at link side) count = count + 1
count_after input count = count

-- how many links there were, after this call
abbrev pub count_after_call : {E : Type 0} → Result Input E → ℕ → ℕ
count_after_call (Ok input) count = count_after input count
count_after_call (Err error) count = count

-- a link that is opened is one more; no link whose job was started changes
pub record CountsLink {K : Type 0} (input : Input) (old new : LiveLinks K) : Type 0 where
  pub count : new.count ≡ count_after input old.count
  pub lives : new.lives ≡ old.lives
  pub lost : new.lost ≡ old.lost

-- no number was given
pub record CountsNone {K : Type 0} (old new : LiveLinks K) : Type 0 where
  pub count : new.count ≡ old.count
  pub lives : new.lives ≡ old.lives
  pub lost : new.lost ≡ old.lost

-- what taking a note in leaves of the links
abbrev pub KeepsLinks : {K E : Type 0} → Result (Option Input) E → LiveLinks K → LiveLinks K
    → Type 0
KeepsLinks (Ok (Some input)) old new = CountsLink input old new
KeepsLinks (Ok None) old new = new ≡ old
KeepsLinks (Err error) old new = CountsNone old new

module _ {P K : Type 0} where
  -- what a note changes of what is known of runs and links
  abbrev pub Settles : Note → LiveRuns P → LiveRuns P → LiveLinks K → LiveLinks K → Type 0
  Settles (notes.Exit run how) old new links_old links_new =
      MatchOption (runs.place_of run.0 old.lives.items) (new.lives ≡ old.lives)
      (λ place. runs_noting.Leaves place old.lives.items new.lives.items)
      × (links_new ≡ links_old)
  Settles (notes.Wrote run) old new links_old links_new =
      MatchOption (runs.place_of run.0 old.lives.items) (new.lives ≡ old.lives)
      (λ place. runs.ChangesAt place runs_noting.Settles old.lives.items new.lives.items)
      × (links_new ≡ links_old)
  Settles (notes.StdinEnd run) old new links_old links_new =
      MatchOption (runs.place_of run.0 old.lives.items) (new.lives ≡ old.lives)
      (λ place. runs.ChangesAt place runs_noting.Closes old.lives.items new.lives.items)
      × (links_new ≡ links_old)
  Settles (notes.Sent link) old new links_old links_new =
      MatchOption (links.place_of link.0 links_old.lives.items) (links_new.lives ≡ links_old.lives)
      (λ place. links.ChangesAt place links_noting.Settles links_old.lives.items
      links_new.lives.items)
      × (new ≡ old)
  Settles (notes.LinkEnd link) old new links_old links_new =
      MatchOption (links.place_of link.0 links_old.lives.items) (links_new.lives ≡ links_old.lives)
      (λ place. links_new.lives.items ≡ remove links_old.lives.items place)
      × (new ≡ old)
  Settles note old new links_old links_new = (new ≡ old) × (links_new ≡ links_old)

  -- what these notes change, one after the other
  abbrev pub SettleAll : List (ℕ × Note) → LiveRuns P → LiveRuns P → LiveLinks K → LiveLinks K
      → Type 0
  SettleAll [] old new links_old links_new = (new ≡ old) × (links_new ≡ links_old)
  SettleAll (x ∷ heard) old new links_old links_new =
      (between : LiveRuns P) × (links_between : LiveLinks K)
      × Settles x.1 old between links_old links_between
      × SettleAll heard between new links_between links_new

  -- the notes that were taken, and nothing else, changed what is known of runs and of links whose
  -- jobs were started
  pub record SettlesTaken (taken taken_after : List (ℕ × Note)) (old new : LiveRuns P)
      (links_old links_new : LiveLinks K) : Type 0 where
    pub heard : List (ℕ × Note)
    pub settled : LiveLinks K
    pub grew : taken_after ≡ taken ++ heard
    pub known : SettleAll heard old new links_old settled
    pub lives : links_new.lives ≡ settled.lives
    pub lost : links_new.lost ≡ settled.lost
