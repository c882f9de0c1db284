-- What the reader of a journal knows of the place that it has come to, and what it answers of a
-- line there.
use Rattle.std.specs.Prelude.{◌≡◌, ℕ, List, [], Result, Ok, Err}
use Rattle.sv_core.specs.MachineState.{Model}
use Rattle.sv_core.specs.StandsFor.{StandsFor}
use Rattle.sv_core.specs.declared.machine.Machine.{Machine}
use Rattle.sv_judge.specs.JournalPlaces.{Stage, Verdict, Leads, IsBadLine, IsNotAccepted}
use Rattle.sv_judge.specs.JournalPlaces.{IsNotConfigured}
use Rattle.sv_judge.specs.JournalPlaces.Verdict.{Stands as As_stands, BadLine as As_bad_line}
use Rattle.sv_judge.specs.JournalPlaces.Verdict.{NotConfigured as As_not_configured}
use Rattle.sv_judge.specs.JournalPlaces.Stage.{Fresh as At_title, Named as At_programs}
use Rattle.sv_judge.specs.JournalPlaces.Stage.{Long as At_long, Running as At_inputs}
use Rattle.sv_out.specs.declared.order.Order.{Order}
use Rattle.sv_judge.specs.declared.judging.Refused.{Refused}
use Rattle.sv_judge.specs.declared.judging.Refused.TheVariants.{BadLine, NotAccepted}
use Rattle.sv_judge.specs.declared.judging.Refused.TheVariants.{NotConfigured, NoMemory}
use Rattle.sv_judge.specs.declared.judging.JournalProgress.{JournalProgress}
use Rattle.sv_judge.specs.declared.judging.JournalProgress.TheVariants.{Fresh, Named, Long, Running}

-- the machine is at this place
abbrev pub IsMachine : Machine → Stage → Type 0
IsMachine machine (At_inputs m) = StandsFor machine m
IsMachine machine at = ⊥

-- the place is this one
abbrev pub IsPlace : JournalProgress → Stage → Type 0
IsPlace Fresh At_title = Unit {0}
IsPlace (Named groups) (At_programs kept) = groups ≡ kept
IsPlace (Long place) (At_long kept) = place ≡ kept
IsPlace (Running machine) at = IsMachine machine.value at
IsPlace place at = ⊥

-- the machine runs
abbrev pub IsRunning : JournalProgress → Type 0
IsRunning (Running machine) = Unit {0}
IsRunning other = ⊥

-- the line leads to such a place, with these orders
pub record LeadsTo (at : Stage) (text : List ℕ) (Is : Stage → Type 0) (orders : List Order) : Type 0
  where
    pub to : Stage
    pub leads : Leads at text to orders
    pub is_place : Is to

-- what the answer says of a header at a place where only headers stand
abbrev pub JudgedHead : Result JournalProgress Refused → Verdict → Type 0
JudgedHead (Ok place) verdict = (to : Stage) × (verdict ≡ As_stands to []) × IsPlace place to
JudgedHead (Err BadLine) verdict = verdict ≡ As_bad_line
JudgedHead (Err NotAccepted) verdict = ⊥
JudgedHead (Err (NotConfigured fault)) verdict = verdict ≡ As_not_configured fault
JudgedHead (Err NoMemory) verdict = Unit {0}

-- what the answer says of a line that leads to such a place, with these orders
abbrev pub JudgedAs : Result (Unit {0}) Refused → List Order → (Stage → Type 0) → Stage → List ℕ → Type 0
JudgedAs (Ok done) orders Is at text = LeadsTo at text Is orders
JudgedAs (Err BadLine) orders Is at text = IsBadLine at text
JudgedAs (Err NotAccepted) orders Is at text = IsNotAccepted at text
JudgedAs (Err (NotConfigured fault)) orders Is at text =
    IsNotConfigured at text (As_not_configured fault)
JudgedAs (Err NoMemory) orders Is at text = Unit {0}

-- what the answer says of a line behind a mark, which leads to its own place and gives no orders
abbrev pub JudgedNoted : Result (Unit {0}) Refused → Model → List ℕ → Type 0
JudgedNoted (Ok done) m text = Leads (At_inputs m) text (At_inputs m) []
JudgedNoted (Err BadLine) m text = IsBadLine (At_inputs m) text
JudgedNoted (Err NoMemory) m text = Unit {0}
JudgedNoted (Err other) m text = ⊥
