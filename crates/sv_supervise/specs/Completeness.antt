-- What a daemon comes to where nothing fails.
use Rattle.std.specs.Prelude.{◌≡◌, ◌⊎◌, ◌<◌, ◌^◌, ℕ, List, None, Some, Option, Err, true, length}
use Rattle.sv_supervise.specs.Arguments.{arguments_of}
use Rattle.sv_supervise.specs.declared.arguments.Arguments.{Arguments}
use Rattle.sv_base.specs.declared.config.Host.{Host}
use Rattle.sv_sections.specs.declared.fault.ConfFault.{ConfFault}
use Rattle.sv_core.specs.MachineState.{Model}
use Rattle.sv_supervise.specs.MainLoop.Course.{AreTaken}
use Rattle.sv_supervise.specs.MainLoop.Rules.{after}
use Rattle.sv_load.specs.Loading.{Loads}
use Rattle.sv_load.specs.declared.fault.LoadFault.TheVariants as fault_is
use Rattle.sv_out.specs.Faults.{Rose}
use Rattle.sv_out.specs.Files.{Files}
use Rattle.sv_out.specs.declared.input.Input.{Input}
use Rattle.sv_supervise.specs.Machines.{core_rules}
use Rattle.sv_supervise.specs.Supervising.{Reads, machine_of}

-- the words are taken, the file that they name is there, and its configuration isn't refused
pub record IsAccepted (words : List (List ℕ)) (host : Host) (files : Files) : Type 0 where
  pub arguments : Arguments
  pub said : arguments_of words ≡ Some arguments
  pub there : files arguments.file ≡ None → ⊥
  pub good : (fault : ConfFault) → Loads files arguments.file host (Err (fault_is.Refused fault))
      → ⊥

-- none of these counts rose: that of the world's breaks, and those of the shelf, the journal and
-- the output
pub record NoneRose (breaks breaks_now shelf shelf_now journal journal_now out out_now : ℕ) : Type 0
  where
    pub world : Rose breaks breaks_now → ⊥
    pub shelf_kept : Rose shelf shelf_now → ⊥
    pub journal_kept : Rose journal journal_now → ⊥
    pub out_kept : Rose out out_now → ⊥

-- each of these inputs is accepted where it comes, and the last one brings the halt
abbrev pub EndsInHalt : Model → List Input → Type 0
EndsInHalt m inputs =
    AreTaken core_rules m inputs × (core_rules.halted (after core_rules m inputs) ≡ true)

-- it halted, or memory was refused
abbrev pub IsDone : ℕ → Type 0
IsDone status = (status ≡ 0) ⊎ (status ≡ 3)

-- or the inputs ended, were too many, or one wasn't accepted
abbrev pub IsDoneOrStopped : ℕ → Type 0
IsDoneOrStopped status = IsDone status ⊎ ((status ≡ 5) ⊎ ((status ≡ 6) ⊎ (status ≡ 9)))

-- the inputs that are left are these, which bring the halt, and are few enough to be counted
pub record LeadsToHalt (words : List (List ℕ)) (host : Host) (files : Files)
    (left : Option (List Input)) : Type 0 where
  pub inputs : List Input
  pub all : left ≡ Some inputs
  pub few : length inputs < 2 ^ 64
  pub halts : (reads : Reads words host files) → EndsInHalt (machine_of reads.beginning host) inputs

-- what is promised of the status where nothing fails and the words and files are accepted
pub record IsComplete (words : List (List ℕ)) (host : Host) (files : Files)
    (left : Option (List Input)) (status : ℕ) : Type 0 where
  pub stopped : IsDoneOrStopped status
  pub done : LeadsToHalt words host files left → IsDone status
