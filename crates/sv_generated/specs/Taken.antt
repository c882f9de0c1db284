-- How far a run was taken, and what is known of the machine meanwhile.
use Rattle.std.specs.Prelude.{◌≡◌, ◌≤◌, ℕ, zero, suc, List, false, length}
use Rattle.sv_base.specs.Limits.{process_limit}
use Rattle.sv_base.specs.declared.config.Config.{Config}
use Rattle.sv_base.specs.declared.config.Host.{Host}
use Rattle.sv_core.specs.Deeds.{after, deeds}
use Rattle.sv_core.specs.MachineState.{Model, hand, opening}
use Rattle.sv_core.specs.StandsFor.{StandsFor}
use Rattle.sv_core.specs.Sweeps.{Turn}
use Rattle.sv_core.specs.Sweeps.Turn.{Done, Ask}
use Rattle.sv_core.specs.declared.machine.Machine.{Machine}
use Rattle.sv_core.specs.declared.part.Question.TheVariants.{Spawn}
use Rattle.sv_core.specs.declared.part.Reply.TheVariants.{Started}
use Rattle.sv_generated.specs.Counted.{Counted, spawns}
use Rattle.sv_generated.specs.declared.counts.Counts.{Counts}
use Rattle.sv_groups.specs.StartOrder.{processes}
use Rattle.sv_out.specs.declared.input.Input.{Input}

-- how a daemon begins
pub record Beginning : Type 0 where
  pub config : Config
  pub sizes : List (List ℕ × ℕ)
  pub host : Host

abbrev pub first_of : Beginning → Model
first_of begins = opening begins.config begins.sizes begins.host

-- the machine is one that begins, with few processes
pub record Begins (machine : Machine) (begins : Beginning) : Type 0 where
  pub stands : StandsFor machine (first_of begins)
  pub few : length (processes begins.config.groups) ≤ process_limit

-- the machine took these inputs, and its orders are counted
pub record IsAfter (machine : Machine) (counts : Counts) (first : Model) (inputs : List Input)
    : Type 0 where
  pub stands : StandsFor machine (after first inputs)
  pub counted : Counted counts (deeds first inputs)

-- at most so many questions come, one after the other, where each is answered by the start of a
-- process: each is a spawn, and few were given
abbrev pub AsksFew : ℕ → Turn → Type 0
AsksFew most (Done w) = Unit {0}
AsksFew zero (Ask w question onward) = ⊥
AsksFew (suc most) (Ask w question onward) =
    (question ≡ Spawn) × (w.course.halted ≡ false) × (spawns w.given ≤ 4294967195)
    × ((pid : ℕ) → AsksFew most (onward w (Started pid)))

-- the machine is in a turn that asks so few
pub record IsAsking (machine : Machine) (counts : Counts) (most : ℕ) : Type 0 where
  pub begins : Beginning
  pub inputs : List Input
  pub is_after : IsAfter machine counts (first_of begins) inputs
  pub few : AsksFew most (hand (after (first_of begins) inputs))
