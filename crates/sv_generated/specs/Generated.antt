-- A generated run of the machine: the inputs that are drawn one after the other, each with the
-- answers of the spawns that it leads to.
use Rattle.std.specs.Prelude.{◌+◌, ◌/◌, ◌%◌, ◌++◌, ◌∷◌, ℕ, zero, suc, List, []}
use Rattle.sv_base.specs.Ascii.{letter_p}
use Rattle.sv_base.specs.declared.state.How.TheVariants.{Code}
use Rattle.sv_core.specs.Deeds.{after, deeds}
use Rattle.sv_core.specs.MachineState.{Model, hand}
use Rattle.sv_core.specs.Sweeps.{Turn}
use Rattle.sv_core.specs.Sweeps.Turn.{Done, Ask}
use Rattle.sv_core.specs.declared.part.Reply.TheVariants.{Started}
use Rattle.sv_generated.specs.Drawn.{nth_draw}
use Rattle.sv_generated.specs.declared.draw.Draw.{Draw}
use Rattle.sv_generated.specs.declared.draw.Draw.TheVariants as draw
use Rattle.sv_generated.specs.Counted.{spawns}
use Rattle.sv_out.specs.declared.input.Input.{Input}
use Rattle.sv_out.specs.declared.input.Input.TheVariants as input

-- the name of a program: p and three digits
abbrev pub program_name : ℕ → List ℕ
program_name number =
    letter_p ∷ (48 + number / 100 % 10) ∷ (48 + number / 10 % 10) ∷ (48 + number % 10) ∷ []

-- the input that was drawn
abbrev pub input_of : Draw → Input
input_of (draw.Tick at) = input.Tick at
input_of (draw.Exit at run) = input.Exit at run (Code 1)
input_of (draw.Stop at program) = input.Stop at (program_name program)
input_of (draw.Start at program) = input.Start at (program_name program)

-- the number of the process that the latest of these spawns starts: the spawn of run n is the nth,
-- and starts 100 + n
abbrev pub process_of : ℕ → ℕ
process_of spawned = 100 + spawned

-- the answers that a turn is given, one to each spawn
abbrev pub answers : Turn → List Input
answers (Done w) = []
answers (Ask w question onward) =
    input.Pid (process_of (spawns w.given))
    ∷ answers (onward w (Started (process_of (spawns w.given))))

-- these inputs, and the answers of the turn that they lead to
abbrev pub answered : Model → List Input → List Input
answered first inputs = inputs ++ answers (hand (after first inputs))

-- the inputs with one that is drawn after them, where these runs were issued
abbrev pub with_draw : Model → ℕ → ℕ → List Input → List Input
with_draw first number draws inputs =
    inputs ++ input_of (nth_draw number draws (spawns (deeds first inputs))) ∷ []

-- the inputs of the run of this number from a state on, as far as so many draws
abbrev pub inputs_after : Model → ℕ → ℕ → List Input
inputs_after first number zero = []
inputs_after first number (suc draws) =
    answered first (with_draw first number draws (inputs_after first number draws))

-- the whole run: it has as many draws as its number says
abbrev pub generated : Model → ℕ → List Input
generated first number = inputs_after first number number
