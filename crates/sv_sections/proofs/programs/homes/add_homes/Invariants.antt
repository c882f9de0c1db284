use Rattle.std.proofs.Common.{◌≡◌, ◌++◌, ℕ, List, length}
use Rattle.sv_sections.specs.Programs.Homes.{homes_in}
use Rattle.sv_sections.specs.Programs.HomesByName.{homes_for}
use Rattle.sv_sections.proofs.programs.homes.add_homes.Given as goal

abbrev pub invariant-loop-left : goal.invariant-loop-left
invariant-loop-left l = (program : List ℕ)
    → homes_for l.homes program ++ homes_in l.place program l.named.group l.left ≡ homes_for l.initial.homes program ++ homes_in l.place program l.named.group l.named.programs

abbrev pub decreases-loop-left : goal.decreases-loop-left
decreases-loop-left l = length l.left
