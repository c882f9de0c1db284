use Rattle.std.proofs.Common.{◌≡◌, ◌++◌, ◌≤◌, ◌+◌, ℕ, List, length}
use Rattle.sv_sections.specs.Programs.Homes.{homes_from}
use Rattle.sv_sections.specs.Programs.HomesByName.{homes_for}
use Rattle.sv_sections.proofs.programs.homes.homes_by_name.Given as goal

abbrev pub invariant-loop-left : goal.invariant-loop-left
invariant-loop-left l = record {
  same : (program : List ℕ) → homes_for l.homes program ++ homes_from l.place program l.left ≡ homes_from 0 program l.named;
  few : l.place + length l.left ≤ length l.named;
}

abbrev pub decreases-loop-left : goal.decreases-loop-left
decreases-loop-left l = length l.left
