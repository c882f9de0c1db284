use Rattle.std.proofs.Common.{◌≡◌, ◌-◌, ◌≤◌, ℕ, drop, length}
use Rattle.sv_timers.specs.NextDue.{next_in}
use Rattle.sv_timers.proofs.list.first_from.Given as goal

abbrev pub invariant-loop-place : goal.invariant-loop-place
invariant-loop-place l =
    (later : ℕ) → l.from ≤ later → next_in later (drop l.place l.children) ≡ next_in later (drop l.told l.children)

abbrev pub decreases-loop-place : goal.decreases-loop-place
decreases-loop-place l = length l.children - l.place
