-- Counts that went up, one call after another.
use Rattle.std.proofs.Common.{◌≤◌, ◌-◌, ◌^◌, ℕ, arith, min}
use Rattle.sv_ctl.specs.Ask.Asking.{RisesFor}
use Rattle.sv_out.specs.Faults.{RisesWhere, counted}

pub rises_for : (first mid last : ℕ) (answer : Type 0) → min first (2 ^ 64 - 1) ≤ mid → RisesFor mid last answer
    → RisesFor first last answer
rises_for first mid last answer before rises = record {
  later = grind (arith, before, rises.later);
  rose = λ is. let more : counted mid ≤ last = rises.rose is in grind (arith, before, more);
}

pub rises_where : (first mid last : ℕ) (answer : Type 0) → first ≤ mid → RisesWhere mid last answer → RisesWhere first last answer
rises_where first mid last answer before rises = record {
  later = omega (arith, before, rises.later);
  rose = λ is. let more : counted mid ≤ last = rises.rose is in grind (arith, before, more);
}
