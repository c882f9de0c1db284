use Rattle.std.proofs.Common.{◌≡◌, ◌+◌, ℕ, List, length, take, drop}
use Rattle.sv_ini.specs.Places.{HasPlaces}
use Rattle.sv_sections.proofs.keyed.places_of.Given as goal

abbrev pub invariant-loop-left : goal.invariant-loop-left
invariant-loop-left l = record {
  has : HasPlaces (λ (key : List ℕ × List ℕ). key.0) l.places (take l.place l.keys);
  rest : l.left ≡ drop l.place l.keys;
  few : l.place + length l.left ≡ length l.keys;
}

abbrev pub decreases-loop-left : goal.decreases-loop-left
decreases-loop-left l = length l.left
