use Rattle.std.proofs.Common.{◌≡◌, ◌+◌, ℕ, List, length, take, drop}
use Rattle.sv_ini.specs.Places.{HasPlaces}
use Rattle.sv_ini.specs.declared.section.Section.{Section}
use Rattle.sv_sections.proofs.joined.places_of.Given as goal

abbrev pub invariant-loop-left : goal.invariant-loop-left
invariant-loop-left l = record {
  has : HasPlaces (λ (s : Section). s.name) l.places (take l.place l.sections);
  rest : l.left ≡ drop l.place l.sections;
  few : l.place + length l.left ≡ length l.sections;
}

abbrev pub decreases-loop-left : goal.decreases-loop-left
decreases-loop-left l = length l.left
