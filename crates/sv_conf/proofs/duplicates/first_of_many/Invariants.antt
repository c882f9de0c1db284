use Rattle.std.proofs.Common.{◌≡◌, ◌+◌, ℕ, List, [], length, take, drop}
use Rattle.std.specs.HashSet.{contains_text}
use Rattle.std.specs.List.{list_any}
use Rattle.std.specs.Str.{bytes_eq}
use Rattle.sv_base.specs.declared.spec.Spec.{Spec}
use Rattle.sv_conf.specs.Duplicates.{first_twice}
use Rattle.sv_conf.proofs.duplicates.first_of_many.Given as goal

abbrev pub invariant-loop-left : goal.invariant-loop-left
invariant-loop-left l = record {
  same : first_twice (take l.place l.members) l.left ≡ first_twice [] l.members;
  seen : (name : List ℕ) → contains_text l.names name ≡ list_any (λ (other : Spec). bytes_eq other.name name) (take l.place l.members);
  rest : l.left ≡ drop l.place l.members;
  few : l.place + length l.left ≡ length l.members;
}

abbrev pub decreases-loop-left : goal.decreases-loop-left
decreases-loop-left l = length l.left
