use Rattle.std.proofs.Common.{◌≡◌, ◌+◌, ℕ, List, [], length, take, drop}
use Rattle.std.specs.HashSet.{contains_text}
use Rattle.std.specs.List.{list_any}
use Rattle.std.specs.Str.{bytes_eq}
use Rattle.sv_base.specs.declared.spec.GroupSpec.{GroupSpec}
use Rattle.sv_conf.specs.Configuration.{each_once}
use Rattle.sv_conf.proofs.groups.each_once.Given as goal

abbrev pub invariant-loop-left : goal.invariant-loop-left
invariant-loop-left l = record {
  same : each_once (take l.place l.groups) l.left ≡ each_once [] l.groups;
  seen : (name : List ℕ) → contains_text l.names name ≡ list_any (λ (other : GroupSpec). bytes_eq other.name name) (take l.place l.groups);
  rest : l.left ≡ drop l.place l.groups;
  few : l.place + length l.left ≡ length l.groups;
}

abbrev pub decreases-loop-left : goal.decreases-loop-left
decreases-loop-left l = length l.left
