use Rattle.std.proofs.Common.{◌≡◌, drop}
use Rattle.sv_logs.specs.Opening.{groups_begin}
use Rattle.sv_logs.proofs.opening.begin_groups.Given as goal

abbrev pub invariant-loop-group : goal.invariant-loop-group
invariant-loop-group l = record {
  begun : groups_begin (drop l.group-index l.groups) l.sizes ≡ groups_begin l.groups l.initial.sizes;
}
