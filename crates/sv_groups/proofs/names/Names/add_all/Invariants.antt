use Rattle.std.proofs.Common.{◌≡◌, take}
use Rattle.sv_groups.specs.Names.{with_names, with_processes}
use Rattle.sv_groups.proofs.names.Names.add_all.Given as goal

abbrev pub invariant-loop-group : goal.invariant-loop-group
invariant-loop-group l = record {
  names : l.self.groups.keys ≡ with_names l.initial.self.groups.keys (take l.group-index l.groups);
  processes : l.self.processes.keys ≡ with_processes l.initial.self.processes.keys (take l.group-index l.groups);
}
