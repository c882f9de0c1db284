use Rattle.std.proofs.Common.{◌≡◌, fold, map, take}
use Rattle.indexmap.specs.IndexSet.{insert_key}
use Rattle.sv_base.specs.declared.spec.Spec.{Spec}
use Rattle.sv_groups.specs.Alike.{same_names}
use Rattle.sv_groups.proofs.names.add_processes.Given as goal

abbrev pub invariant-loop-member : goal.invariant-loop-member
invariant-loop-member l =
    l.processes.keys
    ≡ fold (insert_key same_names) l.initial.processes.keys
    (map (λ (m : Spec). (l.group.name, m.name)) (take l.member-index l.member-items))
