use Rattle.std.proofs.Common.{◌≡◌, length}
use Rattle.std.specs.Vec.Iter.{into_iter_items}
use Rattle.sv_conf.specs.Configuration.{groups_from}
use Rattle.sv_keys.specs.KnownNames.{host_names}
use Rattle.sv_conf.proofs.groups.all_groups.Given as goal

abbrev pub invariant-loop-left : goal.invariant-loop-left
invariant-loop-left l =
    groups_from l.sections (host_names l.host) l.groups l.left (into_iter_items l.there) ≡ groups_from l.sections (host_names l.host) l.initial.groups l.initial.left (into_iter_items l.initial.there)

abbrev pub decreases-loop-left : goal.decreases-loop-left
decreases-loop-left l = length l.left
