use Rattle.std.proofs.Common.{◌≡◌}
use Rattle.sv_children.proofs.Watching.{first_of_both}
use Rattle.sv_children.specs.Awake.{wakes_of}
use Rattle.sv_groups.specs.StartOrder.{pairs_of}
use Rattle.sv_children.proofs.watch.wake_all.Given as goal

abbrev pub invariant-loop-place : goal.invariant-loop-place
invariant-loop-place l =
    l.agenda ≡ first_of_both l.place (wakes_of (pairs_of l.roster) l.children) l.initial.agenda
