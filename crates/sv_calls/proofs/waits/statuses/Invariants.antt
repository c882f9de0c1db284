use Rattle.std.proofs.Common.{◌≡◌, ◌++◌, drop, map}
use Rattle.sv_xmlcall.specs.Trees.{view}
use Rattle.sv_calls.specs.Waits.{statuses}
use Rattle.sv_calls.proofs.waits.statuses.Given as goal

abbrev pub invariant-loop-asked : goal.invariant-loop-asked
invariant-loop-asked l =
    map view l.values.items ++ statuses l.roster l.children l.wait (drop l.asked-index l.rows) ≡ statuses l.roster l.children l.wait l.rows
