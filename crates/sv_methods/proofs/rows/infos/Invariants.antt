use Rattle.std.proofs.Common.{◌≡◌, ◌++◌, drop, map}
use Rattle.sv_xmlcall.specs.Trees.{view}
use Rattle.sv_methods.specs.Processes.{infos, infos_from}
use Rattle.sv_methods.proofs.rows.infos.Given as goal

abbrev pub invariant-loop-place : goal.invariant-loop-place
invariant-loop-place l =
    map view l.values.items ++ infos_from l.roster l.place (drop l.place l.children) l.now ≡ infos l.roster l.children l.now
