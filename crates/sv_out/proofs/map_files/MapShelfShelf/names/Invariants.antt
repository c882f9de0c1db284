use Rattle.std.proofs.Common.{◌≡◌, ◌++◌}
use Rattle.std.specs.List.{filter}
use Rattle.sv_out.specs.Patterns.{matches}
use Rattle.sv_out.proofs.map_files.MapShelfShelf.names.Given as goal

abbrev pub invariant-loop-name : goal.invariant-loop-name
invariant-loop-name l = l.names.items ++ filter (matches l.pattern) l.name-iterator ≡ filter (matches l.pattern) l.initial.name-iterator
