use Rattle.std.proofs.Common.{◌≡◌, ◌++◌}
use Rattle.sv_links.proofs.Listed.{ids}
use Rattle.sv_links.proofs.links.Links.open_links.Given as goal

abbrev pub invariant-loop-number : goal.invariant-loop-number
invariant-loop-number l = l.links.items ++ ids l.number-iterator ≡ ids l.self.kept.entries
