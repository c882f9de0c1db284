use Rattle.std.proofs.Common.{◌≡◌, ◌++◌}
use Rattle.sv_links.proofs.Listed.{numbers}
use Rattle.sv_links.proofs.links.Links.busy_links.Given as goal

abbrev pub invariant-loop-number : goal.invariant-loop-number
invariant-loop-number l = l.links.items ++ numbers l.number-iterator ≡ numbers l.self.kept.entries
