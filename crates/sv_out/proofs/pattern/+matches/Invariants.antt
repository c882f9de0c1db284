use Rattle.std.proofs.Common.{◌≡◌, length}
use Rattle.sv_out.specs.Patterns.{matches, behind_run}
use Rattle.sv_out.proofs.pattern.+matches.Given as goal

abbrev pub decreases-matches : goal.decreases-matches
decreases-matches l = length l.pattern.now

abbrev pub invariant-loop-rest : goal.invariant-loop-rest
invariant-loop-rest l = behind_run (matches l.rest) l.name ≡ behind_run (matches l.rest) l.tail

abbrev pub decreases-loop-rest : goal.decreases-loop-rest
decreases-loop-rest l = length l.tail
