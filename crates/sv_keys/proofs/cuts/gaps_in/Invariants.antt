use Rattle.std.proofs.Common.{◌≡◌, ◌++◌, length}
use Rattle.std.specs.Str.{IsUtf8}
use Rattle.sv_keys.specs.Cuts.{gaps_in}
use Rattle.sv_keys.proofs.cuts.gaps_in.Given as goal

abbrev pub invariant-loop-cut : goal.invariant-loop-cut
invariant-loop-cut l = record { same : l.parts ++ gaps_in l.left ≡ gaps_in l.text; valid : IsUtf8 l.left }

abbrev pub decreases-loop-cut : goal.decreases-loop-cut
decreases-loop-cut l = length l.left
