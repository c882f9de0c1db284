use Rattle.std.proofs.Common.{◌≡◌, ℕ, List, ◌||◌, length}
use Rattle.std.specs.HashSet.{contains_text}
use Rattle.sv_conf.specs.Titles.{has_title}
use Rattle.sv_conf.proofs.groups.titles_of.Given as goal

abbrev pub invariant-loop-left : goal.invariant-loop-left
invariant-loop-left l = (title : List ℕ) → (has_title title l.left || contains_text l.titles title) ≡ has_title title l.sections

abbrev pub decreases-loop-left : goal.decreases-loop-left
decreases-loop-left l = length l.left
