use Rattle.sv_follow.proofs.TailLemmas.{fewer_than_three, more_than_three}
use Rattle.sv_follow.proofs.tails.tail_in.Goals.{in_default-via-then-values-lt3, in_default-via-else-values-lt3+else-values-lt4}
use Rattle.sv_follow.proofs.tails.tail_in.Goals as goal

pub returns-in_default : goal.returns-in_default
returns-in_default c = elim c.in_default.branch [
  | in_default-via-then-values-lt3 w ↦ fewer_than_three c.args.values.now w.if-values-lt3-1.true
  | in_default-via-else-values-lt3+else-values-lt4 w ↦ more_than_three c.args.values.now w.if-values-lt4-1.false
]
