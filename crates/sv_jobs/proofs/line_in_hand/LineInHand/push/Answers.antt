use Rattle.std.proofs.Common.{arith}
use Rattle.sv_jobs.proofs.Lines.{pushed, unpushed}
use Rattle.sv_jobs.proofs.line_in_hand.LineInHand.push.Goals as goal

pub returns-then-len-lt-KEPT : goal.returns-then-len-lt-KEPT
returns-then-len-lt-KEPT c = pushed _ _ _ (omega arith) c.push_reserved.ensures.items

pub returns-else-len-lt-KEPT : goal.returns-else-len-lt-KEPT
returns-else-len-lt-KEPT c = unpushed _ _ (omega arith) c.args.self.now.within
