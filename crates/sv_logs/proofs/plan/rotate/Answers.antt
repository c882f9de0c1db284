use Rattle.std.proofs.Common.{arith}
use Rattle.sv_logs.proofs.Moves.{one_move}
use Rattle.sv_logs.proofs.plan.rotate.Goals as goal

pub loop-number-preserved : goal.loop-number-preserved
loop-number-preserved c = record {
  told = one_move c.args.file.now c.loop-number.number c.loop-number.orders.items _ _ _ _ (omega arith)
      c.in_ok-push.ensures.items c.in_ok-kept.ensures c.in_ok-to.ensures c.loop-number.invariant.told;
  few = omega arith;
}
