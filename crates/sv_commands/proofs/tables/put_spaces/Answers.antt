use Rattle.std.proofs.Common.{arith}
use Rattle.sv_commands.proofs.Appended.{spaces_more}
use Rattle.sv_commands.proofs.tables.put_spaces.Goals as goal

pub loop-left-preserved : goal.loop-left-preserved
loop-left-preserved c =
    spaces_more c.loop-left.out.items c.push.new.self.items c.loop-left.left _ (omega (arith, c.loop-left-test.true))
    c.in_ok-push.ensures.items c.loop-left.invariant
