use Rattle.std.proofs.Common.{ap, inl, length}
use Rattle.sv_outside.specs.Scripts.{inputs_left}
use Rattle.sv_outside.proofs.Failures.{could_before}
use Rattle.sv_outside.proofs.script_world.ScriptWorldWorld.perform.Goals as goal

pub returns-else-tells_failure-clause-failures : goal.returns-else-tells_failure-clause-failures
returns-else-tells_failure-clause-failures c = λ n may.
    inl (could_before c.args.self.now.orders.items c.push.new.self.items _ n _ _ (inputs_left c.args.self.now)
    c.in_ok-push.ensures.items (ap length c.as_slice.ensures.value) c.tells_failure.ensures c.if-tells_failure.false may)
