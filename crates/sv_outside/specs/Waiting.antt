-- What a waiter in memory answers.
use Rattle.std.specs.Prelude.{◌≡◌, ℕ, Result, IfOk, is_err}
use Rattle.sv_base.specs.declared.state.How.{How}
use Rattle.sv_out.specs.Plans.{called, is_to_fail}
use Rattle.sv_out.specs.declared.failed.Failed.{Failed}
use Rattle.sv_outside.specs.Plans.{waiter_plan}
use Rattle.sv_outside.specs.declared.waiter.ScriptWaiter.{ScriptWaiter}

-- how its process ended
abbrev pub how_ended : ScriptWaiter → How
how_ended waiter = waiter.how

-- how many of its calls failed
abbrev pub waiter_faults : ScriptWaiter → ℕ
waiter_faults waiter = waiter.calls.faults

-- one call: it fails exactly where it was to, and else answers the end; each call is counted
pub record Waits (old : ScriptWaiter) (result : Result How Failed) (new : ScriptWaiter) : Type 0
  where
    pub fails : is_err result ≡ is_to_fail (waiter_plan old)
    pub answer : IfOk result (λ how. how ≡ how_ended old)
    pub plan : waiter_plan new ≡ called (waiter_plan old) (is_to_fail (waiter_plan old))
    pub same : how_ended new ≡ how_ended old
