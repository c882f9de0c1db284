-- Which calls of an object in memory are to fail.
use Rattle.sv_out.specs.Plans.{CallPlan}
use Rattle.sv_outside.specs.declared.calls.Calls.{Calls}
use Rattle.sv_outside.specs.declared.listening.ScriptListen.{ScriptListen}
use Rattle.sv_outside.specs.declared.script_spawner.ScriptSpawner.{ScriptSpawner}
use Rattle.sv_outside.specs.declared.waiter.ScriptWaiter.{ScriptWaiter}

-- which calls are to fail, and how many were made
abbrev pub call_plan : Calls → CallPlan
call_plan calls =
    record { failing = calls.failing.items; calls = calls.calls; faults = calls.faults }

-- that of a waiter
abbrev pub waiter_plan : ScriptWaiter → CallPlan
waiter_plan waiter = call_plan waiter.calls

-- that of a spawner
abbrev pub spawner_plan : ScriptSpawner → CallPlan
spawner_plan spawner = call_plan spawner.calls

-- that of a listener
abbrev pub listen_plan : ScriptListen → CallPlan
listen_plan listen = call_plan listen.calls
