-- What a gate in memory holds.
use Rattle.std.specs.Prelude.{ℕ, List}
use Rattle.sv_out.specs.Plans.{CallPlan}
use Rattle.sv_outside.specs.Plans.{call_plan}
use Rattle.sv_outside.specs.declared.hold_gate.HoldGate.{HoldGate}

module _ {J : Type 0} where
  -- the jobs that it holds, in the order in which they came
  abbrev pub held_jobs : HoldGate J → List J
  held_jobs gate = gate.jobs.items

  -- how many jobs it can hold
  abbrev pub gate_room : HoldGate J → ℕ
  gate_room gate = gate.room

  -- which of its calls are to fail, and how many were made
  abbrev pub gate_plan : HoldGate J → CallPlan
  gate_plan gate = call_plan gate.calls

  -- how many of them failed
  abbrev pub gate_faults : HoldGate J → ℕ
  gate_faults gate = gate.calls.faults
