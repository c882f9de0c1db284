use Rattle.std.proofs.Common.{◌≤◌, ◌-◌, ◌++◌, ℕ, List, length, drop}
use Rattle.sv_listener.specs.Takes.{GoesOn}
use Rattle.sv_listener.specs.declared.events.Heard.{Heard}
use Rattle.sv_listener.proofs.side.take_events.Given as goal

abbrev pub invariant-events : goal.invariant-events
invariant-events l = record {
  within : l.count ≤ length l.bytes;
  takes : (stream : List ℕ) (earlier : List Heard) → GoesOn l.bytes stream (earlier ++ l.initial.events.items)
      → GoesOn (drop l.count l.bytes) stream (earlier ++ l.events.items);
}

abbrev pub decreases-events : goal.decreases-events
decreases-events l = length l.bytes - l.count
