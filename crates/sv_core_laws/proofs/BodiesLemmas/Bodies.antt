-- The facts that a machine offers have the form of their type.
use Rattle.std.proofs.Common.{◌≡◌, ℕ, List, Bool, true, false, Option, Some, None, if◌then◌else◌, refl}
use Rattle.sv_base.specs.declared.kind.Kind.TheVariants as kinds
use Rattle.sv_base.specs.declared.state.State.{State}
use Rattle.sv_base.specs.declared.state.State.TheVariants.{Stopped, Starting, Running, Backoff, Stopping, Exited, Fatal, Unknown}
use Rattle.sv_base.specs.declared.state.Stream.{Stream}
use Rattle.sv_base.specs.declared.state.Stream.TheVariants.{Out, Err}
use Rattle.sv_children.specs.Crew.{Member}
use Rattle.sv_core.specs.Output.{log_fact, log_kind, log_of, message_fact, message_kind}
use Rattle.sv_core_laws.specs.Bodies.Bodies.{tells}
use Rattle.sv_events.specs.declared.fact.Fact.{Fact}
use Rattle.sv_events.specs.declared.fact.Fact.TheVariants as facts
use Rattle.sv_children.specs.EdgeFacts.{entry_fact, kind_of}

pub entry_tells : (to from : State) (pid : ℕ) (member : Member) → tells (kind_of to) (entry_fact to pid member from) ≡ true
entry_tells Stopped from pid member = refl
entry_tells Starting from pid member = refl
entry_tells Running from pid member = refl
entry_tells Backoff from pid member = refl
entry_tells Stopping from pid member = refl
entry_tells Exited from pid member = refl
entry_tells Fatal from pid member = refl
entry_tells Unknown from pid member = refl

pub log_tells : (pid : ℕ) (channel : Stream) (member : Option Member) (bytes : List ℕ) (fact : Fact)
    → log_fact pid channel member bytes ≡ Some fact → tells (log_kind channel) fact ≡ true
log_tells pid channel None bytes fact e = cc
log_tells pid Out (Some m) bytes fact e = asked (log_of Out m.spec).events e
  where
    asked : (events : Bool) → (if events then Some (facts.Log m.spec.name m.group.name pid Out bytes) else None) ≡ Some fact
        → tells kinds.ProcessLogStdout fact ≡ true
    asked true e = cc
    asked false e = cc
log_tells pid Err (Some m) bytes fact e = asked (log_of Err m.spec).events e
  where
    asked : (events : Bool) → (if events then Some (facts.Log m.spec.name m.group.name pid Err bytes) else None) ≡ Some fact
        → tells kinds.ProcessLogStderr fact ≡ true
    asked true e = cc
    asked false e = cc

pub message_tells : (pid : ℕ) (channel : Stream) (member : Option Member) (bytes : List ℕ) (fact : Fact)
    → message_fact pid member bytes ≡ Some fact → tells (message_kind channel) fact ≡ true
message_tells pid channel None bytes fact e = cc
message_tells pid Out (Some m) bytes fact e = cc
message_tells pid Err (Some m) bytes fact e = cc
