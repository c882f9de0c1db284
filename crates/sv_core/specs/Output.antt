-- What processes write on their pipes: bytes for their logs, messages between the tokens of a
-- capture, and what a listener says (the manual's chapters on logging and on events).
use Rattle.std.specs.Prelude.{ℕ, List, [], ◌∷◌, Option, Some, None, if◌then◌else◌}
use Rattle.sv_base.specs.declared.ids.Run.{Run}
use Rattle.sv_base.specs.declared.kind.Kind.{Kind}
use Rattle.sv_base.specs.declared.kind.Kind.TheVariants.{ProcessCommunicationStderr}
use Rattle.sv_base.specs.declared.kind.Kind.TheVariants.{ProcessCommunicationStdout}
use Rattle.sv_base.specs.declared.kind.Kind.TheVariants.{ProcessLogStderr, ProcessLogStdout}
use Rattle.sv_base.specs.declared.spec.LogSpec.{LogSpec}
use Rattle.sv_base.specs.declared.spec.Spec.{Spec}
use Rattle.sv_base.specs.declared.state.Stream.{Stream}
use Rattle.sv_base.specs.declared.state.Stream.TheVariants.{Out, Err}
use Rattle.sv_children.specs.Crew.{Member, member_at}
use Rattle.sv_core.specs.Events.{offers_if}
use Rattle.sv_core.specs.Listening.{hears}
use Rattle.sv_core.specs.Logging.{logs}
use Rattle.sv_core.specs.World.{World}
use Rattle.sv_events.specs.declared.fact.Fact.{Fact}
use Rattle.sv_events.specs.declared.fact.Fact.TheVariants as fact
use Rattle.sv_pipes.specs.declared.parts.Part.{Part}
use Rattle.sv_pipes.specs.declared.parts.Part.TheVariants as part
use Rattle.sv_runs.specs.RunBook as runs_of
use Rattle.sv_runs.specs.Streams.StreamBook as output
use Rattle.sv_runs.specs.declared.streams.owner.Owner.{Owner}

-- the log of a channel
abbrev pub log_of : Stream → Spec → LogSpec
log_of Out spec = spec.stdout
log_of Err spec = spec.stderr

-- the type of the event of a piece that was logged
abbrev pub log_kind : Stream → Kind
log_kind Out = ProcessLogStdout
log_kind Err = ProcessLogStderr

-- of a message
abbrev pub message_kind : Stream → Kind
message_kind Out = ProcessCommunicationStdout
message_kind Err = ProcessCommunicationStderr

-- what the event of a logged piece tells of a process, whose run has this number, where its log
-- asks for it
abbrev pub log_fact : ℕ → Stream → Option Member → List ℕ → Option Fact
log_fact pid channel None bytes = None
log_fact pid channel (Some m) bytes =
    let log = log_of channel m.spec in
    if log.events then Some (fact.Log m.spec.name m.group.name pid channel bytes) else None

-- what that of a message tells
abbrev pub message_fact : ℕ → Option Member → List ℕ → Option Fact
message_fact pid None bytes = None
message_fact pid (Some m) bytes = Some (fact.Communication m.spec.name m.group.name pid bytes)

-- bytes are added to the log of a channel of a process
abbrev pub logs_of : Stream → Option Member → List ℕ → World → World
logs_of channel None bytes w = w
logs_of channel (Some m) bytes w = logs (log_of channel m.spec) bytes w

-- to that of the process of a place
abbrev pub logs_at : Stream → ℕ → List ℕ → World → World
logs_at channel c bytes w = logs_of channel (member_at w.children c) bytes w

-- a part of what a process wrote: bytes are logged, and then offered as an event; a message is
-- offered alone
abbrev pub takes_part : Owner → Stream → Part → World → World
takes_part owner channel (part.Logged bytes) w =
    offers_if (log_kind channel)
    (log_fact owner.pid channel (member_at w.children owner.child) bytes)
    (logs_at channel owner.child bytes w)
takes_part owner channel (part.Message bytes) w =
    offers_if (message_kind channel)
    (message_fact owner.pid (member_at w.children owner.child) bytes) w

-- one after the other
abbrev pub takes_parts : Owner → Stream → List Part → World → World
takes_parts owner channel [] w = w
takes_parts owner channel (p ∷ ps) w = takes_parts owner channel ps (takes_part owner channel p w)

-- of a run of which a pipe is open
abbrev pub takes_all : Option Owner → Option Stream → List Part → World → World
takes_all None channel ps w = w
takes_all (Some owner) None ps w = w
takes_all (Some owner) (Some channel) ps w = takes_parts owner channel ps w

-- a listener says it on its stdout
abbrev pub says_on : Stream → Run → List ℕ → World → World
says_on Out run bytes w = hears run bytes w
says_on Err run bytes w = w

-- bytes come on a pipe of a run: what they decide is logged and told, and then a listener's tokens
-- are taken
abbrev pub hears_on : Stream → Run → List ℕ → World → World
hears_on pipe run bytes w =
    says_on pipe run bytes
    (takes_all (output.owner_in run w.streams) (output.channel_in run pipe w.streams)
    (output.new_parts run pipe bytes w.streams)
    (record w { streams = output.fed run pipe bytes w.streams }))

-- a pipe of a run ends: what that decides is logged
abbrev pub ends_pipe : Run → Stream → World → World
ends_pipe run pipe w =
    takes_all (output.owner_in run w.streams) (output.channel_in run pipe w.streams)
    (output.last_parts run pipe w.streams)
    (record w {
      runs = runs_of.pipe_ended run pipe w.runs;
      streams = output.pipe_ended run pipe w.streams;
    })
