-- What a crash reporter writes: a line for each process that exited and was not expected to.
use Rattle.std.specs.Prelude.{◌≡◌, ◌++◌, ℕ, List, [], ◌∷◌, Option, None, Some, codes, length}
use Rattle.std.specs.Prelude.{if◌then◌else◌}
use Rattle.std.specs.Fmt.{decimal}
use Rattle.std.specs.Io.KnownBytes.{Appends}
use Rattle.std.specs.List.{flat_map}
use Rattle.std.specs.Str.{bytes_eq}
use Rattle.sv_listener.specs.ExitBody.{Exit, exit_of}
use Rattle.sv_listener.specs.declared.events.Heard.{Heard}
use Rattle.sv_listener.specs.declared.handler.Verdict.{Verdict}
use Rattle.sv_listener.specs.declared.handler.Verdict.TheVariants as verdict
use Rattle.sv_out.specs.Written.{AppendsFront}

-- an exit that wasn't expected
abbrev pub unexpected : Option Exit → Option Exit
unexpected None = None
unexpected (Some exit) = if exit.expected then None else Some exit

-- the exit that an event tells of, where it is one and wasn't expected
abbrev pub crash_in : Heard → Option Exit
crash_in event =
    if bytes_eq event.eventname (codes "PROCESS_STATE_EXITED") then unexpected (exit_of event.body)
    else None

-- its line
unfoldable pub crash_line : List ℕ → List ℕ → ℕ → List ℕ
crash_line group name pid =
    group ++ codes ":" ++ name ++ codes " (pid " ++ decimal pid ++ codes ") exited unexpectedly\n"

-- the line of a crash, where there is one
abbrev pub line_for : Option Exit → List ℕ
line_for None = []
line_for (Some exit) = crash_line exit.group exit.name exit.pid

-- the lines of these events, in order
abbrev pub crash_lines : List Heard → List ℕ
crash_lines events = flat_map (λ event. line_for (crash_in event)) events

-- each verdict is that the event is done with
abbrev pub AreOk : List Verdict → Type 0
AreOk [] = Unit {0}
AreOk (verdict.Ok ∷ verdicts) = AreOk verdicts
AreOk (verdict.Fail ∷ verdicts) = ⊥

-- the lines of these events were written, or a prefix of them where the last event has no verdict
pub record Reported (old new : Option (List ℕ)) (events : List Heard)
    (verdicts : List Verdict) : Type 0 where
  pub done : AreOk verdicts
  pub whole : length verdicts ≡ length events → Appends old new (crash_lines events)
  pub part : AppendsFront old new (crash_lines events)
