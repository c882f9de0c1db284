-- The rows of the main log, one line each: its level, and its text.
use Rattle.std.specs.Prelude.{ℕ, List, ◌++◌, Bool, codes, if◌then◌else◌}
use Rattle.std.specs.Fmt.{decimal}
use Rattle.sv_base.specs.declared.spec.Spec.{Spec}
use Rattle.sv_base.specs.declared.state.How.{How}
use Rattle.sv_base.specs.declared.state.Level.TheVariants.{Info, Warn, Error}
use Rattle.sv_children.specs.Lines.Ends.{how_text}
use Rattle.sv_children.specs.declared.lines.line.Line.{Line}

-- the spawn of a process was answered by its number
abbrev pub spawned_line : List ℕ → ℕ → Line
spawned_line name pid =
    record { level = Info; text = codes "spawned: '" ++ name ++ codes "' with pid " ++ decimal pid }

-- to RUNNING
abbrev pub success_line : Spec → Line
success_line spec = record {
  level = Info;
  text =
      codes "success: " ++ spec.name
      ++ codes " entered RUNNING state, process has stayed up for > than "
      ++ decimal spec.startsecs ++ codes " seconds (startsecs)";
}

-- an exit: an early one is never expected
abbrev pub exited_line : List ℕ → How → Bool → Line
exited_line name how expected = record {
  level = if expected then Info else Warn;
  text = codes "exited: " ++ name ++ codes " (" ++ how_text how
      ++ (if expected then codes "; expected)" else codes "; not expected)");
}

-- STOPPING to STOPPED
abbrev pub stopped_line : List ℕ → How → Line
stopped_line name how =
    record
    { level = Info; text = codes "stopped: " ++ name ++ codes " (" ++ how_text how ++ codes ")" }

-- the spawn failed
abbrev pub refused_line : List ℕ → Line
refused_line fault = record { level = Info; text = codes "spawnerr: " ++ fault }

-- KILL by deadline
abbrev pub killing_line : List ℕ → ℕ → Line
killing_line name pid = record {
  level = Warn;
  text = codes "killing '" ++ name ++ codes "' (" ++ decimal pid ++ codes ") with SIGKILL";
}

-- to FATAL
abbrev pub gave_up_line : List ℕ → Line
gave_up_line name = record {
  level = Info;
  text =
      codes "gave up: " ++ name ++ codes " entered FATAL state, too many start retries too quickly";
}

-- the full buffer of a pool lost the event of this serial
abbrev pub overflow_line : List ℕ → ℕ → Line
overflow_line pool serial = record {
  level = Error;
  text =
      codes "pool " ++ pool ++ codes " event buffer overflowed, discarding event "
      ++ decimal serial;
}
