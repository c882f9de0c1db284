-- The words for signals and states (the manual's chapters on subprocesses and on its XML-RPC
-- interface).
use Rattle.std.specs.Prelude.{ℕ, ℤ, pos, negsuc, List, codes}
use Rattle.sv_base.specs.declared.signal.Signal.{Signal}
use Rattle.sv_base.specs.declared.signal.Signal.TheVariants.{Term, Hup, Int, Quit, Kill, Usr1, Usr2}
use Rattle.sv_base.specs.declared.state.Mood.{Mood}
use Rattle.sv_base.specs.declared.state.Mood.TheVariants.{Running as Mood_running, Restarting}
use Rattle.sv_base.specs.declared.state.Mood.TheVariants.{Shutdown}
use Rattle.sv_base.specs.declared.state.State.{State}
use Rattle.sv_base.specs.declared.state.State.TheVariants.{Stopped, Starting, Running, Backoff}
use Rattle.sv_base.specs.declared.state.State.TheVariants.{Stopping, Exited, Fatal, Unknown}

-- the name of a signal without SIG
abbrev pub signal_name : Signal → List ℕ
signal_name Term = codes "TERM"
signal_name Hup = codes "HUP"
signal_name Int = codes "INT"
signal_name Quit = codes "QUIT"
signal_name Kill = codes "KILL"
signal_name Usr1 = codes "USR1"
signal_name Usr2 = codes "USR2"

-- the name of a state
abbrev pub state_name : State → List ℕ
state_name Stopped = codes "STOPPED"
state_name Starting = codes "STARTING"
state_name Running = codes "RUNNING"
state_name Backoff = codes "BACKOFF"
state_name Stopping = codes "STOPPING"
state_name Exited = codes "EXITED"
state_name Fatal = codes "FATAL"
state_name Unknown = codes "UNKNOWN"

-- the number of a state
abbrev pub state_number : State → ℕ
state_number Stopped = 0
state_number Starting = 10
state_number Running = 20
state_number Backoff = 30
state_number Stopping = 40
state_number Exited = 100
state_number Fatal = 200
state_number Unknown = 1000

-- the name of a mood
abbrev pub mood_name : Mood → List ℕ
mood_name Mood_running = codes "RUNNING"
mood_name Restarting = codes "RESTARTING"
mood_name Shutdown = codes "SHUTDOWN"

-- the number of a mood
abbrev pub mood_number : Mood → ℤ
mood_number Mood_running = pos 1
mood_number Restarting = pos 0
mood_number Shutdown = negsuc 0
