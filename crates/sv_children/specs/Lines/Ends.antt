-- How the main log says that a process ended.
use Rattle.std.specs.Prelude.{ℕ, List, ◌++◌, codes, ◌==◌, if◌then◌else◌}
use Rattle.std.specs.Fmt.{decimal}
use Rattle.sv_base.specs.declared.state.How.{How}
use Rattle.sv_base.specs.declared.state.How.TheVariants.{Code, Signal}

-- a signal, by its name where it is one of these
abbrev pub signal_text : ℕ → List ℕ
signal_text number =
    if number == 1 then codes "SIGHUP"
    else if number == 2 then codes "SIGINT"
    else if number == 3 then codes "SIGQUIT"
    else if number == 9 then codes "SIGKILL"
    else if number == 10 then codes "SIGUSR1"
    else if number == 12 then codes "SIGUSR2"
    else if number == 15 then codes "SIGTERM"
    else codes "signal " ++ decimal number

-- how a process ended
abbrev pub how_text : How → List ℕ
how_text (Code code) = codes "exit status " ++ decimal code
how_text (Signal signal) = codes "terminated by " ++ signal_text signal
