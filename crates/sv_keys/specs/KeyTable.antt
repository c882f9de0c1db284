-- The table of a program's keys (the manual's chapter on the configuration file), in its order: for
-- each key the way to read its value, and its default. A listener's differ in three rows.
use Rattle.std.specs.Prelude.{ℕ, ℤ, pos, negsuc, List, [], ◌∷◌, Bool, true, false, Option, Some}
use Rattle.std.specs.Prelude.{None, Result, Ok, Err, if◌then◌else◌}
use Rattle.sv_base.specs.declared.signal.Signal.TheVariants.{Term}
use Rattle.sv_base.specs.declared.spec.PoolSpec.{PoolSpec}
use Rattle.sv_base.specs.declared.state.Autorestart.TheVariants.{Unexpected}
use Rattle.sv_expand.specs.Results.{and_then}
use Rattle.sv_keys.specs.ProgramNames.{name_of}
use Rattle.sv_keys.specs.Rows.{row, needed}
use Rattle.sv_keys.specs.Values.{text_of, number_in, size_in, signed_of, truth_of, false_of}
use Rattle.sv_keys.specs.Values.{autorestart_of, signal_of, codes_of, kinds_of, log_file_of}
use Rattle.sv_keys.specs.Values.{umask_of, environment_of}
use Rattle.sv_keys.specs.declared.judged.KeyFault.{KeyFault}
use Rattle.sv_keys.specs.declared.key.Key.TheVariants as key
use Rattle.sv_keys.specs.declared.table.Around.{Around}
use Rattle.sv_keys.specs.declared.table.Draft.{Draft}
use Rattle.sv_keys.specs.declared.table.Log.{Log}
use Rattle.sv_keys.specs.declared.table.Running.{Running}
use Rattle.sv_keys.specs.declared.table.Settings.{Settings}
use Rattle.sv_keys.specs.declared.table.Stopping.{Stopping}
use Rattle.sv_keys.specs.declared.values.LogFile.TheVariants.{Auto}
use Rattle.sv_expand.specs.Words.{words_of}
use Rattle.sv_expand.specs.declared.names.Names.{Names}

-- the keys of a section with their values
abbrev pub Keys : Type 0
Keys = List (List ℕ × List ℕ)

-- the value, or a default where it is faulty
abbrev pub or_default : {T : Type 0} → T → Result T KeyFault → T
or_default default (Ok value) = value
or_default default (Err fault) = default

-- for all processes of a program in a group
unfoldable pub numprocs : Keys → Names → Result ℕ KeyFault
numprocs keys names = row key.Numprocs (number_in 1 1024) 1 keys names

-- the number of the first process
unfoldable pub numprocs_start : Keys → Names → Result ℕ KeyFault
numprocs_start keys names = row key.NumprocsStart (number_in 0 1000000) 0 keys names

-- the priority where none is set; a listener starts before programs
abbrev pub first_priority : Bool → ℤ
first_priority listener = if listener then negsuc 0 else pos 999

-- the priority of a section
unfoldable pub priority : Bool → Keys → Names → Result ℤ KeyFault
priority listener keys names = row key.Priority signed_of (first_priority listener) keys names

-- for each process
unfoldable pub running_of : List ℕ → Keys → Names → Result Running KeyFault
running_of program keys names =
    and_then (needed key.Command words_of keys names) (λ words.
    and_then (row key.ProcessName name_of program keys names) (λ name.
    and_then (row key.Autostart truth_of true keys names) (λ autostart.
    and_then (row key.Startsecs (number_in 0 1000000) 1 keys names) (λ startsecs.
    and_then (row key.Startretries (number_in 0 1000000) 3 keys names) (λ startretries.
    and_then (row key.Stopwaitsecs (number_in 0 1000000) 10 keys names) (λ stopwaitsecs.
    and_then (row key.Autorestart autorestart_of Unexpected keys names) (λ autorestart.
    and_then (row key.Exitcodes codes_of (0 ∷ []) keys names) (λ exitcodes.
    and_then (row key.Stopsignal signal_of Term keys names) (λ stopsignal.
    Ok (record {
      words = words;
      name = name;
      autostart = autostart;
      startsecs = startsecs;
      startretries = startretries;
      stopwaitsecs = stopwaitsecs;
      autorestart = autorestart;
      exitcodes = exitcodes;
      stopsignal = stopsignal;
    }))))))))))

-- a listener's standard error can't go to its standard output
unfoldable pub redirect : Bool → Keys → Names → Result Bool KeyFault
redirect true = row key.RedirectStderr false_of false
redirect false = row key.RedirectStderr truth_of false

-- killasgroup follows stopasgroup where it isn't set itself
unfoldable pub stopping_of : Bool → Keys → Names → Result Stopping KeyFault
stopping_of listener keys names =
    and_then (row key.Stopasgroup truth_of false keys names) (λ stopasgroup.
    and_then (row key.Killasgroup truth_of stopasgroup keys names) (λ killasgroup.
    and_then (redirect listener keys names) (λ redirect_stderr.
    Ok
    (record {
      stopasgroup = stopasgroup;
      killasgroup = killasgroup;
      redirect_stderr = redirect_stderr;
    }))))

-- the keys of both logs, which stand in turn
unfoldable pub logs_of : Keys → Names → Result (Log × Log) KeyFault
logs_of keys names =
    and_then (row key.StdoutLogfile log_file_of Auto keys names) (λ stdout_file.
    and_then (row key.StderrLogfile log_file_of Auto keys names) (λ stderr_file.
    and_then (row key.StdoutLogfileMaxbytes (size_in 18446744073709551615) 52428800 keys names)
    (λ stdout_maxbytes.
    and_then (row key.StderrLogfileMaxbytes (size_in 18446744073709551615) 52428800 keys names)
    (λ stderr_maxbytes.
    and_then (row key.StdoutLogfileBackups (number_in 0 1000) 10 keys names) (λ stdout_backups.
    and_then (row key.StderrLogfileBackups (number_in 0 1000) 10 keys names) (λ stderr_backups.
    and_then (row key.StdoutCaptureMaxbytes (size_in 16777216) 0 keys names) (λ stdout_capture.
    and_then (row key.StderrCaptureMaxbytes (size_in 16777216) 0 keys names) (λ stderr_capture.
    and_then (row key.StdoutEventsEnabled truth_of false keys names) (λ stdout_events.
    and_then (row key.StderrEventsEnabled truth_of false keys names) (λ stderr_events.
    Ok (
      record {
        file = stdout_file;
        maxbytes = stdout_maxbytes;
        backups = stdout_backups;
        capture = stdout_capture;
        events = stdout_events;
      },
      record {
        file = stderr_file;
        maxbytes = stderr_maxbytes;
        backups = stderr_backups;
        capture = stderr_capture;
        events = stderr_events;
      },
    )))))))))))

-- the pairs of an environment, none where it isn't set
unfoldable pub variables : Keys → Names → Result (List (List ℕ × List ℕ)) KeyFault
variables keys names = row key.Environment environment_of [] keys names

-- what is round a process
unfoldable pub around_of : Keys → Names → Result Around KeyFault
around_of keys names =
    and_then (variables keys names) (λ environment.
    and_then (row key.Directory text_of [] keys names) (λ directory.
    and_then (row key.Umask umask_of [] keys names) (λ umask.
    and_then (row key.User text_of [] keys names) (λ user.
    and_then (row key.Serverurl text_of [] keys names) (λ serverurl.
    Ok (record {
      environment = environment;
      directory = directory;
      umask = umask;
      user = user;
      serverurl = serverurl;
    }))))))

-- all keys of a process
unfoldable pub draft_of : Bool → List ℕ → Keys → Names → Result Draft KeyFault
draft_of listener program keys names =
    and_then (running_of program keys names) (λ running.
    and_then (stopping_of listener keys names) (λ stopping.
    and_then (logs_of keys names) (λ logs.
    and_then (around_of keys names) (λ around.
    Ok (record {
      running = running;
      stopping = stopping;
      stdout = logs.0;
      stderr = logs.1;
      around = around;
    })))))

-- only a listener has a pool
unfoldable pub pool_of : Bool → Keys → Names → Result (Option PoolSpec) KeyFault
pool_of false keys names = Ok None
pool_of true keys names =
    and_then (needed key.Events kinds_of keys names) (λ kinds.
    and_then (row key.BufferSize (number_in 1 65536) 10 keys names) (λ buffer.
    Ok (Some (record { kinds = kinds; buffer = buffer }))))

-- what is read once for all processes
unfoldable pub settings_of : Bool → Keys → Names → Result Settings KeyFault
settings_of listener keys names =
    and_then (numprocs keys names) (λ count.
    and_then (numprocs_start keys names) (λ start.
    and_then (priority listener keys names) (λ priority.
    and_then (pool_of listener keys names) (λ pool.
    Ok (record { count = count; start = start; priority = priority; pool = pool })))))
