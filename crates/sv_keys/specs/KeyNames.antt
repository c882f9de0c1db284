-- The keys of the sections (the manual's chapter on the configuration file): how each is written,
-- and at which place it is looked at.
use Rattle.std.specs.Prelude.{ℕ, List, codes}
use Rattle.sv_keys.specs.declared.key.Key.{Key}
use Rattle.sv_keys.specs.declared.key.Key.TheVariants.{Command, ProcessName, Numprocs}
use Rattle.sv_keys.specs.declared.key.Key.TheVariants.{NumprocsStart, Priority, Autostart}
use Rattle.sv_keys.specs.declared.key.Key.TheVariants.{Startsecs, Startretries, Stopwaitsecs}
use Rattle.sv_keys.specs.declared.key.Key.TheVariants.{Autorestart, Exitcodes, Stopsignal}
use Rattle.sv_keys.specs.declared.key.Key.TheVariants.{Stopasgroup, Killasgroup, RedirectStderr}
use Rattle.sv_keys.specs.declared.key.Key.TheVariants.{StdoutLogfile, StderrLogfile}
use Rattle.sv_keys.specs.declared.key.Key.TheVariants.{StdoutLogfileMaxbytes, StderrLogfileMaxbytes}
use Rattle.sv_keys.specs.declared.key.Key.TheVariants.{StdoutLogfileBackups, StderrLogfileBackups}
use Rattle.sv_keys.specs.declared.key.Key.TheVariants.{StdoutCaptureMaxbytes, StderrCaptureMaxbytes}
use Rattle.sv_keys.specs.declared.key.Key.TheVariants.{StdoutEventsEnabled, StderrEventsEnabled}
use Rattle.sv_keys.specs.declared.key.Key.TheVariants.{Environment, Directory, Umask, User}
use Rattle.sv_keys.specs.declared.key.Key.TheVariants.{Serverurl, Events, BufferSize, Programs}
use Rattle.sv_keys.specs.declared.key.Key.TheVariants.{Logfile, LogfileMaxbytes, LogfileBackups}
use Rattle.sv_keys.specs.declared.key.Key.TheVariants.{Loglevel, Identifier, Childlogdir, File}
use Rattle.sv_keys.specs.declared.key.Key.TheVariants.{Port, Username, Password, Files}

-- the key as a configuration writes it
unfoldable pub key_name : Key → List ℕ
key_name Command = codes "command"
key_name ProcessName = codes "process_name"
key_name Numprocs = codes "numprocs"
key_name NumprocsStart = codes "numprocs_start"
key_name Priority = codes "priority"
key_name Autostart = codes "autostart"
key_name Startsecs = codes "startsecs"
key_name Startretries = codes "startretries"
key_name Stopwaitsecs = codes "stopwaitsecs"
key_name Autorestart = codes "autorestart"
key_name Exitcodes = codes "exitcodes"
key_name Stopsignal = codes "stopsignal"
key_name Stopasgroup = codes "stopasgroup"
key_name Killasgroup = codes "killasgroup"
key_name RedirectStderr = codes "redirect_stderr"
key_name StdoutLogfile = codes "stdout_logfile"
key_name StderrLogfile = codes "stderr_logfile"
key_name StdoutLogfileMaxbytes = codes "stdout_logfile_maxbytes"
key_name StderrLogfileMaxbytes = codes "stderr_logfile_maxbytes"
key_name StdoutLogfileBackups = codes "stdout_logfile_backups"
key_name StderrLogfileBackups = codes "stderr_logfile_backups"
key_name StdoutCaptureMaxbytes = codes "stdout_capture_maxbytes"
key_name StderrCaptureMaxbytes = codes "stderr_capture_maxbytes"
key_name StdoutEventsEnabled = codes "stdout_events_enabled"
key_name StderrEventsEnabled = codes "stderr_events_enabled"
key_name Environment = codes "environment"
key_name Directory = codes "directory"
key_name Umask = codes "umask"
key_name User = codes "user"
key_name Serverurl = codes "serverurl"
key_name Events = codes "events"
key_name BufferSize = codes "buffer_size"
key_name Programs = codes "programs"
key_name Logfile = codes "logfile"
key_name LogfileMaxbytes = codes "logfile_maxbytes"
key_name LogfileBackups = codes "logfile_backups"
key_name Loglevel = codes "loglevel"
key_name Identifier = codes "identifier"
key_name Childlogdir = codes "childlogdir"
key_name File = codes "file"
key_name Port = codes "port"
key_name Username = codes "username"
key_name Password = codes "password"
key_name Files = codes "files"

-- the place of the key among all keys
unfoldable pub key_place : Key → ℕ
key_place Command = 0
key_place ProcessName = 1
key_place Numprocs = 2
key_place NumprocsStart = 3
key_place Priority = 4
key_place Autostart = 5
key_place Startsecs = 6
key_place Startretries = 7
key_place Stopwaitsecs = 8
key_place Autorestart = 9
key_place Exitcodes = 10
key_place Stopsignal = 11
key_place Stopasgroup = 12
key_place Killasgroup = 13
key_place RedirectStderr = 14
key_place StdoutLogfile = 15
key_place StderrLogfile = 16
key_place StdoutLogfileMaxbytes = 17
key_place StderrLogfileMaxbytes = 18
key_place StdoutLogfileBackups = 19
key_place StderrLogfileBackups = 20
key_place StdoutCaptureMaxbytes = 21
key_place StderrCaptureMaxbytes = 22
key_place StdoutEventsEnabled = 23
key_place StderrEventsEnabled = 24
key_place Environment = 25
key_place Directory = 26
key_place Umask = 27
key_place User = 28
key_place Serverurl = 29
key_place Events = 30
key_place BufferSize = 31
key_place Programs = 32
key_place Logfile = 33
key_place LogfileMaxbytes = 34
key_place LogfileBackups = 35
key_place Loglevel = 36
key_place Identifier = 37
key_place Childlogdir = 38
key_place File = 39
key_place Port = 40
key_place Username = 41
key_place Password = 42
key_place Files = 43
