-- What the short header of a journal stands for: a configuration without logs, servers and
-- rpcinterface, in which each program line is a program whose command is its name and whose other
-- keys have their defaults.
use Rattle.std.specs.Prelude.{ℕ, pos, List, [], ◌∷◌, None, true, false, codes}
use Rattle.sv_base.specs.declared.config.Config.{Config}
use Rattle.sv_base.specs.declared.config.Host.{Host}
use Rattle.sv_base.specs.declared.spec.GroupSpec.{GroupSpec}
use Rattle.sv_base.specs.declared.spec.LogSpec.{LogSpec}
use Rattle.sv_base.specs.declared.spec.Spec.{Spec}
use Rattle.sv_base.specs.declared.state.Level.TheVariants.{Info}
use Rattle.sv_journal.specs.declared.header.Program.{Program}

-- a log without a file
abbrev pub no_log : LogSpec
no_log = record { file = None; maxbytes = 52428800; backups = 10; capture = 0; events = false }

-- the process of a line
abbrev pub spec_of : Program → Spec
spec_of program = record {
  group = program.name;
  name = program.name;
  words = program.name ∷ [];
  priority = pos 999;
  autostart = true;
  startsecs = program.startsecs;
  startretries = program.startretries;
  autorestart = program.autorestart;
  exitcodes = program.exitcodes;
  stopsignal = program.stopsignal;
  stopwaitsecs = program.stopwaitsecs;
  stopasgroup = false;
  killasgroup = false;
  redirect_stderr = false;
  stdout = no_log;
  stderr = no_log;
  environment =
      (codes "SUPERVISOR_ENABLED", codes "1")
      ∷ (codes "SUPERVISOR_GROUP_NAME", program.name)
      ∷ (codes "SUPERVISOR_PROCESS_NAME", program.name)
      ∷ [];
  directory = [];
  umask = [];
  user = [];
}

-- a program is a group of its own
abbrev pub group_of : Program → GroupSpec
group_of program =
    record { name = program.name; priority = pos 999; members = spec_of program ∷ []; pool = None }

-- the configuration of these groups
abbrev pub config_of : List GroupSpec → Config
config_of groups = record {
  identifier = codes "supervisor";
  main = no_log;
  level = Info;
  groups = groups;
  servers = [];
  client = record { url = codes "http://localhost:9001"; username = []; password = [] };
  rpc = false;
}

-- a host without a name and an environment, as the daemon starts
abbrev pub host_at : ℕ → Host
host_at start = record { name = []; here = codes "."; pid = 0; environment = []; start = start }
