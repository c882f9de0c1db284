-- The keys of the sections of the servers, the daemon and the client (the manual's chapter on the
-- configuration file).
use Rattle.std.specs.Prelude.{ℕ, List, [], Bool, false, Option, Some, Result, Ok, codes}
use Rattle.std.specs.Option.{is_some}
use Rattle.sv_base.specs.declared.config.ClientSpec.{ClientSpec}
use Rattle.sv_base.specs.declared.config.Password.TheVariants as password
use Rattle.sv_base.specs.declared.config.Place.{Place}
use Rattle.sv_base.specs.declared.config.Place.TheVariants.{Unix}
use Rattle.sv_base.specs.declared.config.ServerSpec.{ServerSpec}
use Rattle.sv_base.specs.declared.spec.LogSpec.{LogSpec}
use Rattle.sv_base.specs.declared.state.Level.TheVariants.{Info}
use Rattle.sv_expand.specs.Values.{value_of}
use Rattle.sv_expand.specs.declared.names.Names.{Names}
use Rattle.sv_expand.specs.Results.{and_then}
use Rattle.sv_keys.specs.KeyNames.{key_name}
use Rattle.sv_keys.specs.KeyTable.{Keys, variables}
use Rattle.sv_keys.specs.Rows.{row, needed}
use Rattle.sv_keys.specs.Values.{text_of, number_in, size_in, path_of, main_file_of, level_of}
use Rattle.sv_keys.specs.Values.{inet_of, password_of}
use Rattle.sv_keys.specs.declared.judged.KeyFault.{KeyFault}
use Rattle.sv_keys.specs.declared.key.Key.{Key}
use Rattle.sv_keys.specs.declared.key.Key.TheVariants as key
use Rattle.sv_keys.specs.declared.server_keys.Daemon.{Daemon}

-- the main log's file, the daemon's name and the server's address where nothing tells them
unfoldable pub usual_file : Option (List ℕ)
usual_file = Some (codes "supervisord.log")

-- the name of the daemon where none is set
unfoldable pub usual_identifier : List ℕ
usual_identifier = codes "supervisor"

-- the server that the client asks where none is set
unfoldable pub usual_url : List ℕ
usual_url = codes "http://localhost:9001"

-- what the daemon's section tells where no such section stands
abbrev pub first_daemon : Daemon
first_daemon = record {
  main =
      record { file = usual_file; maxbytes = 52428800; backups = 10; capture = 0; events = false };
  level = Info;
  identifier = usual_identifier;
  environment = [];
  childlogdir = codes "/tmp";
}

-- what the client's section tells where no such section stands
abbrev pub first_client : ClientSpec
first_client = record { url = usual_url; username = []; password = [] }

-- a key stands in its section
abbrev pub is_set : Key → Keys → Bool
is_set key keys = is_some (value_of (key_name key) keys)

-- a server's user and password after its place
unfoldable pub guarded : Place → Keys → Names → Result ServerSpec KeyFault
guarded place keys names =
    and_then (row key.Username text_of [] keys names) (λ username.
    and_then (row key.Password password_of password.None keys names) (λ password.
    Ok (record { place = place; username = username; password = password })))

-- a server at a file
unfoldable pub unix_server : Keys → Names → Result ServerSpec KeyFault
unix_server keys names =
    and_then (needed key.File path_of keys names) (λ file. guarded (Unix file) keys names)

-- a server at a port
unfoldable pub inet_server : Keys → Names → Result ServerSpec KeyFault
inet_server keys names =
    and_then (needed key.Port inet_of keys names) (λ place. guarded place keys names)

-- the daemon's own log
unfoldable pub main_log : Keys → Names → Result LogSpec KeyFault
main_log keys names =
    and_then (row key.Logfile main_file_of usual_file keys names) (λ file.
    and_then (row key.LogfileMaxbytes (size_in 18446744073709551615) 52428800 keys names)
    (λ maxbytes.
    and_then (row key.LogfileBackups (number_in 0 1000) 10 keys names) (λ backups.
    Ok
    (record
    { file = file; maxbytes = maxbytes; backups = backups; capture = 0; events = false }))))

-- the daemon's section
unfoldable pub daemon_of : Keys → Names → Result Daemon KeyFault
daemon_of keys names =
    and_then (main_log keys names) (λ main.
    and_then (row key.Loglevel level_of Info keys names) (λ level.
    and_then (row key.Identifier text_of usual_identifier keys names) (λ identifier.
    and_then (variables keys names) (λ environment.
    and_then (row key.Childlogdir path_of (codes "/tmp") keys names) (λ childlogdir.
    Ok (record {
      main = main;
      level = level;
      identifier = identifier;
      environment = environment;
      childlogdir = childlogdir;
    }))))))

-- the client's section
unfoldable pub client_of : Keys → Names → Result ClientSpec KeyFault
client_of keys names =
    and_then (row key.Serverurl text_of usual_url keys names) (λ url.
    and_then (row key.Username text_of [] keys names) (λ username.
    and_then (row key.Password text_of [] keys names) (λ password.
    Ok (record { url = url; username = username; password = password }))))
