-- The sections of the servers, the daemon and the client (the manual's chapter on the configuration
-- file).
use Rattle.std.specs.Prelude.{ℕ, List, [], ◌∷◌, ◌++◌, Option, Some, None, Result, Ok, Err, codes}
use Rattle.std.specs.Prelude.{if◌then◌else◌}
use Rattle.std.specs.Fmt.{decimal}
use Rattle.std.specs.Str.{bytes_eq}
use Rattle.sv_base.specs.Ascii.{colon}
use Rattle.sv_base.specs.declared.config.Host.{Host}
use Rattle.sv_base.specs.declared.config.Place.{Place}
use Rattle.sv_base.specs.declared.config.Place.TheVariants.{Inet, Unix}
use Rattle.sv_base.specs.declared.config.ServerSpec.{ServerSpec}
use Rattle.sv_sections.specs.SectionFaults.{or_missing, or_section_fault}
use Rattle.sv_sections.specs.declared.fault.ConfFault.{ConfFault}
use Rattle.sv_sections.specs.declared.server.Common.{Common}
use Rattle.sv_sections.specs.declared.server.Others.{Others}
use Rattle.sv_expand.specs.declared.names.Names.{Names}
use Rattle.sv_ini.specs.declared.section.Section.{Section}
use Rattle.sv_expand.specs.Results.{and_then}
use Rattle.sv_keys.specs.KnownNames.{host_names}
use Rattle.sv_keys.specs.ServerKeys.{first_daemon, first_client, unix_server, inet_server}
use Rattle.sv_keys.specs.ServerKeys.{daemon_of, client_of}
use Rattle.sv_keys.specs.declared.key.Key.TheVariants as key

-- where no such section stands
abbrev pub first_others : Others
first_others = record { daemon = first_daemon; client = first_client; servers = [] }

-- one server more
abbrev pub with_server : Others → ServerSpec → Others
with_server others server = record others { servers = others.servers ++ server ∷ [] }

-- what a section of a server, of the daemon or of the client adds
unfoldable pub after_unix : Names → Others → Section → Result Others ConfFault
after_unix names others section =
    and_then (or_missing section.name key.File section.keys) (λ keys.
    and_then (or_section_fault section.name (unix_server keys names)) (λ server.
    Ok (with_server others server)))

-- a server at a port
unfoldable pub after_inet : Names → Others → Section → Result Others ConfFault
after_inet names others section =
    and_then (or_missing section.name key.Port section.keys) (λ keys.
    and_then (or_section_fault section.name (inet_server keys names)) (λ server.
    Ok (with_server others server)))

-- the daemon's section
unfoldable pub after_daemon : Names → Others → Section → Result Others ConfFault
after_daemon names others section =
    and_then (or_section_fault section.name (daemon_of section.keys names)) (λ daemon.
    Ok (record others { daemon = daemon }))

-- the client's section
unfoldable pub after_client : Names → Others → Section → Result Others ConfFault
after_client names others section =
    and_then (or_section_fault section.name (client_of section.keys names)) (λ client.
    Ok (record others { client = client }))

-- the sections in turn: what a section adds, where it is one of these
unfoldable pub after_section : Names → Others → Section → Result Others ConfFault
after_section names others section =
    if bytes_eq section.name (codes "unix_http_server") then after_unix names others section
    else if bytes_eq section.name (codes "inet_http_server") then after_inet names others section
    else if bytes_eq section.name (codes "supervisord") then after_daemon names others section
    else if bytes_eq section.name (codes "supervisorctl") then after_client names others section
    else Ok others

-- the sections in turn
abbrev pub after_sections : Names → Others → List Section → Result Others ConfFault
after_sections names others [] = Ok others
after_sections names others (section ∷ sections) =
    and_then (after_section names others section) (λ next. after_sections names next sections)

-- what all these sections tell
unfoldable pub others_of : Host → List Section → Result Others ConfFault
others_of host sections = after_sections (host_names host) first_others sections

-- the first value, or else the other
abbrev pub or_else : {T : Type 0} → Option T → Option T → Option T
or_else (Some value) other = Some value
or_else None other = other

-- all interfaces are asked at this host
abbrev pub host_in_url : List ℕ → List ℕ
host_in_url [] = codes "localhost"
host_in_url (b ∷ bs) = b ∷ bs

-- the address of a server at a file
abbrev pub unix_url : Place → Option (List ℕ)
unix_url (Inet host port) = None
unix_url (Unix file) = Some (codes "unix://" ++ file)

-- the address of a server at a port
abbrev pub inet_url : Place → Option (List ℕ)
inet_url (Inet host port) = Some (codes "http://" ++ (host_in_url host ++ colon ∷ decimal port))
inet_url (Unix file) = None

-- the first address of this kind
abbrev pub first_url : (Place → Option (List ℕ)) → List ServerSpec → Option (List ℕ)
first_url url [] = None
first_url url (server ∷ servers) = or_else (url server.place) (first_url url servers)

-- the address of the unix server, or else that of the inet server
unfoldable pub url_of : List ServerSpec → Option (List ℕ)
url_of servers = or_else (first_url unix_url servers) (first_url inet_url servers)

-- what all processes share; a faulty section leaves the defaults, and is told later
unfoldable pub common_of : Result Others ConfFault → Common
common_of (Ok others) = record {
  childlogdir = others.daemon.childlogdir;
  environment = others.daemon.environment;
  url = url_of others.servers;
}
common_of (Err fault) = record { childlogdir = []; environment = []; url = None }
