-- What a configuration says to the edge of the daemon alone (the manual's chapter on the configuration
-- file, the sections of supervisord and of the Unix server): keys by which no order is made.
use Rattle.std.specs.Prelude.{◌≡◌, ℕ, List, [], Option, Some, None, Result, Ok, Err, codes}
use Rattle.sv_expand.specs.Expansion.{expansion_of}
use Rattle.sv_expand.specs.Values.{value_of}
use Rattle.sv_expand.specs.declared.fault.ExpandFault.{ExpandFault}
use Rattle.sv_expand.specs.declared.names.Names.{Names}
use Rattle.sv_ini.specs.declared.section.Section.{Section}
use Rattle.sv_sections.specs.Includes.{section_named}
use Rattle.sv_settings.specs.declared.settings.Settings.{Settings}

-- the keys of a section that may not stand
abbrev pub keys_of : Option Section → List (List ℕ × List ℕ)
keys_of None = []
keys_of (Some section) = section.keys

-- a value that may not be set, expanded by these names; empty where it isn't
abbrev pub expanded_or_empty : Names → Option (List ℕ) → Result (List ℕ) ExpandFault
expanded_or_empty names None = Ok []
expanded_or_empty names (Some text) = expansion_of names text

-- the expanded value of a key of a section; empty where it isn't set
abbrev pub setting : List Section → Names → List ℕ → List ℕ → Result (List ℕ) ExpandFault
setting sections names section key =
    expanded_or_empty names (value_of key (keys_of (section_named section sections)))

-- each setting is the value of its key, expanded by these names
pub record AreSettings (sections : List Section) (names : Names) (settings : Settings) : Type 0 where
  pub user : setting sections names (codes "supervisord") (codes "user") ≡ Ok settings.user
  pub umask : setting sections names (codes "supervisord") (codes "umask") ≡ Ok settings.umask
  pub directory : setting sections names (codes "supervisord") (codes "directory")
      ≡ Ok settings.directory
  pub pidfile : setting sections names (codes "supervisord") (codes "pidfile")
      ≡ Ok settings.pidfile
  pub minfds : setting sections names (codes "supervisord") (codes "minfds") ≡ Ok settings.minfds
  pub minprocs : setting sections names (codes "supervisord") (codes "minprocs")
      ≡ Ok settings.minprocs
  pub nocleanup : setting sections names (codes "supervisord") (codes "nocleanup")
      ≡ Ok settings.nocleanup
  pub silent : setting sections names (codes "supervisord") (codes "silent") ≡ Ok settings.silent
  pub childlogdir : setting sections names (codes "supervisord") (codes "childlogdir")
      ≡ Ok settings.childlogdir
  pub chmod : setting sections names (codes "unix_http_server") (codes "chmod")
      ≡ Ok settings.chmod
  pub chown : setting sections names (codes "unix_http_server") (codes "chown")
      ≡ Ok settings.chown
