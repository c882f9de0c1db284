-- The configuration of a text, of the texts that it includes, and of a host (the manual's chapter
-- on the configuration file), or the first fault, in the order in which the steps stand here.
use Rattle.std.specs.Prelude.{ℕ, List, [], ◌∷◌, ◌++◌, Bool, true, false, not}
use Rattle.std.specs.Prelude.{Option, Some, None, Result, Ok, Err, map, codes}
use Rattle.std.specs.Prelude.{if◌then◌else◌}
use Rattle.std.specs.List.{find, list_any, flat_map}
use Rattle.std.specs.Str.{bytes_eq}
use Rattle.sv_base.specs.Roster.{is_roster}
use Rattle.sv_base.specs.declared.config.Config.{Config}
use Rattle.sv_base.specs.declared.config.Host.{Host}
use Rattle.sv_base.specs.declared.spec.GroupSpec.{GroupSpec}
use Rattle.sv_base.specs.declared.spec.Spec.{Spec}
use Rattle.sv_sections.specs.Includes.{sections_in, section_named, patterns_of}
use Rattle.sv_expand.specs.Results.{and_then}
use Rattle.sv_keys.specs.KeyTable.{Keys, priority}
use Rattle.sv_keys.specs.KnownNames.{host_names}
use Rattle.sv_keys.specs.ProgramNames.{titled}
use Rattle.sv_keys.specs.Rows.{needed}
use Rattle.sv_sections.specs.ServerSections.{others_of, common_of}
use Rattle.sv_sections.specs.SectionFaults.{or_missing, or_section_fault}
use Rattle.sv_keys.specs.Values.{programs_of}
use Rattle.sv_sections.specs.declared.fault.ConfFault.{ConfFault}
use Rattle.sv_sections.specs.declared.fault.ConfFault.TheVariants.{NoSuchProgram}
use Rattle.sv_sections.specs.declared.fault.ConfFault.TheVariants.{TwiceNamed, TooMany}
use Rattle.sv_keys.specs.declared.key.Key.TheVariants as key
use Rattle.sv_sections.specs.declared.server.Others.{Others}
use Rattle.sv_expand.specs.declared.names.Names.{Names}
use Rattle.sv_ini.specs.declared.section.Section.{Section}
use Rattle.sv_conf.specs.Duplicates.{first_twice}
use Rattle.sv_sections.specs.Programs.Programs.{all_parts}
use Rattle.sv_ranks.specs.Ranks.{sorted_from}
use Rattle.sv_sections.specs.AllSections.{all_supported, with_included}
use Rattle.sv_sections.specs.SectionFaults.{check_name}

infixl 10 ◌>>=◌
-- the next step, where the first has no fault
abbrev pub ◌>>=◌ : {A B : Type 0} → Result A ConfFault → (A → Result B ConfFault)
    → Result B ConfFault
first >>= next = and_then first next

-- 7. The groups.
abbrev pub is_program : List Section → List ℕ → Bool
is_program sections program =
    list_any (λ (s : Section). bytes_eq s.name (codes "program:" ++ program)) sections

-- no section is that program
abbrev pub is_missing : List Section → List ℕ → Bool
is_missing sections program = not (is_program sections program)

-- the fault of a group that names no program
abbrev pub missing_in : List ℕ → Option (List ℕ) → Result Bool ConfFault
missing_in group None = Ok true
missing_in group (Some program) = Err (NoSuchProgram group program)

-- the processes of several parts, in turn
abbrev pub members_of : List GroupSpec → List Spec
members_of parts = flat_map (λ (part : GroupSpec). part.members) parts

-- the group of a section, or its first fault
unfoldable pub group_at : List Section → Names → List ℕ → List ℕ → Keys → List GroupSpec
    → Result GroupSpec ConfFault
group_at sections names title group keys parts = do
  set ← or_missing title key.Programs keys
  named ← check_name title group
  programs ← or_section_fault title (needed key.Programs programs_of keys names)
  priority ← or_section_fault title (priority false keys names)
  known ← missing_in group (find (is_missing sections) programs)
  Ok (record { name = group; priority = priority; members = members_of parts; pool = None })

-- the groups that a section makes: that of its own processes, or that of the processes that it
-- names
unfoldable pub groups_by : List Section → Names → Section → List GroupSpec → Option (List ℕ)
    → Result (List GroupSpec) ConfFault
groups_by sections names section parts None = Ok parts
groups_by sections names section parts (Some group) = do
  made ← group_at sections names section.name group section.keys parts
  Ok (made ∷ [])

-- the groups of the sections in turn, after those before them
abbrev pub groups_from : List Section → Names → List GroupSpec → List Section
    → List (List GroupSpec) → Result (List GroupSpec) ConfFault
groups_from sections names groups [] parts = Ok groups
groups_from sections names groups (section ∷ more) [] = Ok groups
groups_from sections names groups (section ∷ more) (first ∷ parts) = do
  made ← groups_by sections names section first (titled (codes "group") section.name)
  groups_from sections names (groups ++ made) more parts

-- the groups of all sections
unfoldable pub all_groups : Host → List Section → List (List GroupSpec)
    → Result (List GroupSpec) ConfFault
all_groups host sections parts = groups_from sections (host_names host) [] sections parts

-- 8. Duplicate names: a group's among the groups before it, then those of its processes among
-- themselves.

-- a duplicate name of this group: its own among the groups before it, or one of its processes
unfoldable pub twice_in : List GroupSpec → GroupSpec → Option (List ℕ)
twice_in before group =
    if list_any (λ (other : GroupSpec). bytes_eq other.name group.name) before then Some group.name
    else first_twice [] group.members

-- the fault of a duplicate name
abbrev pub or_twice : Option (List ℕ) → Result Bool ConfFault
or_twice None = Ok true
or_twice (Some name) = Err (TwiceNamed name)

-- each name stands once, or the fault of the first duplicate
abbrev pub each_once : List GroupSpec → List GroupSpec → Result Bool ConfFault
each_once before [] = Ok true
each_once before (group ∷ groups) = do
  once ← or_twice (twice_in before group)
  each_once (before ++ group ∷ []) groups

-- 9. Groups and their members stand in start order, lower priority first, then the lower name by
-- its bytes.

-- processes in start order
abbrev pub sorted_members : List Spec → List Spec
sorted_members members = sorted_from (λ (m : Spec). m.priority) (λ (m : Spec). m.name) [] members

-- a group with its processes in start order
unfoldable pub with_sorted : GroupSpec → GroupSpec
with_sorted group = record group { members = sorted_members group.members }

-- groups in start order, each with its processes in theirs
unfoldable pub sorted_groups : List GroupSpec → List GroupSpec
sorted_groups groups =
    sorted_from (λ (g : GroupSpec). g.priority) (λ (g : GroupSpec). g.name) []
    (map with_sorted groups)

-- the interface of the daemon's methods is asked for
abbrev pub has_rpc : List Section → Bool
has_rpc sections =
    list_any (λ (s : Section). bytes_eq s.name (codes "rpcinterface:supervisor")) sections

-- the configuration of these groups
unfoldable pub with_groups : Others → Bool → List GroupSpec → Config
with_groups others rpc groups = record {
  identifier = others.daemon.identifier;
  main = others.daemon.main;
  level = others.daemon.level;
  groups = groups;
  servers = others.servers;
  client = others.client;
  rpc = rpc;
}

-- groups in start order whose names stand once are a roster where they are few enough
unfoldable pub config_of : Others → Bool → List GroupSpec → Result Config ConfFault
config_of others rpc groups =
    if is_roster groups then Ok (with_groups others rpc groups) else Err TooMany

-- 8 and 9, from all groups
unfoldable pub of_groups : Others → Bool → List GroupSpec → Result Config ConfFault
of_groups others rpc groups = do
  once ← each_once [] groups
  config_of others rpc (sorted_groups groups)

-- 7 to 9, from the processes of all sections
unfoldable pub of_parts : Host → List Section → Others → List (List GroupSpec)
    → Result Config ConfFault
of_parts host sections others parts = do
  groups ← all_groups host sections parts
  of_groups others (has_rpc sections) groups

-- 4 to 9, from the sections of all texts
unfoldable pub of_sections : Host → List Section → Result Config ConfFault
of_sections host sections = do
  supported ← all_supported sections
  parts ← all_parts host (common_of (others_of host sections)) sections
  others ← others_of host sections
  of_parts host sections others parts

-- 1 to 9
unfoldable pub configuration_of : List ℕ → List (List ℕ × List ℕ) → Host → Result Config ConfFault
configuration_of main included host = do
  sections ← sections_in main
  patterns ← patterns_of host (section_named (codes "include") sections)
  all ← with_included sections included
  of_sections host all
