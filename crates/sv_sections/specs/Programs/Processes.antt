-- The processes of a section in a group.
use Rattle.std.specs.Prelude.{◌+◌, ℕ, zero, suc, ℤ, List, [], ◌∷◌, ◌++◌, Bool, true, false, ◌&&◌}
use Rattle.std.specs.Prelude.{nat_lt, map, Option, Some, None, Result, Ok, Err, codes, length}
use Rattle.sv_base.specs.Ascii.{hyphen, slash}
use Rattle.sv_base.specs.declared.config.Host.{Host}
use Rattle.sv_base.specs.declared.spec.GroupSpec.{GroupSpec}
use Rattle.sv_base.specs.declared.spec.LogSpec.{LogSpec}
use Rattle.sv_base.specs.declared.spec.Spec.{Spec}
use Rattle.sv_keys.specs.Environments.{environment_of, server_url}
use Rattle.sv_expand.specs.Results.{and_then}
use Rattle.sv_keys.specs.Judged.{earlier, joined}
use Rattle.sv_keys.specs.KeyNames.{key_name}
use Rattle.sv_keys.specs.KeyTable.{Keys, or_default, numprocs, numprocs_start, draft_of}
use Rattle.sv_keys.specs.KeyTable.{settings_of}
use Rattle.sv_keys.specs.KnownNames.{program_pairs, without_numbers, with_count, with_process}
use Rattle.sv_keys.specs.declared.judged.KeyFault.{KeyFault}
use Rattle.sv_keys.specs.declared.key.Key.TheVariants.{ProcessName}
use Rattle.sv_sections.specs.declared.server.Common.{Common}
use Rattle.sv_keys.specs.declared.table.Draft.{Draft}
use Rattle.sv_keys.specs.declared.table.Log.{Log}
use Rattle.sv_keys.specs.declared.table.Settings.{Settings}
use Rattle.sv_keys.specs.declared.values.LogFile.{LogFile}
use Rattle.sv_keys.specs.declared.values.LogFile.TheVariants.{Auto, Nowhere, Named}
use Rattle.sv_expand.specs.Expansion.{expansion_of}
use Rattle.sv_expand.specs.Values.{value_of}
use Rattle.sv_expand.specs.declared.fault.ExpandFault.{ExpandFault}

-- AUTO is a file in the directory of child logs, named for the process
abbrev pub auto_file : List ℕ → List ℕ → List ℕ → List ℕ → List ℕ
auto_file directory group name stream =
    directory ++ slash ∷ (group ++ hyphen ∷ (name ++ hyphen ∷ (stream ++ codes ".log")))

-- where a log goes
abbrev pub file_of : LogFile → List ℕ → List ℕ → List ℕ → List ℕ → Option (List ℕ)
file_of Auto directory group name stream = Some (auto_file directory group name stream)
file_of Nowhere directory group name stream = None
file_of (Named file) directory group name stream = Some file

-- the log of a stream
abbrev pub log_spec : Log → List ℕ → List ℕ → List ℕ → List ℕ → LogSpec
log_spec log directory group name stream = record {
  file = file_of log.file directory group name stream;
  maxbytes = log.maxbytes;
  backups = log.backups;
  capture = log.capture;
  events = log.events;
}

-- a listener has no capture on its standard output
abbrev pub without_capture : Bool → Log → Log
without_capture true log = record log { capture = 0 }
without_capture false log = log

-- the process that these keys tell
unfoldable pub spec_of : Common → Bool → List ℕ → ℤ → Draft → Spec
spec_of common listener group priority draft = record {
  group = group;
  name = draft.running.name;
  words = draft.running.words;
  priority = priority;
  autostart = draft.running.autostart;
  startsecs = draft.running.startsecs;
  startretries = draft.running.startretries;
  autorestart = draft.running.autorestart;
  exitcodes = draft.running.exitcodes;
  stopsignal = draft.running.stopsignal;
  stopwaitsecs = draft.running.stopwaitsecs;
  stopasgroup = draft.stopping.stopasgroup;
  killasgroup = draft.stopping.killasgroup;
  redirect_stderr = draft.stopping.redirect_stderr;
  stdout =
      log_spec (without_capture listener draft.stdout) common.childlogdir group draft.running.name
      (codes "stdout");
  stderr = log_spec draft.stderr common.childlogdir group draft.running.name (codes "stderr");
  environment =
      environment_of group draft.running.name (server_url draft.around.serverurl common.url)
      common.environment draft.around.environment;
  directory = draft.around.directory;
  umask = draft.around.umask;
  user = draft.around.user;
}

-- one more of a section's processes: where several are faulty, the fault of the earliest key
abbrev pub with_next : {T : Type 0} → Result (List T) KeyFault → Result T KeyFault
    → Result (List T) KeyFault
with_next (Ok values) (Ok value) = Ok (values ++ value ∷ [])
with_next (Ok values) (Err fault) = Err fault
with_next (Err fault) (Ok value) = Err fault
with_next (Err fault) (Err other) = Err (earlier fault other)

-- the keys of so many further processes, of which the next has this number
abbrev pub drafts_from : Bool → List ℕ → Keys → Keys → ℕ → Result (List Draft) KeyFault → ℕ → ℕ
    → Result (List Draft) KeyFault
drafts_from listener program keys pairs count done process zero = done
drafts_from listener program keys pairs count done process (suc left) =
    drafts_from listener program keys pairs count
    (with_next done (draft_of listener program keys (with_process pairs count process)))
    (process + 1) left

-- so many as numprocs tells, from numprocs_start on; where these are faulty their defaults stand in
abbrev pub all_drafts : Bool → List ℕ → Keys → Keys → ℕ → ℕ → Result (List Draft) KeyFault
all_drafts listener program keys pairs count start =
    drafts_from listener program keys pairs count (Ok []) start count

-- the processes of these keys
abbrev pub all_specs : Common → Bool → List ℕ → ℤ → List Draft → List Spec
all_specs common listener group priority drafts =
    map (spec_of common listener group priority) drafts

-- a group of these settings and processes
unfoldable pub group_from : Common → Bool → List ℕ → Settings × List Draft → GroupSpec
group_from common listener group read = record {
  name = group;
  priority = read.0.priority;
  members = all_specs common listener group read.0.priority read.1;
  pool = read.0.pool;
}

-- the processes of a section in a group, as a group of their own
unfoldable pub part_of : Host → Common → Bool → List ℕ → Keys → List ℕ → Result GroupSpec KeyFault
part_of host common listener program keys group =
    let pairs = program_pairs host program group in
    let names = without_numbers pairs in
    let count = or_default 1 (numprocs keys names) in
    let start = or_default 0 (numprocs_start keys names) in
    and_then
    (joined (settings_of listener keys names)
    (all_drafts listener program keys pairs count start)) (λ read.
    Ok (group_from common listener group read))

-- the text has an expansion
abbrev pub is_expanded : Result (List ℕ) ExpandFault → Bool
is_expanded (Ok text) = true
is_expanded (Err fault) = false

-- a name has no form with the process's number: it stands without that number
abbrev pub lacks_number : Keys → ℕ → Option (List ℕ) → Bool
lacks_number pairs count None = true
lacks_number pairs count (Some text) = is_expanded (expansion_of (with_count pairs count) text)

-- so many processes of a section in this group want a number in their name
unfoldable pub needs_number : Host → List ℕ → Keys → List ℕ → ℕ → Bool
needs_number host program keys group count =
    nat_lt 1 count
    && lacks_number (program_pairs host program group) count
    (value_of (key_name ProcessName) keys)
