-- Where the keys but the name are read without the process's number, they are read so for each process.
use Rattle.std.proofs.Common.{◌≡◌, ℕ, zero, suc, arith, List, [], ◌∷◌, Bool, true, false, refl, codes}
use Rattle.std.specs.Prelude.{Option, Result, Ok, Err}
use Rattle.std.specs.Prelude.{ℤ}
use Rattle.sv_base.specs.declared.spec.PoolSpec.{PoolSpec}
use Rattle.sv_base.specs.declared.signal.Signal.TheVariants.{Term}
use Rattle.sv_base.specs.declared.state.Autorestart.TheVariants.{Unexpected}
use Rattle.sv_expand.specs.Results.{and_then}
use Rattle.sv_expand.specs.Words.{words_of}
use Rattle.sv_expand.specs.declared.names.Names.{Names}
use Rattle.std.proofs.lemmas.Str.{chars-IsAscii, encode_ascii}
use Rattle.std.specs.Prelude.{IsAscii}
use Rattle.sv_keys.specs.KeyNames.{key_name}
use Rattle.sv_keys.specs.KeyTable.{Keys, running_of, stopping_of, redirect, logs_of, variables, around_of, draft_of, numprocs, numprocs_start, priority, first_priority, pool_of, settings_of}
use Rattle.sv_keys.specs.ProgramNames.{name_of}
use Rattle.sv_keys.specs.Rows.{row, value_at, expanded}
use Rattle.sv_keys.specs.Values.{text_of, number_in, size_in, signed_of, truth_of, false_of, autorestart_of, signal_of, codes_of, kinds_of, log_file_of, umask_of, environment_of}
use Rattle.sv_keys.specs.declared.judged.KeyFault.{KeyFault}
use Rattle.sv_keys.specs.declared.key.Key.TheVariants as key
use Rattle.sv_keys.specs.declared.table.Draft.{Draft}
use Rattle.sv_keys.specs.declared.table.Running.{Running}
use Rattle.sv_keys.specs.declared.table.Settings.{Settings}
use Rattle.sv_keys.specs.declared.values.LogFile.TheVariants.{Auto}
use Rattle.sv_conf.specs.Once.{with_stand_in}
use Rattle.sv_conf.proofs.Keeping.{Keeps, Gives, TellsMore, then_gives, then_keeps, row_keeps, needed_keeps}

-- both steps go well
then_both : {A B E : Type 0} (change : B → B) (one other : Result A E) (f g : A → Result B E) (a b : A) → one ≡ Ok a → other ≡ Ok b
    → Gives change (f a) (g b) → Gives change (and_then one f) (and_then other g)
then_both change one other f g a b is goes gives = λ value e. rw goes (gives value (rw is at e))

ascii_x : IsAscii (codes "x")
ascii_x zero = omega arith
ascii_x (suc i) = omega arith

named_x : (program : List ℕ) (keys : Keys) (names : Names) → row key.ProcessName name_of program (with_stand_in keys) names ≡ Ok (codes "x")
unfolding row value_at expanded key_name
named_x program keys names = rw (chars-IsAscii (codes "x") ascii_x) (rw (encode_ascii 120 (omega arith)) (rw (chars-IsAscii (codes "x") ascii_x) refl))

-- what the keys tell, for a process of this name
abbrev pub renamed : List ℕ → Draft → Draft
renamed name draft = record draft { running = record draft.running { name = name } }

abbrev called : List ℕ → Running → Running
called name running = record running { name = name }

module _ (few more : Names) (tells : TellsMore few more) (program name : List ℕ) (keys : Keys) where
  running_given : row key.ProcessName name_of program keys more ≡ Ok name → Gives (called name) (running_of program (with_stand_in keys) few) (running_of program keys more)
  unfolding running_of key_name
  running_given is =
      then_gives (called name) _ _ _ _ (needed_keeps few more tells key.Command words_of (with_stand_in keys) keys refl) (λ words.
      then_both (called name) _ _ _ _ (codes "x") name (named_x program keys few) is (
      then_gives (called name) _ _ _ _ (row_keeps few more tells key.Autostart truth_of true (with_stand_in keys) keys refl) (λ autostart.
      then_gives (called name) _ _ _ _ (row_keeps few more tells key.Startsecs (number_in 0 1000000) 1 (with_stand_in keys) keys refl) (λ startsecs.
      then_gives (called name) _ _ _ _ (row_keeps few more tells key.Startretries (number_in 0 1000000) 3 (with_stand_in keys) keys refl) (λ startretries.
      then_gives (called name) _ _ _ _ (row_keeps few more tells key.Stopwaitsecs (number_in 0 1000000) 10 (with_stand_in keys) keys refl) (λ stopwaitsecs.
      then_gives (called name) _ _ _ _ (row_keeps few more tells key.Autorestart autorestart_of Unexpected (with_stand_in keys) keys refl) (λ autorestart.
      then_gives (called name) _ _ _ _ (row_keeps few more tells key.Exitcodes codes_of (0 ∷ []) (with_stand_in keys) keys refl) (λ exitcodes.
      then_gives (called name) _ _ _ _ (row_keeps few more tells key.Stopsignal signal_of Term (with_stand_in keys) keys refl) (λ stopsignal value e. ends value e)))))))))
    where
      ends : {E : Type 0} {running : Running} (value : Running) → Path (Result Running E) (Ok running) (Ok value) → Path (Result Running E) (Ok (called name running)) (Ok (called name value))
      ends value e = cc

  redirect_kept : (listener : Bool) → Keeps (redirect listener (with_stand_in keys) few) (redirect listener keys more)
  unfolding redirect key_name
  redirect_kept true = row_keeps few more tells key.RedirectStderr false_of false (with_stand_in keys) keys refl
  redirect_kept false = row_keeps few more tells key.RedirectStderr truth_of false (with_stand_in keys) keys refl

  stopping_kept : (listener : Bool) → Keeps (stopping_of listener (with_stand_in keys) few) (stopping_of listener keys more)
  unfolding stopping_of key_name
  stopping_kept listener =
      then_keeps _ _ _ _ (row_keeps few more tells key.Stopasgroup truth_of false (with_stand_in keys) keys refl) (λ stopasgroup.
      then_keeps _ _ _ _ (row_keeps few more tells key.Killasgroup truth_of stopasgroup (with_stand_in keys) keys refl) (λ killasgroup.
      then_keeps _ _ _ _ (redirect_kept listener) (λ redirect_stderr value e. e)))

  logs_kept : Keeps (logs_of (with_stand_in keys) few) (logs_of keys more)
  unfolding logs_of key_name
  logs_kept =
      then_keeps _ _ _ _ (row_keeps few more tells key.StdoutLogfile log_file_of Auto (with_stand_in keys) keys refl) (λ stdout_file.
      then_keeps _ _ _ _ (row_keeps few more tells key.StderrLogfile log_file_of Auto (with_stand_in keys) keys refl) (λ stderr_file.
      then_keeps _ _ _ _ (row_keeps few more tells key.StdoutLogfileMaxbytes (size_in 18446744073709551615) 52428800 (with_stand_in keys) keys refl) (λ stdout_maxbytes.
      then_keeps _ _ _ _ (row_keeps few more tells key.StderrLogfileMaxbytes (size_in 18446744073709551615) 52428800 (with_stand_in keys) keys refl) (λ stderr_maxbytes.
      then_keeps _ _ _ _ (row_keeps few more tells key.StdoutLogfileBackups (number_in 0 1000) 10 (with_stand_in keys) keys refl) (λ stdout_backups.
      then_keeps _ _ _ _ (row_keeps few more tells key.StderrLogfileBackups (number_in 0 1000) 10 (with_stand_in keys) keys refl) (λ stderr_backups.
      then_keeps _ _ _ _ (row_keeps few more tells key.StdoutCaptureMaxbytes (size_in 16777216) 0 (with_stand_in keys) keys refl) (λ stdout_capture.
      then_keeps _ _ _ _ (row_keeps few more tells key.StderrCaptureMaxbytes (size_in 16777216) 0 (with_stand_in keys) keys refl) (λ stderr_capture.
      then_keeps _ _ _ _ (row_keeps few more tells key.StdoutEventsEnabled truth_of false (with_stand_in keys) keys refl) (λ stdout_events.
      then_keeps _ _ _ _ (row_keeps few more tells key.StderrEventsEnabled truth_of false (with_stand_in keys) keys refl) (λ stderr_events value e. e))))))))))

  around_kept : Keeps (around_of (with_stand_in keys) few) (around_of keys more)
  unfolding around_of variables key_name
  around_kept =
      then_keeps _ _ _ _ (row_keeps few more tells key.Environment environment_of [] (with_stand_in keys) keys refl) (λ environment.
      then_keeps _ _ _ _ (row_keeps few more tells key.Directory text_of [] (with_stand_in keys) keys refl) (λ directory.
      then_keeps _ _ _ _ (row_keeps few more tells key.Umask umask_of [] (with_stand_in keys) keys refl) (λ umask.
      then_keeps _ _ _ _ (row_keeps few more tells key.User text_of [] (with_stand_in keys) keys refl) (λ user.
      then_keeps _ _ _ _ (row_keeps few more tells key.Serverurl text_of [] (with_stand_in keys) keys refl) (λ serverurl value e. e)))))

  rest_given : (listener : Bool) (running : Running) → Gives (renamed name)
      (and_then (stopping_of listener (with_stand_in keys) few) (λ stopping.
      and_then (logs_of (with_stand_in keys) few) (λ logs.
      and_then (around_of (with_stand_in keys) few) (λ around.
      Ok (record { running = running; stopping = stopping; stdout = logs.0; stderr = logs.1; around = around })))))
      (and_then (stopping_of listener keys more) (λ stopping.
      and_then (logs_of keys more) (λ logs.
      and_then (around_of keys more) (λ around.
      Ok (record { running = called name running; stopping = stopping; stdout = logs.0; stderr = logs.1; around = around })))))
  rest_given listener running =
      then_gives (renamed name) _ _ _ _ (stopping_kept listener) (λ stopping.
      then_gives (renamed name) _ _ _ _ logs_kept (λ logs.
      then_gives (renamed name) _ _ _ _ around_kept (λ around value e. draft_ends value e)))
    where
      draft_ends : {E : Type 0} {draft : Draft} (value : Draft) → Path (Result Draft E) (Ok draft) (Ok value) → Path (Result Draft E) (Ok (renamed name draft)) (Ok (renamed name value))
      draft_ends value e = cc

-- the first step gives its value changed, and what follows from that goes on
then_changed : {A B E : Type 0} (change : B → B) (first : A → A) (one other : Result A E) (f g : A → Result B E) → Gives first one other
    → ((x : A) → Gives change (f x) (g (first x))) → Gives change (and_then one f) (and_then other g)
then_changed change first (Ok x) other f g gives more value e = rw (gives x refl) (more x value e)
then_changed change first (Err fault) other f g gives more value e = cc

-- all keys of a process of this name are those that were read once
pub draft_given : (few more : Names) → TellsMore few more → (listener : Bool) (program name : List ℕ) (keys : Keys)
    → row key.ProcessName name_of program keys more ≡ Ok name → Gives (renamed name) (draft_of listener program (with_stand_in keys) few) (draft_of listener program keys more)
unfolding draft_of
draft_given few more tells listener program name keys is =
    then_changed (renamed name) (called name) (running_of program (with_stand_in keys) few) (running_of program keys more) _ _ (running_given few more tells program name keys is) (rest_given few more tells program name keys listener)

pool_kept : (few more : Names) → TellsMore few more → (listener : Bool) (keys : Keys) → Keeps (pool_of listener keys few) (pool_of listener keys more)
unfolding pool_of
pool_kept few more tells false keys = λ value e. e
pool_kept few more tells true keys =
    then_keeps _ _ _ _ (needed_keeps few more tells key.Events kinds_of keys keys refl) (λ kinds.
    then_keeps _ _ _ _ (row_keeps few more tells key.BufferSize (number_in 1 65536) 10 keys keys refl) (λ buffer value e. e))

-- what is read once for all processes of a section is read so in each of its groups
pub settings_kept : (few more : Names) → TellsMore few more → (listener : Bool) (keys : Keys) → Keeps (settings_of listener keys few) (settings_of listener keys more)
unfolding settings_of numprocs numprocs_start priority
settings_kept few more tells listener keys =
    then_keeps _ _ _ _ (row_keeps few more tells key.Numprocs (number_in 1 1024) 1 keys keys refl) (λ count.
    then_keeps _ _ _ _ (row_keeps few more tells key.NumprocsStart (number_in 0 1000000) 0 keys keys refl) (λ start.
    then_keeps _ _ _ _ (row_keeps few more tells key.Priority signed_of (first_priority listener) keys keys refl) (λ priority.
    then_keeps _ _ _ _ (pool_kept few more tells listener keys) (λ pool value e. e))))

-- the settings tell how many processes there are, and the number of the first
pub settings_tell : (listener : Bool) (keys : Keys) (names : Names) (settings : Settings) → settings_of listener keys names ≡ Ok settings
    → (numprocs keys names ≡ Ok settings.count) × (numprocs_start keys names ≡ Ok settings.start)
unfolding settings_of
settings_tell listener keys names settings e =
    by_parts (numprocs keys names) (numprocs_start keys names) (priority listener keys names) (pool_of listener keys names) settings e
  where
    by_parts : (count start : Result ℕ KeyFault) (priority : Result ℤ KeyFault) (pool : Result (Option PoolSpec) KeyFault) (settings : Settings)
        → and_then count (λ count. and_then start (λ start. and_then priority (λ priority. and_then pool (λ pool.
        Ok (record { count = count; start = start; priority = priority; pool = pool }))))) ≡ Ok settings
        → (count ≡ Ok settings.count) × (start ≡ Ok settings.start)
    by_parts (Ok count) (Ok start) (Ok priority) (Ok pool) settings e = (cc, cc)
    by_parts (Err fault) start priority pool settings e = cc
    by_parts (Ok count) (Err fault) priority pool settings e = cc
    by_parts (Ok count) (Ok start) (Err fault) pool settings e = cc
    by_parts (Ok count) (Ok start) (Ok priority) (Err fault) settings e = cc
