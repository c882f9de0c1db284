-- What a method asks for either gives an order at once, or leaves nothing to wait for.
use Rattle.std.proofs.Common.{◌≡◌, ◌<◌, length, ◌⊎◌, inl, inr, ℕ, ℤ, List, [], ◌∷◌, Bool, true, false, ◌&&◌, ◌||◌, Option, Some, None, map, if◌then◌else◌, ◌∙◌, refl, ap}
use Rattle.std.specs.Prelude.{not}
use Rattle.std.specs.List.{list_any, slice_get}
use Rattle.sv_cut_laws.proofs.There.{AreBelow, IsBelow, all_there, below_reverse, found_there, group_there}
use Rattle.sv_base.specs.declared.ids.ChildId.{ChildId}
use Rattle.sv_base.specs.declared.signal.Signal.{Signal}
use Rattle.sv_base.specs.declared.spec.GroupSpec.{GroupSpec}
use Rattle.sv_base.specs.declared.spec.Spec.{Spec}
use Rattle.sv_base.specs.declared.state.State.{State}
use Rattle.sv_base.specs.declared.state.State.TheVariants.{Stopped, Starting, Running, Backoff, Stopping, Exited, Fatal, Unknown}
use Rattle.sv_child.specs.declared.child.Child.{Child}
use Rattle.sv_groups.specs.Lookup.{found}
use Rattle.sv_groups.specs.StartOrder.{pairs_of, processes, start_order}
use Rattle.sv_groups.specs.declared.lookup.Found.{Found}
use Rattle.sv_groups.specs.declared.lookup.Found.TheVariants.{One, Group, Nothing}
use Rattle.sv_methods.specs.Acts.{asked_of, asks_fitting, asks_found, asks_group, asks_found_group, asks_one, in_order, is_asked, request_for, row_for, signals_all, signals_found, signals_found_group, unfit}
use Rattle.sv_methods.specs.Logs.{clears_found, clears_main, clears_process, log_of, log_of_found, log_row, process_named, reads, reads_main, reads_part, tails}
use Rattle.sv_methods.specs.MethodNames.{method_named}
use Rattle.sv_methods.specs.MethodTable.{after_params, nothing_in, info_row_found, info_row_of, is_closed, is_heard, is_here, is_shut, plain_row, planned, row, row_if_here, signal_of, signature_row, stdin_found, text_row, text_wait_row, texts_row, wait_row}
use Rattle.sv_methods.specs.Outcomes.{Outcome, Does, does, refuses}
use Rattle.sv_methods.specs.Processes.{group_named, info_of, is_running_state, members_of_group, size_of}
use Rattle.sv_methods.specs.Params.{log_in, numbers_in, text_and_wait_in, text_in, texts_in, wait_in}
use Rattle.sv_methods.specs.Scenes.{Scene}
use Rattle.sv_calls.specs.Waits.{is_due, is_due_of, is_waited_for, waits}
use Rattle.sv_methods.specs.declared.act.Act.{Act}
use Rattle.sv_methods.specs.declared.act.Act.TheVariants as act
use Rattle.sv_info.specs.declared.fault.Fault.TheVariants.{NoFile, NotRunning, ShutdownState, UnknownMethod}
use Rattle.sv_logs.specs.Spans.{read_part}
use Rattle.sv_logs.specs.declared.spans.Span.{Span}
use Rattle.sv_methods.specs.declared.method.LogMethod.{LogMethod}
use Rattle.sv_methods.specs.declared.method.LogMethod.TheVariants.{ReadStderr, ReadStdout, TailStderr, TailStdout}
use Rattle.sv_methods.specs.declared.method.Method.{Method}
use Rattle.sv_methods.specs.declared.method.Method.TheVariants as takes
use Rattle.sv_methods.specs.declared.method.PlainMethod.{PlainMethod}
use Rattle.sv_methods.specs.declared.method.PlainMethod.TheVariants.{ClearAllProcessLogs, ClearLog, GetApiVersion, GetAllProcessInfo, GetIdentification, GetPid, GetState, GetSupervisorVersion, ListMethods, Shutdown}
use Rattle.sv_methods.specs.declared.method.TextMethod.{TextMethod}
use Rattle.sv_methods.specs.declared.method.TextMethod.TheVariants.{ClearProcessLogs, GetProcessInfo, MethodSignature, SignalAllProcesses}
use Rattle.sv_methods.specs.declared.method.TextWaitMethod.{TextWaitMethod}
use Rattle.sv_methods.specs.declared.method.TextWaitMethod.TheVariants.{StartProcess, StartProcessGroup, StopProcess, StopProcessGroup}
use Rattle.sv_methods.specs.declared.method.TextsMethod.{TextsMethod}
use Rattle.sv_methods.specs.declared.method.TextsMethod.TheVariants.{SendProcessStdin, SendRemoteCommEvent, SignalProcess, SignalProcessGroup}
use Rattle.sv_methods.specs.declared.method.WaitMethod.{WaitMethod}
use Rattle.sv_methods.specs.declared.method.WaitMethod.TheVariants.{StartAllProcesses, StopAllProcesses}
use Rattle.sv_methods.specs.declared.planned.Aim.TheVariants.{Started, Signalled}
use Rattle.sv_methods.specs.declared.planned.Request.{Request}
use Rattle.sv_methods.specs.declared.planned.Request.TheVariants as request
use Rattle.sv_xmlcall.specs.Trees.{CallTree, Tree, Trees}

-- the first request stops a process that can be stopped
abbrev pub StopsFirst : List GroupSpec → List Child → List Request → Type 0
StopsFirst roster children (request.Stop id ∷ rest) =
    (is_asked act.Stop (slice_get children id.0) ≡ true) × (id.0 < length (processes roster))
StopsFirst roster children other = ⊥

-- requests after which nothing is waited for, unless the first of them gives an order
abbrev pub Settles : List GroupSpec → List Child → Outcome → Type 0
Settles roster children (Does requests waiting) = (waits children waiting ≡ false) ⊎ StopsFirst roster children requests
Settles roster children other = Unit {0}

and_false : (b : Bool) → (b && false) ≡ false
and_false true = refl
and_false false = refl

-- ---- what is asked of processes

abbrev AllAsked : Act → List GroupSpec → List Child → List ChildId → Type 0
AllAsked a roster children [] = Unit {0}
AllAsked a roster children (id ∷ ids) =
    ((is_asked a (slice_get children id.0) ≡ true) × (id.0 < length (processes roster))) × AllAsked a roster children ids

all_asked : (a : Act) (roster : List GroupSpec) (children : List Child) (ids : List ChildId) → AreBelow (length (processes roster)) ids
    → AllAsked a roster children (asked_of a children ids)
all_asked a roster children [] below = tt
all_asked a roster children (id ∷ ids) below =
    by_test (is_asked a (slice_get children id.0)) refl (all_asked a roster children ids below.1) where
      by_test : (b : Bool) → is_asked a (slice_get children id.0) ≡ b → AllAsked a roster children (asked_of a children ids)
          → AllAsked a roster children (if b then id ∷ asked_of a children ids else asked_of a children ids)
      by_test true is rest = ((is, below.0), rest)
      by_test false is rest = rest

not_starting : (s : State) → not (is_running_state s) ≡ true → is_due Started s ≡ false
not_starting Stopped is = refl
not_starting Starting is = absurd cc
not_starting Running is = refl
not_starting Backoff is = refl
not_starting Stopping is = refl
not_starting Exited is = refl
not_starting Fatal is = refl
not_starting Unknown is = refl

starts_none : (child : Option Child) → is_asked act.Start child ≡ true → is_due_of Started child ≡ false
starts_none None is = refl
starts_none (Some child) is = not_starting child.state is

signals_none : (child : Option Child) → is_due_of Signalled child ≡ false
signals_none None = refl
signals_none (Some child) = refl

no_start : (roster : List GroupSpec) (children : List Child) (ids : List ChildId) → AllAsked act.Start roster children ids
    → list_any (is_waited_for children) (map (row_for act.Start) ids) ≡ false
no_start roster children [] all = refl
no_start roster children (id ∷ ids) all =
    ap (λ (b : Bool). b || list_any (is_waited_for children) (map (row_for act.Start) ids)) (starts_none (slice_get children id.0) all.0.0)
    ∙ no_start roster children ids all.1

no_signal : (children : List Child) (signal : Signal) (ids : List ChildId)
    → list_any (is_waited_for children) (map (row_for (act.Signal signal)) ids) ≡ false
no_signal children signal [] = refl
no_signal children signal (id ∷ ids) =
    ap (λ (b : Bool). b || list_any (is_waited_for children) (map (row_for (act.Signal signal)) ids)) (signals_none (slice_get children id.0))
    ∙ no_signal children signal ids

acts_settle : (a : Act) (roster : List GroupSpec) (children : List Child) (wait array : Bool) (name : Option (List ℕ)) (ids : List ChildId) → AllAsked a roster children ids
    → Settles roster children (Does (map (request_for a) ids) (record { wait = wait; array = array; name = name; rows = map (row_for a) ids }))
acts_settle act.Start roster children wait array name ids all = inl (ap (λ (b : Bool). wait && b) (no_start roster children ids all) ∙ and_false wait)
acts_settle act.Stop roster children wait array name [] all = inl (and_false wait)
acts_settle act.Stop roster children wait array name (id ∷ ids) all = inr all.0
acts_settle (act.Signal signal) roster children wait array name ids all =
    inl (ap (λ (b : Bool). wait && b) (no_signal children signal ids) ∙ and_false wait)

module _ (scene : Scene) where
  abbrev Fine : Outcome → Type 0
  Fine o = Settles scene.roster scene.children o

  abbrev Below : List ChildId → Type 0
  Below ids = AreBelow (length (processes scene.roster)) ids

  below_in_order : (a : Act) (ids : List ChildId) → Below ids → Below (in_order a ids)
  below_in_order act.Start ids below = below
  below_in_order act.Stop ids below = below_reverse (length (processes scene.roster)) ids below
  below_in_order (act.Signal signal) ids below = below

  fine_if : (b : Bool) (one other : Outcome) → Fine one → Fine other → Fine (if b then one else other)
  fine_if true one other first second = first
  fine_if false one other first second = second

  fitting : (a : Act) (wait : Bool) (name : Option (List ℕ)) (ids : List ChildId) → Below ids → Fine (asks_fitting a scene wait name ids)
  fitting a wait name ids below =
      acts_settle a scene.roster scene.children wait true name (asked_of a scene.children (in_order a ids))
      (all_asked a scene.roster scene.children (in_order a ids) (below_in_order a ids below))

  one_fine : (a : Act) (wait : Bool) (name : List ℕ) (id : ChildId) → id.0 < length (processes scene.roster) → Fine (asks_one a scene wait name id)
  one_fine a wait name id below = by_test (is_asked a (slice_get scene.children id.0)) refl where
    by_test : (b : Bool) → is_asked a (slice_get scene.children id.0) ≡ b
        → Fine (if b then Does (request_for a id ∷ []) (record { wait = wait; array = false; name = Some name; rows = row_for a id ∷ [] })
        else refuses (unfit a) (Some name))
    by_test true is = acts_settle a scene.roster scene.children wait false (Some name) (id ∷ []) ((is, below), tt)
    by_test false is = tt

  in_group : (a : Act) (wait : Bool) (name : List ℕ) (group : ℕ) → Fine (asks_group a scene wait name group)
  in_group a wait name group = fitting a wait (Some name) (members_of_group group scene.roster) (group_there group scene.roster)

  found_fine : (a : Act) (wait : Bool) (name : List ℕ) (what : Found) → IsBelow (length (processes scene.roster)) what
      → Fine (asks_found a scene wait name what)
  found_fine a wait name (One id) below = one_fine a wait name id below
  found_fine a wait name (Group group) below = in_group a wait name group
  found_fine a wait name Nothing below = tt

  found_group_fine : (a : Act) (wait : Bool) (name : List ℕ) (what : Found) → Fine (asks_found_group a scene wait name what)
  found_group_fine a wait name (One id) = tt
  found_group_fine a wait name (Group group) = in_group a wait name group
  found_group_fine a wait name Nothing = tt

  signals_fine : (name content : List ℕ) (signal : Option Signal) (what : Found) → IsBelow (length (processes scene.roster)) what
      → Fine (signals_found scene name content signal what)
  signals_fine name content signal Nothing below = tt
  signals_fine name content None (One id) below = tt
  signals_fine name content None (Group group) below = tt
  signals_fine name content (Some signal) (One id) below = found_fine (act.Signal signal) false name (One id) below
  signals_fine name content (Some signal) (Group group) below = found_fine (act.Signal signal) false name (Group group) below

  signals_group_fine : (name content : List ℕ) (signal : Option Signal) (what : Found) → Fine (signals_found_group scene name content signal what)
  signals_group_fine name content None (Group group) = tt
  signals_group_fine name content (Some signal) (Group group) = in_group (act.Signal signal) false name group
  signals_group_fine name content None (One id) = tt
  signals_group_fine name content None Nothing = tt
  signals_group_fine name content (Some signal) (One id) = tt
  signals_group_fine name content (Some signal) Nothing = tt

  signals_all_fine : (content : List ℕ) (signal : Option Signal) → Fine (signals_all scene content signal)
  signals_all_fine content None = tt
  signals_all_fine content (Some signal) = fitting (act.Signal signal) false None (start_order scene.roster) (all_there scene.roster)

  -- ---- logs

  main_cleared : (file : Option (List ℕ)) → Fine (clears_main file)
  main_cleared None = tt
  main_cleared (Some file) = inl refl

  process_cleared : (name : List ℕ) (id : ChildId) (process : Option (GroupSpec × Spec)) → Fine (clears_process name id process)
  process_cleared name id None = tt
  process_cleared name id (Some process) = inl refl

  found_cleared : (name : List ℕ) (what : Found) → Fine (clears_found scene.roster name what)
  found_cleared name (One id) = process_cleared name id (slice_get (pairs_of scene.roster) id.0)
  found_cleared name (Group group) = tt
  found_cleared name Nothing = tt

  part_read : (file : List ℕ) (span : Option Span) → Fine (reads_part file span)
  part_read file None = tt
  part_read file (Some span) = tt

  is_read : (name file : Option (List ℕ)) (offset length : ℤ) → Fine (reads scene name file offset length)
  is_read name None offset length = tt
  is_read name (Some file) offset length = part_read file (read_part (size_of file scene.sizes) offset length)

  is_tailed : (file : Option (List ℕ)) (offset length : ℤ) → Fine (tails scene file offset length)
  is_tailed None offset length = tt
  is_tailed (Some file) offset length = tt

  log_fine : (method : LogMethod) (name : List ℕ) (spec : Spec) (offset length : ℤ) → Fine (log_of method scene name spec offset length)
  log_fine ReadStderr name spec offset length = is_read (Some name) spec.stderr.file offset length
  log_fine ReadStdout name spec offset length = is_read (Some name) spec.stdout.file offset length
  log_fine TailStderr name spec offset length = is_tailed spec.stderr.file offset length
  log_fine TailStdout name spec offset length = is_tailed spec.stdout.file offset length

  log_found_fine : (method : LogMethod) (name : List ℕ) (offset length : ℤ) (process : Option (GroupSpec × Spec))
      → Fine (log_of_found method scene name offset length process)
  log_found_fine method name offset length None = tt
  log_found_fine method name offset length (Some process) = log_fine method name process.1 offset length

  -- ---- rows

  plain_fine : (method : PlainMethod) (now : ℕ) → Fine (plain_row method scene now)
  plain_fine ClearAllProcessLogs now = inl refl
  plain_fine ClearLog now = main_cleared scene.config.main.file
  plain_fine GetApiVersion now = tt
  plain_fine GetAllProcessInfo now = tt
  plain_fine GetIdentification now = tt
  plain_fine GetPid now = tt
  plain_fine GetState now = tt
  plain_fine GetSupervisorVersion now = tt
  plain_fine ListMethods now = tt
  plain_fine Shutdown now = inl refl

  info_of_fine : (name : List ℕ) (said : List Tree) → Fine (info_row_of name said)
  info_of_fine name [] = tt
  info_of_fine name (said ∷ more) = tt

  info_fine : (name : List ℕ) (now : ℕ) (what : Found) → Fine (info_row_found scene name now what)
  info_fine name now (One id) = info_of_fine name (info_of (slice_get (pairs_of scene.roster) id.0) (slice_get scene.children id.0) now)
  info_fine name now (Group group) = tt
  info_fine name now Nothing = tt

  signature_fine : (method : Option Method) → Fine (signature_row method)
  signature_fine None = tt
  signature_fine (Some method) = tt

  text_fine : (method : TextMethod) (name : List ℕ) (now : ℕ) → Fine (text_row method scene name now)
  text_fine ClearProcessLogs name now = found_cleared name (found name scene.roster)
  text_fine GetProcessInfo name now = info_fine name now (found name scene.roster)
  text_fine MethodSignature name now = signature_fine (method_named name)
  text_fine SignalAllProcesses name now = signals_all_fine name (signal_of name)

  wait_fine : (method : WaitMethod) (wait : Bool) → Fine (wait_row method scene wait)
  wait_fine StartAllProcesses wait = fitting act.Start wait None (start_order scene.roster) (all_there scene.roster)
  wait_fine StopAllProcesses wait = fitting act.Stop wait None (start_order scene.roster) (all_there scene.roster)

  text_wait_fine : (method : TextWaitMethod) (name : List ℕ) (wait : Bool) → Fine (text_wait_row method scene name wait)
  text_wait_fine StartProcess name wait = found_fine act.Start wait name (found name scene.roster) (found_there name scene.roster)
  text_wait_fine StartProcessGroup name wait = found_group_fine act.Start wait name (group_named name scene.roster)
  text_wait_fine StopProcess name wait = found_fine act.Stop wait name (found name scene.roster) (found_there name scene.roster)
  text_wait_fine StopProcessGroup name wait = found_group_fine act.Stop wait name (group_named name scene.roster)

  stdin_fine : (name content : List ℕ) (what : Found) → Fine (stdin_found scene name content what)
  stdin_fine name content (One id) = by_tests (is_heard (slice_get scene.children id.0)) (is_closed (slice_get scene.closed id.0)) where
    by_tests : (b c : Bool) → Fine (if b then (if c then refuses NoFile (Some name) else does (request.Stdin id content ∷ []) (Some name))
        else refuses NotRunning (Some name))
    by_tests true true = tt
    by_tests true false = inl refl
    by_tests false c = tt
  stdin_fine name content (Group group) = tt
  stdin_fine name content Nothing = tt

  texts_fine : (method : TextsMethod) (name content : List ℕ) → Fine (texts_row method scene name content)
  texts_fine SendProcessStdin name content = stdin_fine name content (found name scene.roster)
  texts_fine SendRemoteCommEvent name content = inl refl
  texts_fine SignalProcess name content = signals_fine name content (signal_of content) (found name scene.roster) (found_there name scene.roster)
  texts_fine SignalProcessGroup name content = signals_group_fine name content (signal_of content) (group_named name scene.roster)

  params_fine : {A : Type 0} (method : Method) (given : Option A) (then_row : A → Outcome) → ((x : A) → Fine (then_row x))
      → Fine (after_params method scene given then_row)
  params_fine method None then_row each = tt
  params_fine method (Some x) then_row each =
      fine_if (is_shut method scene.mood) (refuses ShutdownState None) (then_row x) tt (each x)

  row_fine : (method : Method) (params : Trees) (now : ℕ) → Fine (row method scene params now)
  row_fine (takes.Plain method) params now =
      params_fine (takes.Plain method) (nothing_in params) (λ given. plain_row method scene now) (λ given. plain_fine method now)
  row_fine (takes.OfText method) params now =
      params_fine (takes.OfText method) (text_in params) (λ given. text_row method scene given now) (λ given. text_fine method given now)
  row_fine (takes.OfWait method) params now =
      params_fine (takes.OfWait method) (wait_in params) (λ given. wait_row method scene given) (λ given. wait_fine method given)
  row_fine (takes.OfTextAndWait method) params now =
      params_fine (takes.OfTextAndWait method) (text_and_wait_in params) (λ given. text_wait_row method scene given.0 given.1)
      (λ given. text_wait_fine method given.0 given.1)
  row_fine (takes.OfTexts method) params now =
      params_fine (takes.OfTexts method) (texts_in params) (λ given. texts_row method scene given.0 given.1)
      (λ given. texts_fine method given.0 given.1)
  row_fine takes.ReadLog params now =
      params_fine takes.ReadLog (numbers_in params) (λ given. reads_main scene given.0 given.1)
      (λ given. is_read None scene.config.main.file given.0 given.1)
  row_fine (takes.OfLog method) params now =
      params_fine (takes.OfLog method) (log_in params) (λ given. log_row method scene given.0 given.1 given.2)
      (λ given. log_found_fine method given.0 given.1 given.2 (process_named given.0 scene.roster))
  row_fine takes.Multicall params now = tt

  here_fine : (method : Option Method) (params : Trees) (now : ℕ) → Fine (row_if_here method scene params now)
  here_fine None params now = tt
  here_fine (Some method) params now =
      fine_if (is_here scene.config method) (row method scene params now) (refuses UnknownMethod None) (row_fine method params now) tt

  pub plan_settles : (call : CallTree) (now : ℕ) → Settles scene.roster scene.children (planned scene call now)
  plan_settles call now = here_fine (method_named call.method) call.params now
