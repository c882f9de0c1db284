-- The table of methods (the manual's chapter on its XML-RPC interface): one row for each method.
use Rattle.std.specs.Prelude.{ℕ, ℤ, pos, List, [], ◌∷◌, ◌++◌, Bool, true, false, not, ◌&&◌, ◌||◌}
use Rattle.std.specs.Prelude.{Option, Some, None, codes, find, map, if◌then◌else◌}
use Rattle.std.specs.List.{slice_get}
use Rattle.std.specs.Str.{str_to_ascii_lowercase}
use Rattle.sv_base.specs.Names.{mood_name, mood_number}
use Rattle.sv_base.specs.SignalWords.{all_signals, is_signal_word}
use Rattle.sv_base.specs.declared.config.Config.{Config}
use Rattle.sv_base.specs.declared.ids.ChildId.{ChildId}
use Rattle.sv_base.specs.declared.signal.Signal.{Signal}
use Rattle.sv_base.specs.declared.spec.GroupSpec.{GroupSpec}
use Rattle.sv_base.specs.declared.spec.Spec.{Spec}
use Rattle.sv_base.specs.declared.state.Mood.{Mood}
use Rattle.sv_base.specs.declared.state.Mood.TheVariants as mood_is
use Rattle.sv_child.specs.declared.child.Child.{Child}
use Rattle.sv_groups.specs.Lookup.{found}
use Rattle.sv_groups.specs.StartOrder.{pairs_of, processes, start_order}
use Rattle.sv_groups.specs.declared.lookup.Found.{Found}
use Rattle.sv_groups.specs.declared.lookup.Found.TheVariants.{One, Group, Nothing}
use Rattle.sv_info.specs.declared.fault.Fault.{Fault}
use Rattle.sv_info.specs.declared.fault.Fault.TheVariants.{BadName, IncorrectParameters, NoFile}
use Rattle.sv_info.specs.declared.fault.Fault.TheVariants.{NotRunning, ShutdownState}
use Rattle.sv_info.specs.declared.fault.Fault.TheVariants.{SignatureUnsupported, UnknownMethod}
use Rattle.sv_methods.specs.Acts.{asks_all, asks_group_named, asks_named, signals_all}
use Rattle.sv_methods.specs.Acts.{signals_found, signals_found_group}
use Rattle.sv_methods.specs.Logs.{clear_request, cleared, clears, clears_main, clears_named}
use Rattle.sv_methods.specs.Logs.{log_row, reads_main}
use Rattle.sv_methods.specs.MethodNames.{all_methods, is_always_open, is_ours, method_named}
use Rattle.sv_methods.specs.MethodNames.{signature, spelling}
use Rattle.sv_methods.specs.Outcomes.{Outcome, Gives, does, refuses}
use Rattle.sv_methods.specs.Params.{log_in, numbers_in, text_and_wait_in, text_in, texts_in}
use Rattle.sv_methods.specs.Params.{wait_in, ended}
use Rattle.sv_methods.specs.Processes.{group_named, info_of, infos, is_heard_state}
use Rattle.sv_methods.specs.declared.act.Act.TheVariants as act
use Rattle.sv_methods.specs.declared.method.LogMethod.{LogMethod}
use Rattle.sv_methods.specs.declared.method.Method.{Method}
use Rattle.sv_methods.specs.declared.method.Method.TheVariants as takes
use Rattle.sv_methods.specs.declared.method.PlainMethod.{PlainMethod}
use Rattle.sv_methods.specs.declared.method.PlainMethod.TheVariants.{ClearAllProcessLogs, ClearLog}
use Rattle.sv_methods.specs.declared.method.PlainMethod.TheVariants.{GetApiVersion}
use Rattle.sv_methods.specs.declared.method.PlainMethod.TheVariants.{GetAllProcessInfo}
use Rattle.sv_methods.specs.declared.method.PlainMethod.TheVariants.{GetIdentification, GetPid}
use Rattle.sv_methods.specs.declared.method.PlainMethod.TheVariants.{GetState, GetSupervisorVersion}
use Rattle.sv_methods.specs.declared.method.PlainMethod.TheVariants.{ListMethods, Shutdown}
use Rattle.sv_methods.specs.declared.method.TextMethod.{TextMethod}
use Rattle.sv_methods.specs.declared.method.TextMethod.TheVariants.{ClearProcessLogs}
use Rattle.sv_methods.specs.declared.method.TextMethod.TheVariants.{GetProcessInfo, MethodSignature}
use Rattle.sv_methods.specs.declared.method.TextMethod.TheVariants.{SignalAllProcesses}
use Rattle.sv_methods.specs.declared.method.TextWaitMethod.{TextWaitMethod}
use Rattle.sv_methods.specs.declared.method.TextWaitMethod.TheVariants.{StartProcess}
use Rattle.sv_methods.specs.declared.method.TextWaitMethod.TheVariants.{StartProcessGroup}
use Rattle.sv_methods.specs.declared.method.TextWaitMethod.TheVariants.{StopProcess}
use Rattle.sv_methods.specs.declared.method.TextWaitMethod.TheVariants.{StopProcessGroup}
use Rattle.sv_methods.specs.declared.method.TextsMethod.{TextsMethod}
use Rattle.sv_methods.specs.declared.method.TextsMethod.TheVariants.{SendProcessStdin}
use Rattle.sv_methods.specs.declared.method.TextsMethod.TheVariants.{SendRemoteCommEvent}
use Rattle.sv_methods.specs.declared.method.TextsMethod.TheVariants.{SignalProcess}
use Rattle.sv_methods.specs.declared.method.TextsMethod.TheVariants.{SignalProcessGroup}
use Rattle.sv_methods.specs.declared.method.WaitMethod.{WaitMethod}
use Rattle.sv_methods.specs.declared.method.WaitMethod.TheVariants.{StartAllProcesses}
use Rattle.sv_methods.specs.declared.method.WaitMethod.TheVariants.{StopAllProcesses}
use Rattle.sv_methods.specs.declared.planned.Asked.{Asked}
use Rattle.sv_methods.specs.declared.planned.Request.{Request}
use Rattle.sv_methods.specs.declared.planned.Request.TheVariants as request
use Rattle.sv_methods.specs.Scenes.{Scene}
use Rattle.sv_xmlcall.specs.Trees.{CallTree, Tree, Trees, integer, text, structure, array, no_tree}
use Rattle.sv_xmlcall.specs.Trees.{tree, trees_of, members_of}

-- texts as an array
abbrev pub texts_tree : List (List ℕ) → Tree
texts_tree texts = array (trees_of (map text texts))

-- the mood as a struct
abbrev pub state_tree : Mood → Tree
state_tree mood =
    structure (members_of
    ((codes "statecode", integer (mood_number mood))
    ∷ (codes "statename", text (mood_name mood)) ∷ []))

-- the logs of all processes are cleared
abbrev pub clears_all : Scene → Outcome
clears_all scene =
    clears (map clear_request (processes scene.roster)) true None
    (map (λ id. cleared (Some id)) (start_order scene.roster))

-- methods that take nothing
abbrev pub plain_row : PlainMethod → Scene → ℕ → Outcome
plain_row ClearAllProcessLogs scene now = clears_all scene
plain_row ClearLog scene now = clears_main scene.config.main.file
plain_row GetApiVersion scene now = Gives (text (codes "3.0"))
plain_row GetAllProcessInfo scene now =
    Gives (array (trees_of (infos scene.roster scene.children now)))
plain_row GetIdentification scene now = Gives (text scene.config.identifier)
plain_row GetPid scene now = Gives (integer (pos scene.pid))
plain_row GetState scene now = Gives (state_tree scene.mood)
plain_row GetSupervisorVersion scene now = Gives (text (codes "4.0.0"))
plain_row ListMethods scene now = Gives (texts_tree (map spelling all_methods))
plain_row Shutdown scene now = does (request.Shutdown ∷ []) None

-- one process
abbrev pub info_row_of : List ℕ → List Tree → Outcome
info_row_of name [] = refuses BadName (Some name)
info_row_of name (said ∷ more) = Gives said

-- what was found for a name: one process has a struct, a group and nothing have none
abbrev pub info_row_found : Scene → List ℕ → ℕ → Found → Outcome
info_row_found scene name now (One id) =
    info_row_of name
    (info_of (slice_get (pairs_of scene.roster) id.0) (slice_get scene.children id.0) now)
info_row_found scene name now found = refuses BadName (Some name)

-- the same by the name
abbrev pub info_row : Scene → List ℕ → ℕ → Outcome
info_row scene name now = info_row_found scene name now (found name scene.roster)

-- the signature of a method, where it is one
abbrev pub signature_row : Option Method → Outcome
signature_row None = refuses SignatureUnsupported None
signature_row (Some method) = Gives (texts_tree (signature method))

-- the signal of a text
abbrev pub signal_of : List ℕ → Option Signal
signal_of content = find (is_signal_word (str_to_ascii_lowercase content)) all_signals

-- methods that take a text
abbrev pub text_row : TextMethod → Scene → List ℕ → ℕ → Outcome
text_row ClearProcessLogs scene name now = clears_named scene name
text_row GetProcessInfo scene name now = info_row scene name now
text_row MethodSignature scene name now = signature_row (method_named name)
text_row SignalAllProcesses scene name now = signals_all scene name (signal_of name)

-- methods that take whether to wait
abbrev pub wait_row : WaitMethod → Scene → Bool → Outcome
wait_row StartAllProcesses scene wait = asks_all act.Start scene wait
wait_row StopAllProcesses scene wait = asks_all act.Stop scene wait

-- methods that take a text and whether to wait
abbrev pub text_wait_row : TextWaitMethod → Scene → List ℕ → Bool → Outcome
text_wait_row StartProcess scene name wait = asks_named act.Start scene wait name
text_wait_row StartProcessGroup scene name wait = asks_group_named act.Start scene wait name
text_wait_row StopProcess scene name wait = asks_named act.Stop scene wait name
text_wait_row StopProcessGroup scene name wait = asks_group_named act.Stop scene wait name

-- the stdin of a process
abbrev pub is_heard : Option Child → Bool
is_heard None = false
is_heard (Some child) = is_heard_state child.state

-- whether the stdin of a process was closed; what isn't known isn't closed
abbrev pub is_closed : Option Bool → Bool
is_closed None = false
is_closed (Some closed) = closed

-- a text for the stdin of what was found for a name
abbrev pub stdin_found : Scene → List ℕ → List ℕ → Found → Outcome
stdin_found scene name content (One id) =
    if is_heard (slice_get scene.children id.0)
    then (if is_closed (slice_get scene.closed id.0) then refuses NoFile (Some name)
    else does (request.Stdin id content ∷ []) (Some name))
    else refuses NotRunning (Some name)
stdin_found scene name content found = refuses BadName (Some name)

-- methods that take two texts
abbrev pub texts_row : TextsMethod → Scene → List ℕ → List ℕ → Outcome
texts_row SendProcessStdin scene name content =
    stdin_found scene name content (found name scene.roster)
texts_row SendRemoteCommEvent scene sort content = does (request.Remote sort content ∷ []) None
texts_row SignalProcess scene name content =
    signals_found scene name content (signal_of content) (found name scene.roster)
texts_row SignalProcessGroup scene name content =
    signals_found_group scene name content (signal_of content) (group_named name scene.roster)

-- in another mood than RUNNING most methods are refused
abbrev pub is_shut : Method → Mood → Bool
is_shut method mood_is.Running = false
is_shut method mood = not (is_always_open method)

-- the row of a method, after what it takes was looked at, and then the mood
abbrev pub after_params : {A : Type 0} → Method → Scene → Option A → (A → Outcome) → Outcome
after_params method scene None row = refuses IncorrectParameters None
after_params method scene (Some given) row =
    if is_shut method scene.mood then refuses ShutdownState None else row given

-- nothing
abbrev pub nothing_in : Trees → Option (Unit {0})
nothing_in params = ended tt params

-- what comes of a call of a method; several calls in one aren't planned here
abbrev pub row : Method → Scene → Trees → ℕ → Outcome
row (takes.Plain method) scene params now =
    after_params (takes.Plain method) scene (nothing_in params)
    (λ given. plain_row method scene now)
row (takes.OfText method) scene params now =
    after_params (takes.OfText method) scene (text_in params)
    (λ given. text_row method scene given now)
row (takes.OfWait method) scene params now =
    after_params (takes.OfWait method) scene (wait_in params) (λ given. wait_row method scene given)
row (takes.OfTextAndWait method) scene params now =
    after_params (takes.OfTextAndWait method) scene (text_and_wait_in params)
    (λ given. text_wait_row method scene given.0 given.1)
row (takes.OfTexts method) scene params now =
    after_params (takes.OfTexts method) scene (texts_in params)
    (λ given. texts_row method scene given.0 given.1)
row takes.ReadLog scene params now =
    after_params takes.ReadLog scene (numbers_in params)
    (λ given. reads_main scene given.0 given.1)
row (takes.OfLog method) scene params now =
    after_params (takes.OfLog method) scene (log_in params)
    (λ given. log_row method scene given.0 given.1 given.2)
row takes.Multicall scene params now = refuses IncorrectParameters None

-- without an rpcinterface section only the methods that begin with `system.` are here
abbrev pub is_here : Config → Method → Bool
is_here config method = config.rpc || not (is_ours method)

-- the row of a method that is here
abbrev pub row_if_here : Option Method → Scene → Trees → ℕ → Outcome
row_if_here None scene params now = refuses UnknownMethod None
row_if_here (Some method) scene params now =
    if is_here scene.config method then row method scene params now
    else refuses UnknownMethod None

-- what comes of a call
abbrev pub planned : Scene → CallTree → ℕ → Outcome
planned scene call now = row_if_here (method_named call.method) scene call.params now
