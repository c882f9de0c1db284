-- Starting, stopping and signalling: one process, a group, or all.
use Rattle.std.specs.Prelude.{ℕ, List, [], ◌∷◌, Bool, true, false, not, Option, Some, None, filter}
use Rattle.std.specs.Prelude.{map, reverse, if◌then◌else◌}
use Rattle.std.specs.List.{slice_get}
use Rattle.sv_base.specs.declared.ids.ChildId.{ChildId}
use Rattle.sv_base.specs.declared.spec.GroupSpec.{GroupSpec}
use Rattle.sv_base.specs.declared.signal.Signal.{Signal}
use Rattle.sv_base.specs.declared.state.State.{State}
use Rattle.sv_child.specs.declared.child.Child.{Child}
use Rattle.sv_groups.specs.Lookup.{found}
use Rattle.sv_groups.specs.StartOrder.{start_order}
use Rattle.sv_groups.specs.declared.lookup.Found.{Found}
use Rattle.sv_groups.specs.declared.lookup.Found.TheVariants.{One, Group, Nothing}
use Rattle.sv_info.specs.declared.fault.Fault.{Fault}
use Rattle.sv_info.specs.declared.fault.Fault.TheVariants.{AlreadyStarted, BadName, BadSignal}
use Rattle.sv_info.specs.declared.fault.Fault.TheVariants.{NotRunning}
use Rattle.sv_methods.specs.Outcomes.{Outcome, Does, refuses}
use Rattle.sv_methods.specs.Processes.{group_named, is_running_state, is_signalled_state}
use Rattle.sv_methods.specs.Processes.{members_of_group}
use Rattle.sv_methods.specs.declared.act.Act.{Act}
use Rattle.sv_methods.specs.declared.act.Act.TheVariants as act
use Rattle.sv_methods.specs.declared.planned.Aim.{Aim}
use Rattle.sv_methods.specs.declared.planned.Aim.TheVariants.{Started, Stopped, Signalled}
use Rattle.sv_methods.specs.declared.planned.Asked.{Asked}
use Rattle.sv_methods.specs.declared.planned.Request.{Request}
use Rattle.sv_methods.specs.declared.planned.Request.TheVariants as request
use Rattle.sv_methods.specs.Scenes.{Scene}

-- what is asked for
abbrev pub aim_of : Act → Aim
aim_of act.Start = Started
aim_of act.Stop = Stopped
aim_of (act.Signal signal) = Signalled

-- the request for one process
abbrev pub request_for : Act → ChildId → Request
request_for act.Start child = request.Start child
request_for act.Stop child = request.Stop child
request_for (act.Signal signal) child = request.Kill child signal

-- the states in which a process is asked
abbrev pub asks_in : Act → State → Bool
asks_in act.Start state = not (is_running_state state)
asks_in act.Stop state = is_running_state state
asks_in (act.Signal signal) state = is_signalled_state state

-- the fault for one process in another state
abbrev pub unfit : Act → Fault
unfit act.Start = AlreadyStarted
unfit act.Stop = NotRunning
unfit (act.Signal signal) = NotRunning

-- a process that is there is asked by its state
abbrev pub is_asked : Act → Option Child → Bool
is_asked act None = false
is_asked act (Some child) = asks_in act child.state

-- the processes that are asked, of these
abbrev pub asked_of : Act → List Child → List ChildId → List ChildId
asked_of act children ids = filter (λ (id : ChildId). is_asked act (slice_get children id.0)) ids

-- what stops goes in the reverse of the start order
abbrev pub in_order : Act → List ChildId → List ChildId
in_order act.Stop ids = reverse ids
in_order act ids = ids

-- a row of what is asked for
abbrev pub row_for : Act → ChildId → Asked
row_for act id = record { child = Some id; aim = aim_of act; fault = None }

-- these processes are asked, and the answer is a status array
abbrev pub asks : Act → Bool → Option (List ℕ) → List ChildId → Outcome
asks act wait name ids =
    Does (map (request_for act) ids)
    (record { wait = wait; array = true; name = name; rows = map (row_for act) ids })

-- of these processes those in fitting states are asked
abbrev pub asks_fitting : Act → Scene → Bool → Option (List ℕ) → List ChildId → Outcome
asks_fitting act scene wait name ids =
    asks act wait name (asked_of act scene.children (in_order act ids))

-- one process is asked
abbrev pub asks_one : Act → Scene → Bool → List ℕ → ChildId → Outcome
asks_one act scene wait name id =
    if is_asked act (slice_get scene.children id.0)
    then Does (request_for act id ∷ [])
    (record { wait = wait; array = false; name = Some name; rows = row_for act id ∷ [] })
    else refuses (unfit act) (Some name)

-- the processes of a group
abbrev pub asks_group : Act → Scene → Bool → List ℕ → ℕ → Outcome
asks_group act scene wait name group =
    asks_fitting act scene wait (Some name) (members_of_group group scene.roster)

-- what a name finds is asked
abbrev pub asks_found : Act → Scene → Bool → List ℕ → Found → Outcome
asks_found act scene wait name (One id) = asks_one act scene wait name id
asks_found act scene wait name (Group group) = asks_group act scene wait name group
asks_found act scene wait name Nothing = refuses BadName (Some name)

-- a process, or a group
abbrev pub asks_named : Act → Scene → Bool → List ℕ → Outcome
asks_named act scene wait name = asks_found act scene wait name (found name scene.roster)

-- what was found for the name of a group is asked, if it is a group
abbrev pub asks_found_group : Act → Scene → Bool → List ℕ → Found → Outcome
asks_found_group act scene wait name (Group group) = asks_group act scene wait name group
asks_found_group act scene wait name other = refuses BadName (Some name)

-- a group by its own name
abbrev pub asks_group_named : Act → Scene → Bool → List ℕ → Outcome
asks_group_named act scene wait name =
    asks_found_group act scene wait name (group_named name scene.roster)

-- all processes
abbrev pub asks_all : Act → Scene → Bool → Outcome
asks_all act scene wait = asks_fitting act scene wait None (start_order scene.roster)

-- a signal by its text, after the name was looked at
abbrev pub signals_found : Scene → List ℕ → List ℕ → Option Signal → Found → Outcome
signals_found scene name content signal Nothing = refuses BadName (Some name)
signals_found scene name content None found = refuses BadSignal (Some content)
signals_found scene name content (Some signal) found =
    asks_found (act.Signal signal) scene false name found

-- the same for a group by its own name
abbrev pub signals_found_group : Scene → List ℕ → List ℕ → Option Signal → Found → Outcome
signals_found_group scene name content None (Group group) = refuses BadSignal (Some content)
signals_found_group scene name content (Some signal) (Group group) =
    asks_group (act.Signal signal) scene false name group
signals_found_group scene name content signal other = refuses BadName (Some name)

-- a signal by its text for all processes
abbrev pub signals_all : Scene → List ℕ → Option Signal → Outcome
signals_all scene content None = refuses BadSignal (Some content)
signals_all scene content (Some signal) = asks_all (act.Signal signal) scene false
