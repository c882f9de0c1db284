-- A turn keeps the runs of the children: each that is STARTING, RUNNING or STOPPING has one when the turn ends, whatever is answered.
use Rattle.std.proofs.Common.{◌≡◌, ℕ, zero, suc, pos, ◌+◌, ◌||◌, List, [], ◌∷◌, Bool, true, false, Option, Some, None, if◌then◌else◌, ◌∙◌, refl, ap, sym, subst}
use Rattle.std.specs.Prelude.{◌-◌, codes, is_some, length, nat_le, slice_get}
use Rattle.sv_calls.specs.Answers.Served.{Request as Asked, Refuses as Refused_by, Calls as Asks, heard as ask_heard, is_several, no_parts, parts_in, reads_back, said, subject_of}
use Rattle.sv_calls.specs.declared.answers.read.LogRead.{LogRead}
use Rattle.sv_base.specs.declared.ids.LinkId.{LinkId}
use Rattle.sv_base.specs.declared.ids.Run.{Run}
use Rattle.sv_base.specs.declared.kind.Kind.TheVariants as kind
use Rattle.sv_base.specs.declared.spec.GroupSpec.{GroupSpec}
use Rattle.sv_base.specs.declared.spec.Spec.{Spec}
use Rattle.sv_base.specs.declared.state.How.{How}
use Rattle.sv_calls.specs.CallBook as call_book
use Rattle.sv_child.specs.Moves.{Answer as Answered, is_running}
use Rattle.sv_child.specs.declared.step.ChildDeed.{ChildDeed}
use Rattle.sv_child.specs.declared.step.ChildDeed.TheVariants.{Spawn, Kill}
use Rattle.sv_children.specs.Crew.{Crew}
use Rattle.sv_children.specs.News.{deed_of, moved, step_of, stimulus_of, stimulus_told}
use Rattle.sv_children.specs.Orders.{spawn_at, spawn_of}
use Rattle.sv_children.specs.Rewound.{crew_rewound}
use Rattle.sv_children.specs.Spans.{span_meant}
use Rattle.sv_children.specs.declared.news.News.{News}
use Rattle.sv_children.specs.declared.news.News.TheVariants as news_is
use Rattle.sv_core.specs.Calling.{acts_left, answers_call, asks_read, begins_one, begins_part_if, begins_several, calls, calls_all, calls_left, checks_wait, comes_of, ends_call, file_reply, goes_on, read_answered, replies, scene_of, takes_up}
use Rattle.sv_core.specs.Events.{announces, offers, ticks}
use Rattle.sv_core.specs.HandingOut.{hands_out}
use Rattle.sv_core.specs.Listening.{exits, exits_of}
use Rattle.sv_core.specs.Logging.{notes_if}
use Rattle.sv_core.specs.Moves.{answered, comes, fails, kills, moves, orders_spawn, says, started_as, told_of}
use Rattle.sv_core.specs.Openings.{guard_at, opens}
use Rattle.sv_core.specs.Output.{ends_pipe, hears_on}
use Rattle.sv_core.specs.Requests.{asks_clear, asks_start, carries_if, carries_request, clear_answered, clears_all, does_all, run_of, spawns_for, start_answered, start_fails, start_setback, starts, starts_as, starts_by, tells_call, writes}
use Rattle.sv_core.specs.Serving.{gives_more, serves_all, serves_ask, serves_asks, serves_left}
use Rattle.sv_core.specs.Shutdown.{begins_shutdown, drops_group, follows_plan, halts, has_come_to_rest, heeds, moves_on, tells_group}
use Rattle.sv_core.specs.Stops.{stops, stops_all, stops_from}
use Rattle.sv_core.specs.Sweeps.{Turn, asks, does, meets, spawns, spawns_as, sweeps, sweeps_over}
use Rattle.sv_core.specs.Sweeps.Turn.{Done, Ask}
use Rattle.sv_core.specs.Turn.{after_links, after_pass, after_stimulus, applies, rewinds, turn}
use Rattle.sv_core.specs.World.{World, gives}
use Rattle.sv_core.specs.declared.part.Cause.{Cause}
use Rattle.sv_core.specs.declared.part.Cause.TheVariants as cause_is
use Rattle.sv_core.specs.declared.part.Reply.{Reply}
use Rattle.sv_core.specs.declared.part.Reply.TheVariants.{Refused}
use Rattle.sv_cut_laws.proofs.Followed.{all_handed, returned, told_crew}
use Rattle.sv_cut_laws.proofs.HaveRuns.{Awaits, Comes, HaveRuns, comes_so, exit_never_starts, has_spawn, never_starts, told_runs}
use Rattle.sv_cut_laws.proofs.HaveRuns.Comes.{stays, waits}
use Rattle.sv_cut_laws.proofs.Rewinding.{runs_same, same_crew}
use Rattle.sv_cut_laws.proofs.SameCrew.{answers_crew, begins_crew, checks_crew, cleared_crew, ends_call_crew, ends_pipe_crew, halts_crew, hears_on_crew, heeds_crew, more_crew, moves_crew, note_crew, offer_crew, opens_crew, replies_crew, shutdown_crew, signals_crew, tells_call_crew, writes_crew}
use Rattle.sv_cut_laws.proofs.Tells.{having_announced, having_looked, tells_announced, tells_ticks}
use Rattle.sv_events.specs.declared.fact.Fact.TheVariants as fact
use Rattle.sv_groups.specs.StartOrder.{span_of}
use Rattle.sv_groups.specs.declared.order.Span.{Span}
use Rattle.sv_http.specs.declared.ask.Ask.{Ask as Request}
use Rattle.sv_children.specs.Lines.EdgeLines.{how_of, killing_at}
use Rattle.sv_children.specs.declared.lines.line.Line.{Line}
use Rattle.sv_links.specs.LinkBook as link_book
use Rattle.sv_links.specs.LinkBook.Ending.{Ended}
use Rattle.sv_methods.specs.MethodTable.{planned}
use Rattle.sv_methods.specs.Outcomes as planned_is
use Rattle.sv_methods.specs.declared.planned.Request.{Request as Wish}
use Rattle.sv_methods.specs.declared.planned.Request.TheVariants as wish
use Rattle.sv_multi.specs.Views.{PartTree, Calls, Refuses}
use Rattle.sv_out.specs.declared.order.Order.TheVariants as order
use Rattle.sv_out.specs.declared.order.SpawnOrder.{SpawnOrder}
use Rattle.sv_runs.specs.RunBook.{living, process_ended}
use Rattle.sv_xmlcall.specs.Trees.{CallTree, Reply as Answer, Returns, Faults}

-- the children have their runs
abbrev pub AllRun : World → Type 0
AllRun w = HaveRuns w.children.all

-- the turn ends with such children, whatever is answered; while a question stands no child changes
abbrev pub Keeps : Turn → Type 0
Keeps (Done w) = AllRun w
Keeps (Ask w q k) = (v : World) → v.children ≡ w.children → (reply : Reply) → Keeps (k v reply)

-- and so what comes next, from such children
abbrev pub GoesOn : (World → Turn) → Type 0
GoesOn k = (v : World) → AllRun v → Keeps (k v)

pub same_runs : (w v : World) → v.children ≡ w.children → AllRun w → AllRun v
same_runs w v is runs = subst (λ (crew : Crew). HaveRuns crew.all) (sym is) runs

-- it goes on with the same children
on : (k : World → Turn) (w v : World) → v.children ≡ w.children → GoesOn k → AllRun w → Keeps (k v)
on k w v is goes runs = goes v (same_runs w v is runs)

either : (b : Bool) (t u : Turn) → Keeps t → Keeps u → Keeps (if b then t else u)
either true t u one other = one
either false t u one other = other

-- ---- the steps of children

answered_runs : (c : ℕ) (run : Run) (reply : Reply) (w : World) → Awaits c w.children → AllRun (answered c run reply w)
answered_runs c run reply w await =
    let stimulus = stimulus_told run (told_of reply) in
    let v = comes None stimulus c w in
    subst (λ (crew : Crew). HaveRuns crew.all) (sym (begins_crew c run (started_as reply) v ∙ moves_crew None c (says stimulus c w) w))
    (told_runs c run (told_of reply) w.course.mood w.moment w.children await)

fails_runs : (c : ℕ) (w : World) → Awaits c w.children → AllRun (fails c w)
fails_runs c w await = answered_runs c (record { 0 = 0 }) (Refused (codes "failed")) w await

-- the process of a child that waits for its spawn is there
spawn_there : (c run : ℕ) (crew : Crew) → Awaits c crew → is_some (spawn_at crew c run) ≡ true
spawn_there c run crew await = ap (λ (pair : Option (GroupSpec × Spec)). is_some (spawn_of pair run)) await.pair_at

same_awaits : (c : ℕ) (w v : World) → v.children ≡ w.children → Awaits c w.children → Awaits c v.children
same_awaits c w v is await = subst (λ (crew : Crew). Awaits c crew) (sym is) await

asks_keeps : (c : ℕ) (run : Run) (w : World) (k : World → Turn) → Awaits c w.children → GoesOn k → Keeps (asks c run w k)
unfolding asks
asks_keeps c run w k await goes =
    λ v is reply. goes (answered c run reply v) (answered_runs c run reply v (same_awaits c w v is await))

spawns_as_keeps : (spawning : Option SpawnOrder) (c : ℕ) (w : World) (k : World → Turn) → is_some spawning ≡ true → Awaits c w.children → GoesOn k
    → Keeps (spawns_as spawning c w k)
spawns_as_keeps None c w k there await goes = absurd cc
spawns_as_keeps (Some spawning) c w k there await goes =
    asks_keeps c (record { 0 = w.next_run }) (orders_spawn spawning w) k await goes

spawns_keeps : (c : ℕ) (w : World) (k : World → Turn) → Awaits c w.children → GoesOn k → Keeps (spawns c w k)
spawns_keeps c w k await goes =
    either (nat_le w.next_run 4294967295) (spawns_as (spawn_at w.children c w.next_run) c w k) (k (fails c w))
    (spawns_as_keeps (spawn_at w.children c w.next_run) c w k (spawn_there c w.next_run w.children await) await goes)
    (goes (fails c w) (fails_runs c w await))

-- what is to be done isn't a spawn
does_keeps : (deed : Option ChildDeed) (c : ℕ) (w : World) (k : World → Turn) → has_spawn deed ≡ false → AllRun w → GoesOn k → Keeps (does deed c w k)
does_keeps None c w k none runs goes = goes w runs
does_keeps (Some (Kill signal group)) c w k none runs goes = goes (kills c signal group w) runs
does_keeps (Some Spawn) c w k none runs goes = absurd cc

meets_keeps : (news : News) (c : ℕ) (w : World) (k : World → Turn) → AllRun w → GoesOn k → Keeps (meets news c w k)
meets_keeps news c w k runs goes = by_kind (comes_so (stimulus_of news) c w.course.mood w.moment w.children runs) where
  answer : Option Answered
  answer = says (stimulus_of news) c w

  deed : Option ChildDeed
  deed = deed_of (step_of answer)

  beyond : World
  beyond = moves (how_of news) c answer w

  line : Option Line
  line = killing_at news deed beyond.children c

  crew_there : (notes_if line beyond).children ≡ moved c answer w.children
  crew_there = note_crew line beyond ∙ moves_crew (how_of news) c answer w

  by_kind : Comes (stimulus_of news) c w.children answer → Keeps (does deed c (notes_if line beyond) k)
  by_kind (stays all none) =
      does_keeps deed c (notes_if line beyond) k none (subst (λ (crew : Crew). HaveRuns crew.all) (sym crew_there) all) goes
  by_kind (waits child may await is) =
      subst (λ (d : Option ChildDeed). Keeps (does d c (notes_if line beyond) k)) (sym is)
      (spawns_keeps c (notes_if line beyond) k (subst (λ (crew : Crew). Awaits c crew) (sym crew_there) await) goes)

sweeps_keeps : (news : News) (left c : ℕ) (w : World) (k : World → Turn) → AllRun w → GoesOn k → Keeps (sweeps news left c w k)
sweeps_keeps news zero c w k runs goes = goes w runs
sweeps_keeps news (suc left) c w k runs goes =
    meets_keeps news c w (λ v. sweeps news left (c + 1) v k) runs (λ v all. sweeps_keeps news left (c + 1) v k all goes)

-- a stop starts nothing
stops_runs : (c : ℕ) (w : World) → AllRun w → AllRun (stops c w)
stops_runs c w runs =
    let answer = says (stimulus_of news_is.Stop) c w in
    subst (λ (crew : Crew). HaveRuns crew.all)
    (sym (signals_crew (deed_of (step_of answer)) c (moves None c answer w) ∙ moves_crew None c answer w))
    (never_starts (stimulus_of news_is.Stop) c w.course.mood w.moment w.children runs (λ child. refl))

stops_from_runs : (from left : ℕ) (w : World) → AllRun w → AllRun (stops_from from left w)
stops_from_runs from zero w runs = runs
stops_from_runs from (suc left) w runs = stops_from_runs from left (stops (from + left) w) (stops_runs (from + left) w runs)

stops_all_runs : (span : Span) (w : World) → AllRun w → AllRun (stops_all span w)
stops_all_runs span w runs = stops_from_runs span.from (span.to - span.from) w runs

-- an exit neither
exits_runs : (found : Option ℕ) (run : Run) (how : How) (w : World) → AllRun w → AllRun (exits_of found run how w)
exits_runs None run how w runs = runs
exits_runs (Some c) run how w runs =
    let stimulus = stimulus_of (news_is.Exit run how) in
    let v = comes (Some how) stimulus c w in
    let u = record v { runs = process_ended run v.runs } in
    subst (λ (crew : Crew). HaveRuns crew.all) (sym ((returned c u).1 ∙ moves_crew (Some how) c (says stimulus c w) w))
    (never_starts stimulus c w.course.mood w.moment w.children runs (exit_never_starts run how))

-- ---- the stop plan

run_if : (b : Bool) (one other : World) → AllRun one → AllRun other → AllRun (if b then one else other)
run_if true one other first second = first
run_if false one other first second = second

tells_group_runs : (group : ℕ) (w : World) → AllRun w → AllRun (tells_group group w)
tells_group_runs group w runs =
    let told = record w { course = record w.course { is_told = true } } in
    let span = span_of group w.children.roster in
    run_if (w.course.is_told || has_come_to_rest group w) w (stops_all span told) runs (stops_all_runs span told runs)

moves_on_runs : (left : ℕ) (w : World) → AllRun w → AllRun (moves_on left w)
moves_on_runs zero w runs = runs
moves_on_runs (suc left) w runs =
    let told = tells_group left w in
    let all = tells_group_runs left w runs in
    run_if (has_come_to_rest left told) (moves_on left (drops_group left told)) told (moves_on_runs left (drops_group left told) all) all

plan_runs : (w : World) → AllRun w → AllRun (follows_plan w)
plan_runs w runs = run_if (is_running w.course.mood) w (moves_on w.course.left w) runs (moves_on_runs w.course.left w runs)

after_links_keeps : GoesOn after_links
after_links_keeps w runs =
    let v = follows_plan w in
    same_runs v (halts (hands_out v)) (halts_crew (hands_out v) ∙ (all_handed (length v.children.all - 0) 0 v).1) (plan_runs w runs)

-- ---- what a call asks for

start_answered_runs : (link : LinkId) (c : ℕ) (run : Run) (reply : Reply) (w : World) → Awaits c w.children
    → AllRun (start_answered link c run reply w)
start_answered_runs link c run reply w await =
    let v = answered c run reply w in
    same_runs v (tells_call link (start_setback reply) v) (tells_call_crew link (start_setback reply) v) (answered_runs c run reply w await)

start_fails_runs : (link : LinkId) (c : ℕ) (w : World) → Awaits c w.children → AllRun (start_fails link c w)
start_fails_runs link c w await = fails_runs c w await

asks_start_keeps : (link : LinkId) (c : ℕ) (run : Run) (w : World) (k : World → Turn) → Awaits c w.children → GoesOn k
    → Keeps (asks_start link c run w k)
unfolding asks_start
asks_start_keeps link c run w k await goes =
    λ v is reply. goes (start_answered link c run reply v) (start_answered_runs link c run reply v (same_awaits c w v is await))

starts_as_keeps : (link : LinkId) (spawning : Option SpawnOrder) (c : ℕ) (w : World) (k : World → Turn) → is_some spawning ≡ true
    → Awaits c w.children → GoesOn k → Keeps (starts_as link spawning c w k)
starts_as_keeps link None c w k there await goes = absurd cc
starts_as_keeps link (Some spawning) c w k there await goes =
    asks_start_keeps link c (record { 0 = w.next_run }) (orders_spawn spawning w) k await goes

spawns_for_keeps : (link : LinkId) (c : ℕ) (w : World) (k : World → Turn) → Awaits c w.children → GoesOn k → Keeps (spawns_for link c w k)
spawns_for_keeps link c w k await goes =
    either (nat_le w.next_run 4294967295) (starts_as link (spawn_at w.children c w.next_run) c w k) (k (start_fails link c w))
    (starts_as_keeps link (spawn_at w.children c w.next_run) c w k (spawn_there c w.next_run w.children await) await goes)
    (goes (start_fails link c w) (start_fails_runs link c w await))

starts_by_keeps : (link : LinkId) (deed : Option ChildDeed) (c : ℕ) (w : World) (k : World → Turn) → has_spawn deed ≡ false → AllRun w → GoesOn k
    → Keeps (starts_by link deed c w k)
starts_by_keeps link None c w k none runs goes = goes w runs
starts_by_keeps link (Some (Kill signal group)) c w k none runs goes = goes w runs
starts_by_keeps link (Some Spawn) c w k none runs goes = absurd cc

starts_keeps : (link : LinkId) (c : ℕ) (w : World) (k : World → Turn) → AllRun w → GoesOn k → Keeps (starts link c w k)
starts_keeps link c w k runs goes = by_kind (comes_so (stimulus_of news_is.Start) c w.course.mood w.moment w.children runs) where
  answer : Option Answered
  answer = says (stimulus_of news_is.Start) c w

  deed : Option ChildDeed
  deed = deed_of (step_of answer)

  beyond : World
  beyond = moves None c answer w

  by_kind : Comes (stimulus_of news_is.Start) c w.children answer → Keeps (starts_by link deed c beyond k)
  by_kind (stays all none) =
      starts_by_keeps link deed c beyond k none (subst (λ (crew : Crew). HaveRuns crew.all) (sym (moves_crew None c answer w)) all) goes
  by_kind (waits child may await is) =
      subst (λ (d : Option ChildDeed). Keeps (starts_by link d c beyond k)) (sym is)
      (spawns_for_keeps link c beyond k (subst (λ (crew : Crew). Awaits c crew) (sym (moves_crew None c answer w)) await) goes)

asks_clear_keeps : (link : LinkId) (file : List ℕ) (w : World) (k : World → Turn) → AllRun w → GoesOn k → Keeps (asks_clear link file w k)
unfolding asks_clear
asks_clear_keeps link file w k runs goes =
    λ v is reply. on k w (clear_answered link file reply v) (cleared_crew link file reply v ∙ is) goes runs

clears_all_keeps : (link : LinkId) (files : List (List ℕ)) (w : World) (k : World → Turn) → AllRun w → GoesOn k → Keeps (clears_all link files w k)
clears_all_keeps link [] w k runs goes = goes w runs
clears_all_keeps link (file ∷ files) w k runs goes =
    asks_clear_keeps link file (gives (order.ClearFile file) w) (λ v. clears_all link files v k) runs
    (λ v all. clears_all_keeps link files v k all goes)

carries_keeps : (link : LinkId) (what : Wish) (w : World) (k : World → Turn) → AllRun w → GoesOn k → Keeps (carries_request link what w k)
carries_keeps link (wish.Start child) w k runs goes = starts_keeps link child.0 w k runs goes
carries_keeps link (wish.Stop child) w k runs goes = goes (stops child.0 w) (stops_runs child.0 w runs)
carries_keeps link (wish.Kill child signal) w k runs goes = goes (kills child.0 signal false w) runs
carries_keeps link (wish.Stdin child bytes) w k runs goes =
    on k w (writes child.0 bytes w) (writes_crew (run_of (slice_get w.children.all child.0)) bytes w) goes runs
carries_keeps link (wish.Remote sort bytes) w k runs goes =
    on k w (offers kind.RemoteCommunication (fact.Remote sort bytes) w) (offer_crew kind.RemoteCommunication (fact.Remote sort bytes) w) goes runs
carries_keeps link (wish.Clear files) w k runs goes = clears_all_keeps link files w k runs goes
carries_keeps link wish.Shutdown w k runs goes = on k w (begins_shutdown w) (shutdown_crew w) goes runs

carries_if_keeps : (link : LinkId) (what : Option Wish) (w : World) (k : World → Turn) → AllRun w → GoesOn k → Keeps (carries_if link what w k)
carries_if_keeps link None w k runs goes = goes w runs
carries_if_keeps link (Some what) w k runs goes = carries_keeps link what w k runs goes

does_all_keeps : (left : ℕ) (link : LinkId) (w : World) (k : World → Turn) → AllRun w → GoesOn k → Keeps (does_all left link w k)
does_all_keeps zero link w k runs goes = goes w runs
does_all_keeps (suc left) link w k runs goes =
    carries_if_keeps link (call_book.request_at link w.calls) (record w { calls = call_book.request_taken link w.calls })
    (λ v. does_all left link v k) runs (λ v all. does_all_keeps left link v k all goes)

-- ---- calls

answers_keeps : (link : LinkId) (reply : Answer) (w : World) (k : World → Turn) → AllRun w → GoesOn k → Keeps (k (answers_call link reply w))
answers_keeps link reply w k runs goes = on k w (answers_call link reply w) (answers_crew link reply w) goes runs

asks_read_keeps : (link : LinkId) (reading : LogRead) (w : World) (k : World → Turn) → AllRun w → GoesOn k → Keeps (asks_read link reading w k)
unfolding asks_read
asks_read_keeps link reading w k runs goes =
    λ v is reply. on k w (read_answered link reading reply v) (answers_crew link (reads_back reading (file_reply reply)) v ∙ is) goes runs

acts_keeps : (left : ℕ) (link : LinkId) (w : World) (k : World → Turn) → AllRun w → GoesOn k → Keeps (acts_left left link w k)
acts_keeps left link w k runs goes =
    does_all_keeps left link w (λ v. k (checks_wait link v)) runs (λ v all. on k v (checks_wait link v) (checks_crew link v) goes all)

comes_of_keeps : (link : LinkId) (subject : Option (List ℕ)) (outcome : planned_is.Outcome) (w : World) (k : World → Turn) → AllRun w → GoesOn k
    → Keeps (comes_of link subject outcome w k)
comes_of_keeps link subject (planned_is.Gives value) w k runs goes = answers_keeps link (Returns value) w k runs goes
comes_of_keeps link subject (planned_is.Refuses number content) w k runs goes = answers_keeps link (Faults (pos number) content) w k runs goes
comes_of_keeps link subject (planned_is.Does wishes waiting) w k runs goes =
    acts_keeps (length wishes) link (record w { calls = call_book.acting link wishes waiting w.calls }) k runs goes
comes_of_keeps link subject (planned_is.Reads file span shape) w k runs goes =
    asks_read_keeps link (record { file = file; span = span; shape = shape; subject = subject }) (gives (order.ReadFile file span.start span.length) w)
    k runs goes

calls_keeps : (link : LinkId) (call : CallTree) (w : World) (k : World → Turn) → AllRun w → GoesOn k → Keeps (calls link call w k)
calls_keeps link call w k runs goes = comes_of_keeps link (subject_of call.params) (planned (scene_of w) call w.moment) w k runs goes

part_keeps : (link : LinkId) (part : Option PartTree) (w : World) (k : World → Turn) → AllRun w → GoesOn k → Keeps (begins_part_if link part w k)
part_keeps link None w k runs goes = goes w runs
part_keeps link (Some (Calls call)) w k runs goes = calls_keeps link call w k runs goes
part_keeps link (Some (Refuses number content)) w k runs goes = answers_keeps link (Faults (pos number) content) w k runs goes

calls_all_keeps : (left : ℕ) (link : LinkId) (w : World) (k : World → Turn) → AllRun w → GoesOn k → Keeps (calls_all left link w k)
calls_all_keeps zero link w k runs goes = goes w runs
calls_all_keeps (suc left) link w k runs goes =
    part_keeps link (call_book.part_at link w.calls) (record w { calls = call_book.part_taken link w.calls })
    (λ v. calls_all left link v k) runs (λ v all. calls_all_keeps left link v k all goes)

calls_left_keeps : (left : ℕ) (link : LinkId) (w : World) (k : World → Turn) → AllRun w → GoesOn k → Keeps (calls_left left link w k)
calls_left_keeps left link w k runs goes =
    calls_all_keeps left link w (λ v. k (ends_call link v)) runs (λ v all. on k v (ends_call link v) (ends_call_crew link v) goes all)

goes_on_keeps : (link : LinkId) (w : World) (k : World → Turn) → AllRun w → GoesOn k → Keeps (goes_on link w k)
goes_on_keeps link w k runs goes =
    let v = checks_wait link w in
    calls_left_keeps (call_book.parts_left link v.calls) link v k (same_runs w v (checks_crew link w) runs) goes

several_keeps : (link : LinkId) (close : Bool) (parts : Option (List PartTree)) (w : World) (k : World → Turn) → AllRun w → GoesOn k
    → Keeps (begins_several link close parts w k)
several_keeps link close None w k runs goes =
    let sent = said close no_parts in on k w (replies link sent w) (replies_crew link sent w) goes runs
several_keeps link close (Some parts) w k runs goes =
    let v = record w { calls = call_book.begun link (call_book.new_several close parts) w.calls } in
    calls_left_keeps (call_book.parts_left link v.calls) link v k runs goes

one_keeps : (link : LinkId) (close : Bool) (call : CallTree) (w : World) (k : World → Turn) → AllRun w → GoesOn k
    → Keeps (begins_one link close call w k)
one_keeps link close call w k runs goes =
    calls_keeps link call (record w { calls = call_book.begun link (call_book.new_call close) w.calls }) (λ v. calls_left zero link v k) runs
    (λ v all. calls_left_keeps zero link v k all goes)

takes_up_keeps : (link : LinkId) (asked : Asked) (w : World) (k : World → Turn) → AllRun w → GoesOn k → Keeps (takes_up link asked w k)
takes_up_keeps link (Refused_by sent) w k runs goes = on k w (replies link sent w) (replies_crew link sent w) goes runs
takes_up_keeps link (Asks call close) w k runs goes =
    either (is_several call) (begins_several link close (parts_in call.params) w k) (begins_one link close call w k)
    (several_keeps link close (parts_in call.params) w k runs goes) (one_keeps link close call w k runs goes)

-- ---- links

serves_ask_keeps : (link : LinkId) (ask : Option Request) (w : World) (k : World → Turn) → AllRun w → GoesOn k → Keeps (serves_ask link ask w k)
serves_ask_keeps link None w k runs goes = goes w runs
serves_ask_keeps link (Some ask) w k runs goes = takes_up_keeps link (ask_heard ask) w k runs goes

serves_asks_keeps : (left : ℕ) (link : LinkId) (w : World) (k : World → Turn) → AllRun w → GoesOn k → Keeps (serves_asks left link w k)
serves_asks_keeps zero link w k runs goes = goes w runs
serves_asks_keeps (suc left) link w k runs goes =
    serves_ask_keeps link (link_book.ask_at link w.links) (record w { links = link_book.taken link w.links })
    (λ v. serves_asks left link v k) runs (λ v all. serves_asks_keeps left link v k all goes)

serves_left_keeps : (left : ℕ) (link : LinkId) (w : World) (k : World → Turn) → AllRun w → GoesOn k → Keeps (serves_left left link w k)
serves_left_keeps left link w k runs goes =
    serves_asks_keeps left link w (λ v. k (gives_more link v)) runs (λ v all. on k v (gives_more link v) (more_crew link v) goes all)

serves_all_keeps : (links : List LinkId) (w : World) (k : World → Turn) → AllRun w → GoesOn k → Keeps (serves_all links w k)
serves_all_keeps [] w k runs goes = goes w runs
serves_all_keeps (link ∷ links) w k runs goes =
    let left = link_book.left_at link w.links in
    goes_on_keeps link w (λ v. serves_left left link v (λ u. serves_all links u k)) runs
    (λ v all. serves_left_keeps left link v (λ u. serves_all links u k) all (λ u still. serves_all_keeps links u k still goes))

-- ---- the turn

after_pass_keeps : GoesOn after_pass
after_pass_keeps w runs = serves_all_keeps (link_book.busy_links w.links) w after_links runs after_links_keeps

after_stimulus_keeps : GoesOn after_stimulus
after_stimulus_keeps w runs =
    let v = ticks w in
    sweeps_keeps news_is.Time (length v.children.all - 0) 0 v after_pass
    (same_runs w v (told_crew (having_looked w) v (tells_ticks w)) runs) after_pass_keeps

start_keeps : (b : Bool) (span : Span) (w : World) → AllRun w → Keeps (if b then sweeps_over news_is.Start span w after_stimulus else after_stimulus w)
start_keeps true span w runs = sweeps_keeps news_is.Start (span.to - span.from) span.from w after_stimulus runs after_stimulus_keeps
start_keeps false span w runs = after_stimulus_keeps w runs

applies_keeps : (cause : Cause) (w : World) → AllRun w → Keeps (applies cause w after_stimulus)
applies_keeps cause_is.Tick w runs = after_stimulus_keeps w runs
applies_keeps (cause_is.Exit run how) w runs = after_stimulus_keeps (exits run how w) (exits_runs (living run w.runs) run how w runs)
applies_keeps (cause_is.Heard run stream bytes) w runs =
    on after_stimulus w (hears_on stream run bytes w) (hears_on_crew stream run bytes w) after_stimulus_keeps runs
applies_keeps (cause_is.PipeEnd run stream) w runs =
    on after_stimulus w (ends_pipe run stream w) (ends_pipe_crew run stream w) after_stimulus_keeps runs
applies_keeps (cause_is.Opened link side) w runs =
    on after_stimulus w (opens link side w) (opens_crew link (guard_at side w.config.servers) w) after_stimulus_keeps runs
applies_keeps (cause_is.Brought link bytes) w runs = after_stimulus_keeps (record w { links = link_book.fed link bytes w.links }) runs
applies_keeps (cause_is.LinkEnd link) w runs = after_stimulus_keeps (record w { links = link_book.ended link Ended w.links }) runs
applies_keeps (cause_is.Start name) w runs = start_keeps (is_running w.course.mood) (span_meant name w.children.roster) w runs
applies_keeps (cause_is.Stop name) w runs =
    let span = span_meant name w.children.roster in after_stimulus_keeps (stops_all span w) (stops_all_runs span w runs)
applies_keeps (cause_is.Signal signal) w runs = on after_stimulus w (heeds signal w) (heeds_crew signal w) after_stimulus_keeps runs

-- the whole turn, from children that have their runs
pub turn_keeps : (cause : Cause) (at : ℕ) (w : World) → AllRun w → Keeps (turn cause at w)
turn_keeps cause at w runs =
    let v = announces w in
    let all = same_runs w v (told_crew (having_announced w) v (tells_announced w)) runs in
    applies_keeps cause (rewinds at v) (runs_same v.children.all (crew_rewound at v.children).all (same_crew at v.children) all)
