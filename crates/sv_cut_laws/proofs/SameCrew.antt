-- What leaves the children as they are: all steps of a turn but the rewinding and the moves of the children themselves.
use Rattle.std.proofs.Common.{◌≡◌, ℕ, zero, suc, ◌++◌, List, [], ◌∷◌, Bool, true, false, Option, Some, None, if◌then◌else◌, ◌∙◌, refl}
use Rattle.std.specs.Prelude.{codes}
use Rattle.std.specs.Str.{bytes_eq}
use Rattle.sv_calls.specs.declared.answers.sent.Sent.{Sent}
use Rattle.sv_calls.specs.Answers.Served.{said}
use Rattle.sv_base.specs.declared.ids.LinkId.{LinkId}
use Rattle.sv_base.specs.declared.ids.Run.{Run}
use Rattle.sv_base.specs.declared.kind.Kind.{Kind}
use Rattle.sv_base.specs.declared.kind.Kind.TheVariants as kind
use Rattle.sv_base.specs.declared.signal.Signal.{Signal}
use Rattle.sv_base.specs.declared.state.How.{How}
use Rattle.sv_base.specs.declared.state.Mood.TheVariants as mood_is
use Rattle.sv_base.specs.declared.state.Stream.{Stream}
use Rattle.sv_base.specs.declared.state.Stream.TheVariants.{Out, Err}
use Rattle.sv_calls.specs.CallBook as call_book
use Rattle.sv_calls.specs.CallBook.{AnswerTree}
use Rattle.sv_calls.specs.declared.setback.Setback.{Setback}
use Rattle.sv_child.specs.Moves.{Answer, is_running}
use Rattle.sv_child.specs.declared.step.ChildDeed.{ChildDeed}
use Rattle.sv_child.specs.declared.step.ChildDeed.TheVariants.{Spawn, Kill}
use Rattle.sv_child.specs.declared.step.Edge.{Edge}
use Rattle.sv_child.specs.declared.step.Step.{Step}
use Rattle.sv_children.specs.Crew.{Member, member_at}
use Rattle.sv_children.specs.News.{moved, step_of}
use Rattle.sv_children.specs.Orders.{reports_at}
use Rattle.sv_core.specs.Calling.{answers_call, answers_if, checks_wait, closes_behind, end_of_wait, ends_call, replies, replies_if, sends_reply}
use Rattle.sv_core.specs.Events.{offers, offers_change, offers_if}
use Rattle.sv_core.specs.Failure.{failed}
use Rattle.sv_core.specs.Listening.{gives_back, hears, is_done_with, takes_result, tells, tells_all, tells_by}
use Rattle.sv_core.specs.Logging.{notes_if}
use Rattle.sv_core.specs.Moves.{begins_as, begins_output_of, changed, goes_edge, goes_edges, is_listener_of, moves, reported}
use Rattle.sv_core.specs.Openings.{opens_for}
use Rattle.sv_core.specs.Output.{ends_pipe, hears_on, log_fact, log_kind, logs_of, message_fact, message_kind, says_on, takes_all, takes_part, takes_parts}
use Rattle.sv_core.specs.Requests.{clear_answered, clear_setback, empties_if, is_empty, tells_call, writes_run}
use Rattle.sv_core.specs.Serving.{gives_more}
use Rattle.sv_core.specs.Shutdown.{begins_shutdown, halts, halts_after, heeds, in_mood, is_ending}
use Rattle.sv_core.specs.Stops.{signals}
use Rattle.sv_core.specs.World.{World, gives}
use Rattle.sv_core.specs.declared.failure.Failure.{Failure}
use Rattle.sv_core.specs.declared.failure.Failure.TheVariants.{NeverFails, ChangesNothing, LosesStdin, LosesLink, RefusesQuestion}
use Rattle.sv_core.specs.declared.part.Reply.{Reply}
use Rattle.sv_cut_laws.proofs.Followed.{all_closed, lost_one, returned, told_crew}
use Rattle.sv_cut_laws.proofs.Tells.{tells_note, tells_offer, tells_offer_if}
use Rattle.sv_events.specs.declared.fact.Fact.{Fact}
use Rattle.sv_events.specs.declared.fact.Fact.TheVariants as fact
use Rattle.sv_children.specs.EdgeFacts.{fact_at, kind_of, pid_at}
use Rattle.sv_http.specs.declared.guard.Guard.{Guard}
use Rattle.sv_children.specs.Lines.EdgeLines.{line_at, spawned_at}
use Rattle.sv_children.specs.declared.lines.line.Line.{Line}
use Rattle.sv_links.specs.LinkBook as link_book
use Rattle.sv_out.specs.declared.order.Order.TheVariants as order
use Rattle.sv_pipes.specs.declared.parts.Part.{Part as Heard}
use Rattle.sv_pipes.specs.declared.parts.Part.TheVariants as part
use Rattle.sv_pipes.specs.declared.tokens.Token.{Token}
use Rattle.sv_pipes.specs.declared.tokens.Token.TheVariants as token
use Rattle.sv_runs.specs.RunBook.{begun, heard, living, new_tokens, pipe_ended, stdin_lost, teller}
use Rattle.sv_runs.specs.Streams.StreamBook as output
use Rattle.sv_runs.specs.declared.streams.owner.Owner.{Owner}
use Rattle.sv_xmlcall.specs.Trees.{Reply as CallReply}

-- the children of the one world are those of the other
abbrev pub SameCrew : World → World → Type 0
SameCrew w v = v.children ≡ w.children

crew_if : (b : Bool) (w one other : World) → SameCrew w one → SameCrew w other → SameCrew w (if b then one else other)
crew_if true w one other first second = first
crew_if false w one other first second = second

-- ---- lines and events

pub note_crew : (line : Option Line) (w : World) → SameCrew w (notes_if line w)
note_crew line w = told_crew w (notes_if line w) (tells_note line w)

pub offer_crew : (kind : Kind) (fact : Fact) (w : World) → SameCrew w (offers kind fact w)
offer_crew kind fact w = told_crew w (offers kind fact w) (tells_offer kind fact w)

offer_if_crew : (kind : Kind) (f : Option Fact) (w : World) → SameCrew w (offers_if kind f w)
offer_if_crew kind f w = told_crew w (offers_if kind f w) (tells_offer_if kind f w)

-- ---- what is told of a child that moved

edge_crew : (how : Option How) (c pid : ℕ) (edge : Edge) (w : World) → SameCrew w (goes_edge how c pid edge w)
edge_crew how c pid edge w =
    let own = record w { given = w.given ++ reports_at w.children c (Some edge ∷ []) } in
    let line = line_at w.children c how edge in
    offer_if_crew (kind_of edge.to) (fact_at w.children c pid edge) (notes_if line own) ∙ note_crew line own

edges_crew : (how : Option How) (c pid : ℕ) (edges : List (Option Edge)) (w : World) → SameCrew w (goes_edges how c pid edges w)
edges_crew how c pid [] w = refl
edges_crew how c pid (None ∷ edges) w = edges_crew how c pid edges w
edges_crew how c pid (Some edge ∷ edges) w = edges_crew how c pid edges (goes_edge how c pid edge w) ∙ edge_crew how c pid edge w

step_crew : (how : Option How) (c pid : ℕ) (step : Option Step) (w : World) → SameCrew w (reported how c pid step w)
step_crew how c pid None w = refl
step_crew how c pid (Some step) w = edges_crew how c pid step.edges w

-- it moved, and that is all
pub moves_crew : (how : Option How) (c : ℕ) (answer : Option Answer) (w : World) → (moves how c answer w).children ≡ moved c answer w.children
moves_crew how c answer w = step_crew how c (pid_at w.children c) (step_of answer) (changed c answer w)

pub signals_crew : (deed : Option ChildDeed) (c : ℕ) (w : World) → SameCrew w (signals deed c w)
signals_crew (Some (Kill signal group)) c w = refl
signals_crew (Some Spawn) c w = refl
signals_crew None c w = refl

begins_output_crew : (c : ℕ) (run : Run) (pid : ℕ) (m : Option Member) (w : World) → SameCrew w (begins_output_of c run pid m w)
begins_output_crew c run pid None w = refl
begins_output_crew c run pid (Some m) w = refl

pub begins_crew : (c : ℕ) (run : Run) (pid : Option ℕ) (w : World) → SameCrew w (begins_as c run pid w)
begins_crew c run None w = refl
begins_crew c run (Some pid) w =
    let m = member_at w.children c in
    let ran = record w { runs = begun run c pid (is_listener_of m) w.runs } in
    note_crew (spawned_at w.children c pid) (begins_output_of c run pid m ran) ∙ begins_output_crew c run pid m ran

-- ---- listeners and output

result_crew : (c : ℕ) (body : List ℕ) (w : World) → SameCrew w (takes_result c body w)
result_crew c body w = crew_if (bytes_eq body (codes "OK")) w (is_done_with c w) (gives_back c w) refl (returned c w).1

token_crew : (c : ℕ) (t : Token) (w : World) → SameCrew w (tells c t w)
token_crew c token.Ready w = refl
token_crew c (token.Result body) w = result_crew c body w
token_crew c token.Wrong w = (returned c w).1

tokens_crew : (c : ℕ) (ts : List Token) (w : World) → SameCrew w (tells_all c ts w)
tokens_crew c [] w = refl
tokens_crew c (t ∷ ts) w = tokens_crew c ts (tells c t w) ∙ token_crew c t w

by_crew : (found : Option ℕ) (ts : List Token) (w : World) → SameCrew w (tells_by found ts w)
by_crew None ts w = refl
by_crew (Some c) ts w = tokens_crew c ts w

hears_crew : (run : Run) (bytes : List ℕ) (w : World) → SameCrew w (hears run bytes w)
hears_crew run bytes w = by_crew (teller run w.runs) (new_tokens run bytes w.runs) (record w { runs = heard run bytes w.runs })

logs_of_crew : (channel : Stream) (m : Option Member) (bytes : List ℕ) (w : World) → SameCrew w (logs_of channel m bytes w)
logs_of_crew channel None bytes w = refl
logs_of_crew channel (Some m) bytes w = refl

part_crew : (owner : Owner) (channel : Stream) (p : Heard) (w : World) → SameCrew w (takes_part owner channel p w)
part_crew owner channel (part.Logged bytes) w =
    let m = member_at w.children owner.child in
    offer_if_crew (log_kind channel) (log_fact owner.pid channel m bytes) (logs_of channel m bytes w) ∙ logs_of_crew channel m bytes w
part_crew owner channel (part.Message bytes) w =
    offer_if_crew (message_kind channel) (message_fact owner.pid (member_at w.children owner.child) bytes) w

parts_crew : (owner : Owner) (channel : Stream) (ps : List Heard) (w : World) → SameCrew w (takes_parts owner channel ps w)
parts_crew owner channel [] w = refl
parts_crew owner channel (p ∷ ps) w = parts_crew owner channel ps (takes_part owner channel p w) ∙ part_crew owner channel p w

all_parts_crew : (owner : Option Owner) (channel : Option Stream) (ps : List Heard) (w : World) → SameCrew w (takes_all owner channel ps w)
all_parts_crew None channel ps w = refl
all_parts_crew (Some owner) None ps w = refl
all_parts_crew (Some owner) (Some channel) ps w = parts_crew owner channel ps w

says_crew : (pipe : Stream) (run : Run) (bytes : List ℕ) (w : World) → SameCrew w (says_on pipe run bytes w)
says_crew Out run bytes w = hears_crew run bytes w
says_crew Err run bytes w = refl

pub hears_on_crew : (pipe : Stream) (run : Run) (bytes : List ℕ) (w : World) → SameCrew w (hears_on pipe run bytes w)
hears_on_crew pipe run bytes w =
    let u = record w { streams = output.fed run pipe bytes w.streams } in
    let owner = output.owner_in run w.streams in
    let channel = output.channel_in run pipe w.streams in
    let ps = output.new_parts run pipe bytes w.streams in
    says_crew pipe run bytes (takes_all owner channel ps u) ∙ all_parts_crew owner channel ps u

pub ends_pipe_crew : (run : Run) (pipe : Stream) (w : World) → SameCrew w (ends_pipe run pipe w)
ends_pipe_crew run pipe w =
    all_parts_crew (output.owner_in run w.streams) (output.channel_in run pipe w.streams) (output.last_parts run pipe w.streams)
    (record w { runs = pipe_ended run pipe w.runs; streams = output.pipe_ended run pipe w.streams })

-- ---- the end of the daemon

pub shutdown_crew : (w : World) → SameCrew w (begins_shutdown w)
shutdown_crew w =
    let ending = in_mood mood_is.Shutdown w in
    crew_if (is_running w.course.mood) w (offers_change kind.SupervisorStateChangeStopping ending) w
    (offer_crew kind.SupervisorStateChangeStopping fact.Supervisor ending) refl

pub heeds_crew : (signal : Signal) (w : World) → SameCrew w (heeds signal w)
heeds_crew signal w = crew_if (is_ending signal) w (begins_shutdown w) w (shutdown_crew w) refl

pub halts_crew : (w : World) → SameCrew w (halts w)
halts_crew w = crew_if (is_running w.course.mood) w w (halts_after w.course.left w) refl (by_left w.course.left) where
  by_left : (left : ℕ) → SameCrew w (halts_after left w)
  by_left zero = (all_closed (link_book.open_links w.links) w).1
  by_left (suc left) = refl

-- ---- links and calls

pub opens_crew : (link : LinkId) (guard : Option Guard) (w : World) → SameCrew w (opens_for link guard w)
opens_crew link None w = refl
opens_crew link (Some guard) w = refl

closes_behind_crew : (b : Bool) (link : LinkId) (w : World) → SameCrew w (closes_behind b link w)
closes_behind_crew true link w = refl
closes_behind_crew false link w = refl

pub replies_crew : (link : LinkId) (sent : Sent) (w : World) → SameCrew w (replies link sent w)
replies_crew link sent w =
    let after = record w { links = link_book.answered link sent.closes w.links } in
    crew_if (link_book.is_sent link w.links) w (sends_reply link sent after) after
    (closes_behind_crew sent.closes link (gives (order.Send link sent.text) after)) refl

replies_if_crew : (link : LinkId) (answer : Option AnswerTree) (w : World) → SameCrew w (replies_if link answer w)
replies_if_crew link None w = refl
replies_if_crew link (Some answer) w = replies_crew link (said answer.close answer.reply) w

pub answers_crew : (link : LinkId) (reply : CallReply) (w : World) → SameCrew w (answers_call link reply w)
answers_crew link reply w =
    replies_if_crew link (call_book.answer_at link reply w.calls) (record w { calls = call_book.answered link reply w.calls })

pub ends_call_crew : (link : LinkId) (w : World) → SameCrew w (ends_call link w)
ends_call_crew link w = replies_if_crew link (call_book.end_at link w.calls) (record w { calls = call_book.ended link w.calls })

answers_if_crew : (link : LinkId) (reply : Option CallReply) (w : World) → SameCrew w (answers_if link reply w)
answers_if_crew link None w = refl
answers_if_crew link (Some reply) w = answers_crew link reply w

pub checks_crew : (link : LinkId) (w : World) → SameCrew w (checks_wait link w)
checks_crew link w = answers_if_crew link (end_of_wait link w) w

pub more_crew : (link : LinkId) (w : World) → SameCrew w (gives_more link w)
more_crew link w =
    let after = record w { links = link_book.more_given link w.links } in
    crew_if (link_book.more_is_due link w.links) w (gives (order.More link) after) after refl refl

pub tells_call_crew : (link : LinkId) (what : Option Setback) (w : World) → SameCrew w (tells_call link what w)
tells_call_crew link None w = refl
tells_call_crew link (Some what) w = refl

pub writes_crew : (run : Option Run) (bytes : List ℕ) (w : World) → SameCrew w (writes_run run bytes w)
writes_crew None bytes w = refl
writes_crew (Some run) bytes w = refl

empties_crew : (file : List ℕ) (b : Bool) (w : World) → SameCrew w (empties_if file b w)
empties_crew file true w = refl
empties_crew file false w = refl

pub cleared_crew : (link : LinkId) (file : List ℕ) (reply : Reply) (w : World) → SameCrew w (clear_answered link file reply w)
cleared_crew link file reply w =
    tells_call_crew link (clear_setback reply) (empties_if file (is_empty reply) w) ∙ empties_crew file (is_empty reply) w

-- ---- an order that failed

pub failed_crew : (failure : Failure) (w : World) → SameCrew w (failed failure w)
failed_crew (LosesStdin run) w = (lost_one (living run w.runs) run (record w { runs = stdin_lost run w.runs })).1
failed_crew (LosesLink link) w = refl
failed_crew RefusesQuestion w = refl
failed_crew ChangesNothing w = refl
failed_crew NeverFails w = refl
