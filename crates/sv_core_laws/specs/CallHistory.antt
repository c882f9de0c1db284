-- What is done with the calls of clients, and the replies that are sent (the manual's chapter on
-- its XML-RPC interface, startProcess: a start that waits isn't answered while its process is
-- STARTING).
use Rattle.std.specs.Prelude.{◌≡◌, ◌++◌, ◌∷◌, ℕ, List, [], Bool, true, false, Option, Some, None}
use Rattle.std.specs.Prelude.{filter, is_some, slice_get, if◌then◌else◌}
use Rattle.std.specs.List.{list_any}
use Rattle.sv_calls.specs.Answers.Served.{said}
use Rattle.sv_calls.specs.declared.answers.sent.Sent.{Sent}
use Rattle.sv_base.specs.declared.config.Config.{Config}
use Rattle.sv_base.specs.declared.ids.ChildId.{ChildId}
use Rattle.sv_base.specs.declared.ids.LinkId.{LinkId}
use Rattle.sv_base.specs.declared.spec.GroupSpec.{GroupSpec}
use Rattle.sv_base.specs.declared.spec.Spec.{Spec}
use Rattle.sv_base.specs.declared.state.State.TheVariants.{Starting}
use Rattle.sv_calls.specs.CallBook.{AnswerTree, CallBook, CallRecord, acting, answer_at, answered}
use Rattle.sv_calls.specs.CallBook.{begun, end_at, ended, no_calls, part_taken, request_taken}
use Rattle.sv_calls.specs.CallBook.{set_back, waiting_at}
use Rattle.sv_calls.specs.declared.setback.Setback.{Setback}
use Rattle.sv_child.specs.declared.step.Edge.{Edge}
use Rattle.sv_children.specs.Reported.{edge_told}
use Rattle.sv_core.specs.MachineState.{Model, now}
use Rattle.sv_core_laws.specs.LinkHistory.{reply_orders}
use Rattle.sv_groups.specs.StartOrder.{pairs_of}
use Rattle.sv_methods.specs.declared.planned.Aim.TheVariants.{Started}
use Rattle.sv_methods.specs.declared.planned.Asked.{Asked}
use Rattle.sv_methods.specs.declared.planned.Request.{Request}
use Rattle.sv_methods.specs.declared.planned.Waiting.{Waiting}
use Rattle.sv_out.specs.declared.order.Order.{Order}
use Rattle.sv_out.specs.declared.order.Order.TheVariants as order
use Rattle.sv_xmlcall.specs.Trees.{Reply}

-- ---- what happens

-- what is done with the call in hand of a link, and gives no reply: it is begun; of several calls
-- in one the next is begun; the requests of a method that acts are to be carried out, and then it
-- waits for this; the next of them is begun; it went wrong
pub data CallDeed : Type 0 where
  Begins : (link : LinkId) (call : CallRecord) → CallDeed
  TakesPart : (link : LinkId) → CallDeed
  Acts : (link : LinkId) (requests : List Request) (waiting : Waiting) → CallDeed
  TakesRequest : (link : LinkId) → CallDeed
  SetsBack : (link : LinkId) (setback : Setback) → CallDeed

-- one thing after the other: orders are given that send nothing to a client; something is done with
-- a call; the call of a link that was begun last is answered; several calls in one are answered, if
-- all of them were; a request that makes no call is answered. A reply is sent, or its link is over
pub data CallEntry : Type 0 where
  Gives : (orders : List Order) → CallEntry
  Does : (deed : CallDeed) → CallEntry
  Answers : (link : LinkId) (reply : Reply) (is_sent : Bool) → CallEntry
  Ends : (link : LinkId) (is_sent : Bool) → CallEntry
  Replies : (link : LinkId) (sent : Sent) (is_sent : Bool) → CallEntry

-- ---- what comes of it

-- the calls in hand after a deed
abbrev pub done : CallDeed → CallBook → CallBook
done (Begins link call) book = begun link call book
done (TakesPart link) book = part_taken link book
done (Acts link requests waiting) book = acting link requests waiting book
done (TakesRequest link) book = request_taken link book
done (SetsBack link setback) book = set_back link setback book

-- after an entry
abbrev pub calls_after : CallEntry → CallBook → CallBook
calls_after (Gives orders) book = book
calls_after (Does deed) book = done deed book
calls_after (Answers link reply is_sent) book = answered link reply book
calls_after (Ends link is_sent) book = ended link book
calls_after (Replies link sent is_sent) book = book

-- after all of them
abbrev pub all_calls_after : List CallEntry → CallBook → CallBook
all_calls_after [] book = book
all_calls_after (entry ∷ entries) book = all_calls_after entries (calls_after entry book)

-- what a call is answered as a reply, if it is answered
abbrev pub said_of : Option AnswerTree → Option Sent
said_of None = None
said_of (Some answer) = Some (said answer.close answer.reply)

-- a reply, where it is sent
abbrev pub sends_if : Bool → LinkId → Option Sent → List Order
sends_if is_sent link None = []
sends_if is_sent link (Some sent) = if is_sent then reply_orders link sent.closes sent.text else []

-- the orders of an entry
abbrev pub call_orders : CallEntry → CallBook → List Order
call_orders (Gives orders) book = orders
call_orders (Does deed) book = []
call_orders (Answers link reply is_sent) book =
    sends_if is_sent link (said_of (answer_at link reply book))
call_orders (Ends link is_sent) book = sends_if is_sent link (said_of (end_at link book))
call_orders (Replies link sent is_sent) book = sends_if is_sent link (Some sent)

-- of all of them, one after the other
abbrev pub all_call_orders : List CallEntry → CallBook → List Order
all_call_orders [] book = []
all_call_orders (entry ∷ entries) book =
    call_orders entry book ++ all_call_orders entries (calls_after entry book)

-- ---- what holds of it

-- an order that sends a reply
abbrev pub is_send : Order → Bool
is_send (order.Send link bytes) = true
is_send other = false

-- these orders report an edge of the process of this group and name
abbrev pub report_it : List ℕ → List ℕ → List Order → Bool
report_it group name orders = list_any (λ o. is_some (edge_told group name o)) orders

-- after each report among these orders that the process is STARTING stands another report of it
abbrev pub HasLeftStarting : List ℕ → List ℕ → List Order → Type 0
HasLeftStarting group name orders = (one two : List Order) (report : Order) (edge : Edge)
    → orders ≡ one ++ report ∷ two
    → edge_told group name report ≡ Some edge
    → edge.to ≡ Starting
    → report_it group name two ≡ true

-- so each process that was started and is waited for
abbrev pub StartsHaveEnded : List GroupSpec → Waiting → List Order → Type 0
StartsHaveEnded groups waiting before =
    (row : Asked) (place : ℕ) (child : ChildId) (group : GroupSpec) (spec : Spec)
    → waiting.wait ≡ true
    → slice_get waiting.rows place ≡ Some row
    → row.aim ≡ Started
    → row.child ≡ Some child
    → slice_get (pairs_of groups) child.0 ≡ Some (group, spec)
    → HasLeftStarting group.name spec.name before

-- where the call of a link waits, and these orders were given before
abbrev pub WaitsHaveEnded : List GroupSpec → LinkId → CallBook → List Order → Type 0
WaitsHaveEnded groups link book before =
    (waiting : Waiting) → waiting_at link book ≡ Some waiting
    → StartsHaveEnded groups waiting before

-- what holds of an entry, where these orders were given before: orders that it gives send nothing,
-- and a call that waits is answered once its processes have left STARTING
abbrev pub Holds : List GroupSpec → CallBook → List Order → CallEntry → Type 0
Holds groups book before (Gives orders) = filter is_send orders ≡ []
Holds groups book before (Does deed) = Unit {0}
Holds groups book before (Answers link reply is_sent) = WaitsHaveEnded groups link book before
Holds groups book before (Ends link is_sent) = Unit {0}
Holds groups book before (Replies link sent is_sent) = Unit {0}

-- of each of them
abbrev pub AllHold : List GroupSpec → CallBook → List Order → List CallEntry → Type 0
AllHold groups book before [] = Unit {0}
AllHold groups book before (entry ∷ entries) =
    Holds groups book before entry
    × AllHold groups (calls_after entry book) (before ++ call_orders entry book) entries

-- these things happened to calls, one after the other: the calls in hand are those after them, and
-- all orders are theirs, in order
pub record CallsHaveAHistory (config : Config) (m : Model) (given : List Order) : Type 0 where
  pub all : List CallEntry
  pub calls : (now m).calls ≡ all_calls_after all no_calls
  pub orders : given ≡ all_call_orders all no_calls
  pub hold : AllHold config.groups no_calls [] all
