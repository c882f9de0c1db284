-- The calls in hand of the links: what is left to do for each, what it waits for, and what it is
-- answered (the manual's chapter on its XML-RPC interface, `system.multicall` among it).
use Rattle.std.specs.Prelude.{ℕ, List, [], ◌∷◌, ◌++◌, ◌-◌, ◌==◌, Bool, false, Option, Some, None}
use Rattle.std.specs.Prelude.{drop, length, if◌then◌else◌}
use Rattle.std.specs.List.{slice_get, slice_set}
use Rattle.sv_base.specs.declared.ids.ChildId.{ChildId}
use Rattle.sv_base.specs.declared.ids.LinkId.{LinkId}
use Rattle.sv_calls.specs.declared.setback.Setback.{Setback}
use Rattle.sv_calls.specs.declared.setback.Setback.TheVariants.{NoFile, NotExecutable, NotStarted}
use Rattle.sv_calls.specs.declared.setback.Setback.TheVariants.{NotCleared, NoLog}
use Rattle.sv_methods.specs.declared.planned.Asked.{Asked}
use Rattle.sv_methods.specs.declared.planned.Request.{Request}
use Rattle.sv_methods.specs.declared.planned.Waiting.{Waiting}
use Rattle.sv_multi.specs.MultiCall.{result_of}
use Rattle.sv_multi.specs.Views.{PartTree}
use Rattle.sv_xmlcall.specs.Trees.{Tree, array, trees_of, Reply, Returns}

-- what a method that acts still has to do: its requests that aren't begun, and what it waits for
pub record TaskRecord : Type 0 where
  pub requests : List Request
  pub waiting : Waiting

-- several calls in one: what those before were answered, and the parts that aren't begun
pub record SeveralRecord : Type 0 where
  pub results : List Tree
  pub parts : List PartTree

-- a call in hand: whether its link closes after the reply, whether it is several calls in one, and
-- what the call that was begun last still has to do
pub record CallRecord : Type 0 where
  pub close : Bool
  pub several : Option SeveralRecord
  pub task : Option TaskRecord

-- of each link the call in hand, if it has one
abbrev pub CallBook : Type 0
CallBook = ℕ → Option CallRecord

-- no link has one
abbrev pub no_calls : CallBook
no_calls number = None

-- the call in hand of a link
abbrev pub call_at : LinkId → CallBook → Option CallRecord
call_at link book = book link.0

-- the call in hand of a link is changed, or done with
abbrev pub changed_at : LinkId → (Option CallRecord → Option CallRecord) → CallBook → CallBook
changed_at link change book number = if number == link.0 then change (book number) else book number

-- ---- a call is begun

-- one call
abbrev pub new_call : Bool → CallRecord
new_call close = record { close = close; several = None; task = None }

-- several calls in one
abbrev pub new_several : Bool → List PartTree → CallRecord
new_several close parts =
    record { close = close; several = Some (record { results = []; parts = parts }); task = None }

-- a call of a link is begun
abbrev pub begun : LinkId → CallRecord → CallBook → CallBook
begun link call book = changed_at link (λ before. Some call) book

-- ---- the parts of several calls in one

-- the parts that aren't begun
abbrev pub parts_of : Option SeveralRecord → List PartTree
parts_of None = []
parts_of (Some s) = s.parts

-- while a call isn't answered, the next part isn't begun
abbrev pub parts_free : Option TaskRecord → List PartTree → List PartTree
parts_free None parts = parts
parts_free (Some task) parts = []

-- the parts of a call in hand that can be begun
abbrev pub free_parts : Option CallRecord → List PartTree
free_parts None = []
free_parts (Some r) = parts_free r.task (parts_of r.several)

-- how many there are
abbrev pub parts_left : LinkId → CallBook → ℕ
parts_left link book = length (free_parts (call_at link book))

-- the next part
abbrev pub part_at : LinkId → CallBook → Option PartTree
part_at link book = slice_get (free_parts (call_at link book)) 0

-- it is begun
abbrev pub part_begun : Option SeveralRecord → Option SeveralRecord
part_begun None = None
part_begun (Some s) = Some (record s { parts = drop 1 s.parts })

-- if no other is in hand
abbrev pub begins_part : Option TaskRecord → CallRecord → CallRecord
begins_part None r = record r { several = part_begun r.several }
begins_part (Some task) r = r

-- of a call in hand
abbrev pub takes_part : Option CallRecord → Option CallRecord
takes_part None = None
takes_part (Some r) = Some (begins_part r.task r)

-- the next part of the call of a link is begun
abbrev pub part_taken : LinkId → CallBook → CallBook
part_taken link book = changed_at link takes_part book

-- ---- a method that acts

-- these requests are to be carried out
abbrev pub new_task : List Request → Waiting → TaskRecord
new_task requests waiting = record { requests = requests; waiting = waiting }

-- for a call in hand
abbrev pub acts : List Request → Waiting → Option CallRecord → Option CallRecord
acts requests waiting None = None
acts requests waiting (Some r) = Some (record r { task = Some (new_task requests waiting) })

-- for the call of a link
abbrev pub acting : LinkId → List Request → Waiting → CallBook → CallBook
acting link requests waiting book = changed_at link (acts requests waiting) book

-- the next request of a task
abbrev pub request_of : Option TaskRecord → Option Request
request_of None = None
request_of (Some task) = slice_get task.requests 0

-- it is begun
abbrev pub request_begun : Option TaskRecord → Option TaskRecord
request_begun None = None
request_begun (Some task) = Some (record task { requests = drop 1 task.requests })

-- the task of a call in hand
abbrev pub task_of : Option CallRecord → Option TaskRecord
task_of None = None
task_of (Some r) = r.task

-- the next request of the call of a link
abbrev pub request_at : LinkId → CallBook → Option Request
request_at link book = request_of (task_of (call_at link book))

-- a call in hand begins its next request
abbrev pub takes_request : Option CallRecord → Option CallRecord
takes_request None = None
takes_request (Some r) = Some (record r { task = request_begun r.task })

-- the next request of the call of a link is begun
abbrev pub request_taken : LinkId → CallBook → CallBook
request_taken link book = changed_at link takes_request book

-- ---- what went wrong with the request that was begun last

-- a missing file is a fault of the main log alone
abbrev pub no_log : Option ChildId → Option ℕ → Option ℕ
no_log None fault = Some 20
no_log (Some child) fault = fault

-- the fault of a row
abbrev pub fault_by : Setback → Asked → Option ℕ
fault_by NoFile asked = Some 20
fault_by NotExecutable asked = Some 21
fault_by NotStarted asked = Some 50
fault_by NotCleared asked = Some 30
fault_by NoLog asked = no_log asked.child asked.fault

-- the row in a place gets it, where there is one
abbrev pub faulted : Setback → ℕ → Option Asked → List Asked → List Asked
faulted setback place None rows = rows
faulted setback place (Some asked) rows =
    slice_set rows place (record asked { fault = fault_by setback asked })

-- the rows with that of a place
abbrev pub rows_faulted : Setback → ℕ → List Asked → List Asked
rows_faulted setback place rows = faulted setback place (slice_get rows place) rows

-- each request has its row, in their order: after that of the request that was begun last are those
-- of the others
abbrev pub row_place : TaskRecord → ℕ
row_place task = length task.waiting.rows - length task.requests - 1

-- the row of the request that was begun last
abbrev pub task_set_back : Setback → Option TaskRecord → Option TaskRecord
task_set_back setback None = None
task_set_back setback (Some task) = Some (record task {
  waiting = record task.waiting { rows = rows_faulted setback (row_place task) task.waiting.rows };
})

-- of a call in hand
abbrev pub is_set_back : Setback → Option CallRecord → Option CallRecord
is_set_back setback None = None
is_set_back setback (Some r) = Some (record r { task = task_set_back setback r.task })

-- the request of the call of a link went wrong
abbrev pub set_back : LinkId → Setback → CallBook → CallBook
set_back link setback book = changed_at link (is_set_back setback) book

-- ---- waits and answers

-- what a task waits for
abbrev pub waiting_of : Option TaskRecord → Option Waiting
waiting_of None = None
waiting_of (Some task) = Some task.waiting

-- what the call of a link waits for
abbrev pub waiting_at : LinkId → CallBook → Option Waiting
waiting_at link book = waiting_of (task_of (call_at link book))

-- what is replied, and whether the link closes after it
pub record AnswerTree : Type 0 where
  pub close : Bool
  pub reply : Reply

-- one call is answered so; of several the answers are gathered first
abbrev pub answer_by : Bool → Option SeveralRecord → Reply → Option AnswerTree
answer_by close None reply = Some (record { close = close; reply = reply })
answer_by close (Some s) reply = None

-- of a call in hand
abbrev pub answer_of : Reply → Option CallRecord → Option AnswerTree
answer_of reply None = None
answer_of reply (Some r) = answer_by r.close r.several reply

-- what the call of a link is answered, where it is one
abbrev pub answer_at : LinkId → Reply → CallBook → Option AnswerTree
answer_at link reply book = answer_of reply (call_at link book)

-- one of several calls in one is answered so
abbrev pub with_answer : Reply → SeveralRecord → SeveralRecord
with_answer reply s = record s { results = s.results ++ result_of reply ∷ [] }

-- one call is done with; of several one more is answered
abbrev pub gathers : Reply → CallRecord → Option SeveralRecord → Option CallRecord
gathers reply r None = None
gathers reply r (Some s) = Some (record r { several = Some (with_answer reply s); task = None })

-- a call in hand is answered
abbrev pub is_answered : Reply → Option CallRecord → Option CallRecord
is_answered reply None = None
is_answered reply (Some r) = gathers reply r r.several

-- the call of a link is answered
abbrev pub answered : LinkId → Reply → CallBook → CallBook
answered link reply book = changed_at link (is_answered reply) book

-- the value that the answers of several calls in one make
abbrev pub whole : SeveralRecord → Tree
whole s = array (trees_of s.results)

-- no part of them is left, and none is in hand
abbrev pub are_answered : Option SeveralRecord → Option TaskRecord → Bool
are_answered None task = false
are_answered (Some s) (Some task) = false
are_answered (Some s) None = length s.parts == 0

-- it is replied
abbrev pub end_with : Bool → Option SeveralRecord → Option AnswerTree
end_with close None = None
end_with close (Some s) = Some (record { close = close; reply = Returns (whole s) })

-- a call in hand is several calls in one that were all answered
abbrev pub is_over : Option CallRecord → Bool
is_over None = false
is_over (Some r) = are_answered r.several r.task

-- what several calls in one are answered
abbrev pub end_by : Option CallRecord → Option AnswerTree
end_by None = None
end_by (Some r) = end_with r.close r.several

-- once all of them were
abbrev pub end_of : Option CallRecord → Option AnswerTree
end_of call = if is_over call then end_by call else None

-- what several calls in one of a link are answered, where all of them were answered
abbrev pub end_at : LinkId → CallBook → Option AnswerTree
end_at link book = end_of (call_at link book)

-- then they are done with
abbrev pub ends : Option CallRecord → Option CallRecord
ends call = if is_over call then None else call

-- the several calls in one of a link are done with, where all of them were answered
abbrev pub ended : LinkId → CallBook → CallBook
ended link book = changed_at link ends book
