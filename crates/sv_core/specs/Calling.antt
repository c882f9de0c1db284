-- The calls of the links (the manual's chapter on its XML-RPC interface): a call is answered at
-- once, once a part of a log was read, or once its requests are carried out and its wait has ended.
-- Several calls in one are begun one after the other, each once the one before is answered.
use Rattle.std.specs.Prelude.{ℕ, zero, suc, pos, List, length, Option, Some, None, Bool, true}
use Rattle.std.specs.Prelude.{false, if◌then◌else◌}
use Rattle.sv_calls.specs.Answers.Served.{Request as Heard, Refuses as Refused, Calls as Asks, is_several}
use Rattle.sv_calls.specs.Answers.Served.{no_parts, parts_in, reads_back, said, subject_of}
use Rattle.sv_calls.specs.declared.answers.read.FileReply.{FileReply}
use Rattle.sv_calls.specs.declared.answers.read.FileReply.TheVariants as file
use Rattle.sv_calls.specs.declared.answers.read.LogRead.{LogRead}
use Rattle.sv_calls.specs.declared.answers.sent.Sent.{Sent}
use Rattle.sv_base.specs.declared.ids.LinkId.{LinkId}
use Rattle.sv_calls.specs.CallBook.{AnswerTree, acting, answer_at, answered, begun, end_at, ended}
use Rattle.sv_calls.specs.CallBook.{new_call, new_several, part_at, part_taken, parts_left}
use Rattle.sv_calls.specs.CallBook.{waiting_at}
use Rattle.sv_core.specs.Requests.{does_all}
use Rattle.sv_core.specs.Sweeps.{Turn}
use Rattle.sv_core.specs.Sweeps.Turn.{Ask}
use Rattle.sv_core.specs.World.{World, gives}
use Rattle.sv_core.specs.declared.part.Question.TheVariants as question
use Rattle.sv_core.specs.declared.part.Reply.{Reply as Outcome}
use Rattle.sv_core.specs.declared.part.Reply.TheVariants as reply_is
use Rattle.sv_links.specs.LinkBook.{answered as replied_to, is_sent}
use Rattle.sv_methods.specs.MethodTable.{planned}
use Rattle.sv_methods.specs.Outcomes as planned_is
use Rattle.sv_methods.specs.Scenes.{Scene}
use Rattle.sv_calls.specs.Waits.{checked}
use Rattle.sv_methods.specs.declared.planned.Request.{Request}
use Rattle.sv_methods.specs.declared.planned.Waiting.{Waiting}
use Rattle.sv_multi.specs.Views.{PartTree, Calls, Refuses}
use Rattle.sv_out.specs.declared.order.Order.TheVariants as order
use Rattle.sv_xmlcall.specs.Trees.{CallTree, Reply, Returns, Faults}

-- what a method may look at
abbrev pub scene_of : World → Scene
scene_of w = record {
  mood = w.course.mood;
  pid = w.pid;
  config = w.config;
  roster = w.children.roster;
  children = w.children.all;
  closed = w.runs.closed;
  sizes = w.sizes;
}

-- ---- replies

-- after a reply that closes its link stands the Close
abbrev pub closes_behind : Bool → LinkId → World → World
closes_behind true link w = gives (order.Close link) w
closes_behind false link w = w

-- a reply is sent
abbrev pub sends_reply : LinkId → Sent → World → World
sends_reply link sent w = closes_behind sent.closes link (gives (order.Send link sent.text) w)

-- the request in hand of a link is answered; of a link that is over the answer is forgotten
abbrev pub replies : LinkId → Sent → World → World
replies link sent w =
    let after = record w { links = replied_to link sent.closes w.links } in
    if is_sent link w.links then sends_reply link sent after else after

-- what a call is answered, where that is its reply
abbrev pub replies_if : LinkId → Option AnswerTree → World → World
replies_if link None w = w
replies_if link (Some answer) w = replies link (said answer.close answer.reply) w

-- the call of a link is answered; of several calls in one the answers are gathered first
abbrev pub answers_call : LinkId → Reply → World → World
answers_call link reply w =
    replies_if link (answer_at link reply w.calls)
    (record w { calls = answered link reply w.calls })

-- several calls in one are answered, once all of them were
abbrev pub ends_call : LinkId → World → World
ends_call link w = replies_if link (end_at link w.calls) (record w { calls = ended link w.calls })

-- ---- waits

-- its wait has ended with this answer, or goes on
abbrev pub answers_if : LinkId → Option Reply → World → World
answers_if link None w = w
answers_if link (Some reply) w = answers_call link reply w

-- what ends the wait for this now; none while it goes on
abbrev pub ending_of : Option Waiting → World → Option Reply
ending_of None w = None
ending_of (Some waiting) w = checked (scene_of w) waiting

-- the wait of the call of a link, if it waits
abbrev pub end_of_wait : LinkId → World → Option Reply
end_of_wait link w = ending_of (waiting_at link w.calls) w

-- it is looked at
abbrev pub checks_wait : LinkId → World → World
checks_wait link w = answers_if link (end_of_wait link w) w

-- ---- one call

-- what became of a read
abbrev pub file_reply : Outcome → FileReply
file_reply (reply_is.Read bytes) = file.Part bytes
file_reply reply_is.Missing = file.Missing
file_reply reply = file.Failed

-- a part of a log was read for the call of a link
abbrev pub read_answered : LinkId → LogRead → Outcome → World → World
read_answered link reading reply w = answers_call link (reads_back reading (file_reply reply)) w

-- it was asked for
unfoldable pub asks_read : LinkId → LogRead → World → (World → Turn) → Turn
asks_read link reading w k =
    Ask w (question.Read reading.span.length) (λ v reply. k (read_answered link reading reply v))

-- a part of a log is to be read
abbrev pub reads : LinkId → LogRead → World → (World → Turn) → Turn
reads link reading w k =
    asks_read link reading
    (gives (order.ReadFile reading.file reading.span.start reading.span.length) w) k

-- so many requests of the call of a link are carried out, and then its wait is looked at
abbrev pub acts_left : ℕ → LinkId → World → (World → Turn) → Turn
acts_left left link w k = does_all left link w (λ v. k (checks_wait link v))

-- these requests are carried out for the call of a link, and it waits for this
abbrev pub acts_for : LinkId → List Request → Waiting → World → (World → Turn) → Turn
acts_for link requests waiting w k =
    acts_left (length requests) link (record w { calls = acting link requests waiting w.calls }) k

-- a call of a link is answered, or what it is planned to do is done
abbrev pub comes_of : LinkId → Option (List ℕ) → planned_is.Outcome → World → (World → Turn) → Turn
comes_of link subject (planned_is.Gives value) w k = k (answers_call link (Returns value) w)
comes_of link subject (planned_is.Refuses number content) w k =
    k (answers_call link (Faults (pos number) content) w)
comes_of link subject (planned_is.Does requests waiting) w k = acts_for link requests waiting w k
comes_of link subject (planned_is.Reads file span shape) w k =
    reads link (record { file = file; span = span; shape = shape; subject = subject }) w k

-- by the table of methods
abbrev pub calls : LinkId → CallTree → World → (World → Turn) → Turn
calls link call w k =
    comes_of link (subject_of call.params) (planned (scene_of w) call w.moment) w k

-- ---- several calls in one

-- a part is a call, or stands for a fault
abbrev pub begins_part : LinkId → PartTree → World → (World → Turn) → Turn
begins_part link (Calls call) w k = calls link call w k
begins_part link (Refuses number content) w k =
    k (answers_call link (Faults (pos number) content) w)

-- if there is one
abbrev pub begins_part_if : LinkId → Option PartTree → World → (World → Turn) → Turn
begins_part_if link None w k = k w
begins_part_if link (Some part) w k = begins_part link part w k

-- the next part of the call of a link is begun, if the one before is answered
abbrev pub calls_next : LinkId → World → (World → Turn) → Turn
calls_next link w k =
    begins_part_if link (part_at link w.calls) (record w { calls = part_taken link w.calls }) k

-- so many of them
abbrev pub calls_all : ℕ → LinkId → World → (World → Turn) → Turn
calls_all zero link w k = k w
calls_all (suc left) link w k = calls_next link w (λ v. calls_all left link v k)

-- and then all of them are answered, if they were
abbrev pub calls_left : ℕ → LinkId → World → (World → Turn) → Turn
calls_left left link w k = calls_all left link w (λ v. k (ends_call link v))

-- the parts of the call of a link that aren't begun
abbrev pub calls_parts : LinkId → World → (World → Turn) → Turn
calls_parts link w k = calls_left (parts_left link w.calls) link w k

-- ---- the call of a link

-- its wait is looked at, and then it goes on
abbrev pub goes_on : LinkId → World → (World → Turn) → Turn
goes_on link w k = calls_parts link (checks_wait link w) k

-- one call is begun; nothing is left of it after its answer
abbrev pub begins_one : LinkId → Bool → CallTree → World → (World → Turn) → Turn
begins_one link close call w k =
    calls link call (record w { calls = begun link (new_call close) w.calls })
    (λ v. calls_left zero link v k)

-- several calls in one are begun; without parts they are answered by a fault
abbrev pub begins_several : LinkId → Bool → Option (List PartTree) → World → (World → Turn) → Turn
begins_several link close None w k = k (replies link (said close no_parts) w)
begins_several link close (Some parts) w k =
    calls_parts link (record w { calls = begun link (new_several close parts) w.calls }) k

-- a call is begun
abbrev pub begins_call : LinkId → Bool → CallTree → World → (World → Turn) → Turn
begins_call link close call w k =
    if is_several call then begins_several link close (parts_in call.params) w k
    else begins_one link close call w k

-- a request is refused, or its call is begun
abbrev pub takes_up : LinkId → Heard → World → (World → Turn) → Turn
takes_up link (Refused sent) w k = k (replies link sent w)
takes_up link (Asks call close) w k = begins_call link close call w k
