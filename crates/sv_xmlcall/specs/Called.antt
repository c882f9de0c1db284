-- The call and the reply that a text is, as functions of its bytes: what reading it byte by byte,
-- within the limits of nesting and of values, comes to.
use Rattle.std.specs.Prelude.{◌≡◌, ℕ, List, Option, Some, None, Result, Ok, Err}
use Rattle.sv_xmlcall.specs.Trees.{CallTree, Reply, call_view, reply_view}
use Rattle.sv_xmlcall.specs.Spelled.{ACall, AReply}
use Rattle.sv_xmlcall.specs.Machine.{Verdict, Read, OfCall, OfReply, run, start, the_limits}
use Rattle.sv_xmlcall.specs.declared.call.Call.{Call}
use Rattle.sv_xmlcall.specs.declared.call.Answered.{Answered}
use Rattle.sv_xmlcall.specs.declared.call.CallFault.{CallFault}
use Rattle.sv_xmlcall.specs.declared.call.CallFault.TheVariants as fault

-- the call that is read, or none
abbrev pub call_of : Verdict → Option CallTree
call_of (Read (ACall call)) = Some call
call_of verdict = None

-- the reply that is read, or none
abbrev pub reply_of : Verdict → Option Reply
reply_of (Read (AReply reply)) = Some reply
reply_of verdict = None

-- the call that these bytes are: none where they spell no call, or one whose values stand deeper
-- than 32 or are more than 65,536
unfoldable pub called : List ℕ → Option CallTree
called bytes = call_of (run the_limits (start OfCall) bytes)

-- the reply that these bytes are, or none
unfoldable pub replied : List ℕ → Option Reply
replied bytes = reply_of (run the_limits (start OfReply) bytes)

-- a reader's answer: the call that the bytes are, or a fault where they are none; running out of
-- memory is always allowed
abbrev pub AnswersCalled : Option CallTree → Result Call CallFault → Type 0
AnswersCalled is (Ok call) = is ≡ Some (call_view call)
AnswersCalled is (Err fault.OutOfMemory) = Unit {0}
AnswersCalled is (Err fault) = is ≡ None

-- the same of a reply
abbrev pub AnswersReplied : Option Reply → Result Answered CallFault → Type 0
AnswersReplied is (Ok answered) = is ≡ Some (reply_view answered)
AnswersReplied is (Err fault.OutOfMemory) = Unit {0}
AnswersReplied is (Err fault) = is ≡ None
