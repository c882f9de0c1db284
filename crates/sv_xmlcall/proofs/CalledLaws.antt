-- What the readers answer is the call, or the reply, that the bytes are.
use Rattle.std.proofs.Common.{◌≡◌, ℕ, List, length, Result, Ok, Err, Some, ap, ◌∙◌, arith}
use Rattle.sv_xmlcall.specs.Called.{call_of, reply_of, called, replied, AnswersCalled, AnswersReplied}
use Rattle.sv_xmlcall.specs.Answers.{ReadsCall, ReadsReply}
use Rattle.sv_xmlcall.specs.Given.{IsWithin}
use Rattle.sv_xmlcall.specs.Machine.{Verdict, Read, NotRead, TooMany, TooDeep, OfCall, OfReply, run, start, the_limits}
use Rattle.sv_xmlcall.specs.Spelled.{ACall, AReply}
use Rattle.sv_xmlcall.specs.SpelledTexts.{SpellsCall, SpellsReply}
use Rattle.sv_xmlcall.specs.Trees.{CallTree, Reply}
use Rattle.sv_xmlcall.specs.declared.call.Call.{Call}
use Rattle.sv_xmlcall.specs.declared.call.Answered.{Answered}
use Rattle.sv_xmlcall.specs.declared.call.CallFault.{CallFault}
use Rattle.sv_xmlcall.specs.declared.call.CallFault.TheVariants as fault
use Rattle.sv_xmlcall.proofs.CallsBack.{call_back, reply_back}
use Rattle.sv_xmlcall.proofs.SpelledLaws.{ways, found_is, spelled_verdict, verdict_within, ample_limits}

-- what a reader of calls answers
pub answers_called : (bytes : List ℕ) (result : Result Call CallFault) → ReadsCall (run the_limits (start OfCall) bytes) (length bytes) result
    → AnswersCalled (called bytes) result
unfolding called
answers_called bytes (Ok call) r = ap call_of r
answers_called bytes (Err (fault.NotACall place)) r = ap call_of r.1.0
answers_called bytes (Err fault.TooManyValues) r = ap call_of r
answers_called bytes (Err fault.TooDeep) r = ap call_of r
answers_called bytes (Err fault.OutOfMemory) r = tt

-- what a reader of replies answers
pub answers_replied : (bytes : List ℕ) (result : Result Answered CallFault) → ReadsReply (run the_limits (start OfReply) bytes) (length bytes) result
    → AnswersReplied (replied bytes) result
unfolding replied
answers_replied bytes (Ok answered) r = ap reply_of r
answers_replied bytes (Err (fault.NotACall place)) r = ap reply_of r.1.0
answers_replied bytes (Err fault.TooManyValues) r = ap reply_of r
answers_replied bytes (Err fault.TooDeep) r = ap reply_of r
answers_replied bytes (Err fault.OutOfMemory) r = tt

call_from : (verdict : Verdict) (call : CallTree) → call_of verdict ≡ Some call → verdict ≡ Read (ACall call)
call_from (Read (ACall given)) call e = let f : given ≡ call = cc e in ap (λ (x : CallTree). Read (ACall x)) f
call_from (Read (AReply reply)) call e = cc e
call_from (NotRead left) call e = cc e
call_from TooMany call e = cc e
call_from TooDeep call e = cc e

-- the call that bytes are is spelled by them, within the limits
pub called_spells : (bytes : List ℕ) (call : CallTree) → called bytes ≡ Some call → SpellsCall bytes call × IsWithin (ACall call)
unfolding called
called_spells bytes call e =
    let verdict = run the_limits (start OfCall) bytes in
    let r = call_from verdict call e in
    let s = call_back the_limits bytes call (omega arith) r in
    (s, (found_is (ACall call) (ACall call) verdict (ways the_limits (ACall call) verdict (spelled_verdict the_limits bytes (ACall call) ample_limits s)) r).1)

-- bytes that spell a call within the limits are that call
pub spells_called : (bytes : List ℕ) (call : CallTree) → SpellsCall bytes call → IsWithin (ACall call) → called bytes ≡ Some call
unfolding called
spells_called bytes call s i = ap call_of (spelled_verdict the_limits bytes (ACall call) ample_limits s ∙ verdict_within the_limits (ACall call) i.0 i.1)

reply_from : (verdict : Verdict) (reply : Reply) → reply_of verdict ≡ Some reply → verdict ≡ Read (AReply reply)
reply_from (Read (AReply given)) reply e = let f : given ≡ reply = cc e in ap (λ (x : Reply). Read (AReply x)) f
reply_from (Read (ACall call)) reply e = cc e
reply_from (NotRead left) reply e = cc e
reply_from TooMany reply e = cc e
reply_from TooDeep reply e = cc e

-- the reply that bytes are is spelled by them, within the limits
pub replied_spells : (bytes : List ℕ) (reply : Reply) → replied bytes ≡ Some reply → SpellsReply bytes reply × IsWithin (AReply reply)
unfolding replied
replied_spells bytes reply e =
    let verdict = run the_limits (start OfReply) bytes in
    let r = reply_from verdict reply e in
    let s = reply_back the_limits bytes reply (omega arith) r in
    (s, (found_is (AReply reply) (AReply reply) verdict (ways the_limits (AReply reply) verdict (spelled_verdict the_limits bytes (AReply reply) ample_limits s)) r).1)

-- bytes that spell a reply within the limits are that reply
pub spells_replied : (bytes : List ℕ) (reply : Reply) → SpellsReply bytes reply → IsWithin (AReply reply) → replied bytes ≡ Some reply
unfolding replied
spells_replied bytes reply s i = ap reply_of (spelled_verdict the_limits bytes (AReply reply) ample_limits s ∙ verdict_within the_limits (AReply reply) i.0 i.1)
