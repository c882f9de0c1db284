-- What a listener says (the manual's chapter on events, "Event Listener Notification Protocol").
use Rattle.std.specs.Prelude.{◌++◌, ℕ, List, codes}
use Rattle.std.specs.List.{flat_map}
use Rattle.sv_listener.specs.declared.handler.Verdict.{Verdict}
use Rattle.sv_listener.specs.declared.handler.Verdict.TheVariants as verdict

-- that it waits for an event
abbrev pub ready : List ℕ
ready = codes "READY\n"

-- the result of an event
abbrev pub result_of : Verdict → List ℕ
result_of verdict.Ok = codes "RESULT 2\nOK"
result_of verdict.Fail = codes "RESULT 4\nFAIL"

-- the result, and that it waits for the next one
abbrev pub answer_of : Verdict → List ℕ
answer_of verdict = result_of verdict ++ ready

-- what it says over all these verdicts
abbrev pub answers : List Verdict → List ℕ
answers verdicts = flat_map answer_of verdicts

-- that it waits, and then the answers
abbrev pub talk_over : List Verdict → List ℕ
talk_over verdicts = ready ++ answers verdicts
