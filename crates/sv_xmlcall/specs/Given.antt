-- What the readers give for a text that spells something.
use Rattle.std.specs.Prelude.{◌≡◌, ◌≤◌, ◌<◌, ℕ, List, Result, Ok, Err}
use Rattle.sv_xmlcall.specs.Trees.{CallTree, Reply, Returns, Faults, call_view, reply_view}
use Rattle.sv_xmlcall.specs.Sizes.{nested, nested_values, size, size_of_values}
use Rattle.sv_xmlcall.specs.Spelled.{Spelled, ACall, AReply}
use Rattle.sv_xmlcall.specs.SpelledTexts.{SpellsCall, SpellsReply}
use Rattle.sv_xmlcall.specs.declared.call.Call.{Call}
use Rattle.sv_xmlcall.specs.declared.call.Answered.{Answered}
use Rattle.sv_xmlcall.specs.declared.call.CallFault.{CallFault}
use Rattle.sv_xmlcall.specs.declared.call.CallFault.TheVariants as fault

-- how deep the values of what is spelled stand
abbrev pub depth : Spelled → ℕ
depth (ACall call) = nested_values call.params
depth (AReply (Returns value)) = nested value
depth (AReply (Faults number content)) = 2

-- how many values there are in what is spelled
abbrev pub amount : Spelled → ℕ
amount (ACall call) = size_of_values call.params
amount (AReply (Returns value)) = size value
amount (AReply (Faults number content)) = 3

-- the fault that is given for a text that spells this
abbrev pub Refuses : Spelled → CallFault → Type 0
Refuses spelled fault.TooDeep = 32 < depth spelled
Refuses spelled fault.TooManyValues = (depth spelled ≤ 32) × (65536 < amount spelled)
Refuses spelled (fault.NotACall place) = ⊥
Refuses spelled fault.OutOfMemory = Unit {0}

-- within the limits
abbrev pub IsWithin : Spelled → Type 0
IsWithin spelled = (depth spelled ≤ 32) × (amount spelled ≤ 65536)

-- the answer for a text that spells this call
abbrev pub GivesCall : CallTree → Result Call CallFault → Type 0
GivesCall spelled (Ok call) = (call_view call ≡ spelled) × IsWithin (ACall spelled)
GivesCall spelled (Err fault) = Refuses (ACall spelled) fault

-- the answer for a text that spells this reply
abbrev pub GivesReply : Reply → Result Answered CallFault → Type 0
GivesReply spelled (Ok answered) = (reply_view answered ≡ spelled) × IsWithin (AReply spelled)
GivesReply spelled (Err fault) = Refuses (AReply spelled) fault

-- the one answer for bytes that spell something
abbrev pub OnlyCall : List ℕ → Result Call CallFault → Type 0
OnlyCall bytes result = (spelled : CallTree) → SpellsCall bytes spelled → GivesCall spelled result

-- the one answer for bytes that spell a reply
abbrev pub OnlyReply : List ℕ → Result Answered CallFault → Type 0
OnlyReply bytes result = (spelled : Reply) → SpellsReply bytes spelled → GivesReply spelled result

-- what was written is given back, unless there is no memory
abbrev pub IsBackCall : CallTree → Result Call CallFault → Type 0
IsBackCall written (Ok call) = call_view call ≡ written
IsBackCall written (Err why) = why ≡ fault.OutOfMemory

-- a reply that was written is given back, unless there is no memory
abbrev pub IsBackReply : Reply → Result Answered CallFault → Type 0
IsBackReply written (Ok answered) = reply_view answered ≡ written
IsBackReply written (Err why) = why ≡ fault.OutOfMemory
