-- What is kept of the calls in hand, as plain data.
use Rattle.std.specs.Prelude.{◌≡◌, ℕ, List, [], Option, Some, None}
use Rattle.std.specs.BTreeMap.{get}
use Rattle.std.specs.Option.{option_map}
use Rattle.std.specs.Ordering.{nat_cmp}
use Rattle.sv_calls.specs.CallBook.{AnswerTree, CallBook, CallRecord, SeveralRecord, TaskRecord}
use Rattle.sv_calls.specs.declared.answer.Answer.{Answer}
use Rattle.sv_calls.specs.declared.call_in_hand.CallInHand.{CallInHand}
use Rattle.sv_calls.specs.declared.calls.Calls.{Calls}
use Rattle.sv_calls.specs.declared.several.Several.{Several}
use Rattle.sv_calls.specs.declared.task.Task.{Task}
use Rattle.sv_multi.specs.Gathered.{results_of}
use Rattle.sv_multi.specs.Views.{parts_view}
use Rattle.sv_xmlcall.specs.Trees.{Tree, reply_view}

-- what was gathered; once memory was refused nothing is known of it
abbrev pub so_far : Option (List Tree) → List Tree
so_far None = []
so_far (Some results) = results

-- several calls in one
abbrev pub several_view : Several → SeveralRecord
several_view x = record { results = so_far (results_of x.gather); parts = parts_view x.parts.items }

-- what is left to do
abbrev pub task_view : Task → TaskRecord
task_view x = record { requests = x.requests.items; waiting = x.waiting }

-- a call in hand
abbrev pub call_view : CallInHand → CallRecord
call_view x = record {
  close = x.close;
  several = option_map several_view x.several;
  task = option_map task_view x.task;
}

-- an answer
abbrev pub answer_view : Answer → AnswerTree
answer_view x = record { close = x.close; reply = reply_view x.answered }

-- of each link its call in hand is kept, and no other
abbrev pub StandsFor : Calls → CallBook → Type 0
StandsFor x book = (number : ℕ) → option_map call_view (get nat_cmp x.calls number) ≡ book number
