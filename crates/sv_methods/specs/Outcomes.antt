-- What comes of a call, as plain data.
use Rattle.std.specs.Prelude.{ℕ, List, [], Bool, true, false, Option, Some, None}
use Rattle.sv_base.specs.declared.ids.ChildId.{ChildId}
use Rattle.sv_info.specs.Faults.{fault_number, fault_text}
use Rattle.sv_info.specs.declared.fault.Fault.{Fault}
use Rattle.sv_logs.specs.declared.spans.Span.{Span}
use Rattle.sv_methods.specs.declared.planned.Planned.{Planned}
use Rattle.sv_methods.specs.declared.planned.Planned.TheVariants as planned
use Rattle.sv_methods.specs.declared.planned.ReadShape.{ReadShape}
use Rattle.sv_methods.specs.declared.planned.Request.{Request}
use Rattle.sv_methods.specs.declared.planned.Waiting.{Waiting}
use Rattle.sv_xmlcall.specs.Trees.{Tree, view}

-- a value, a fault, requests with what ends the wait, or a read of a part of a file
pub data Outcome : Type 0 where
  Gives : Tree → Outcome
  Refuses : (number : ℕ) (content : List ℕ) → Outcome
  Does : List Request → Waiting → Outcome
  Reads : (file : List ℕ) → Span → ReadShape → Outcome

-- what is planned, as plain data
abbrev pub outcome : Planned → Outcome
outcome (planned.Now value) = Gives (view value)
outcome (planned.Fault number content) = Refuses number content
outcome (planned.Do requests waiting) = Does requests waiting
outcome (planned.Read file span shape) = Reads file span shape

-- a fault, with what the call named, if it named something
abbrev pub refuses : Fault → Option (List ℕ) → Outcome
refuses fault subject = Refuses (fault_number fault) (fault_text fault subject)

-- requests after which the answer is `true`
abbrev pub does : List Request → Option (List ℕ) → Outcome
does requests name = Does requests (record { wait = false; array = false; name = name; rows = [] })
