-- What a list in memory was made with, and what became of its calls.
use Rattle.std.specs.Prelude.{◌≡◌, ℕ, ◌-◌, ◌==◌, List, Bool, true, IsTrue, Option, Some, drop}
use Rattle.std.specs.Prelude.{vec_len, vec_capacity, if◌then◌else◌}
use Rattle.std.specs.List.{list_any}
use Rattle.sv_out.specs.Faults.{counted}
use Rattle.sv_out.specs.declared.calls.Calls.{Calls}
use Rattle.sv_out.specs.declared.map_files.MapShelf.{MapShelf}
use Rattle.sv_out.specs.declared.script.Script.{Script}
use Rattle.sv_out.specs.declared.script.ScriptDial.{ScriptDial}
use Rattle.sv_out.specs.declared.script.ScriptLink.{ScriptLink}
use Rattle.sv_out.specs.declared.sink.ListSink.{ListSink}
use Rattle.sv_out.specs.declared.source.ListSource.{ListSource}

-- the numbers of the calls that are to fail, the first call being 1, and the most bytes of a call;
-- how many calls were made so far, and how many of them failed
pub record Plan : Type 0 where
  pub failing : List ℕ
  pub most : ℕ
  pub calls : ℕ
  pub faults : ℕ

-- whether the next call is to fail
abbrev pub fails_next : Plan → Bool
fails_next plan = list_any (λ call. call == counted plan.calls) plan.failing

-- after a call that failed, or one that went well
abbrev pub after_call : Plan → Bool → Plan
after_call plan failed = record plan {
  calls = counted plan.calls;
  faults = if failed then counted plan.faults else plan.faults;
}

-- that of a source
abbrev pub source_plan : ListSource → Plan
source_plan source = record {
  failing = source.failing.items;
  most = source.most;
  calls = source.calls;
  faults = source.faults;
}

-- that of a sink
abbrev pub sink_plan : ListSink → Plan
sink_plan sink = record {
  failing = sink.failing.items;
  most = sink.most;
  calls = sink.calls;
  faults = sink.faults;
}

-- the bytes that a source has left
abbrev pub bytes_left : ListSource → List ℕ
bytes_left source = drop source.at source.bytes.items

-- the bytes that a sink took
abbrev pub bytes_written : ListSink → List ℕ
bytes_written sink = sink.written.items

-- as the traits tell them
abbrev pub known_left : ListSource → Option (List ℕ)
known_left source = Some (bytes_left source)

-- and what a sink took, likewise
abbrev pub known_written : ListSink → Option (List ℕ)
known_written sink = Some (bytes_written sink)

-- how many calls failed
abbrev pub source_faults : ListSource → ℕ
source_faults source = source.faults

-- how many calls of a sink failed
abbrev pub sink_faults : ListSink → ℕ
sink_faults sink = sink.faults

-- for so many bytes more a sink needs no memory
abbrev pub spare_room : ListSink → ℕ
spare_room sink = vec_capacity sink.written - vec_len sink.written

-- the same of an object whose calls have no greatest number of bytes
pub record CallPlan : Type 0 where
  pub failing : List ℕ
  pub calls : ℕ
  pub faults : ℕ

-- whether the next call is to fail
abbrev pub is_to_fail : CallPlan → Bool
is_to_fail plan = list_any (λ call. call == counted plan.calls) plan.failing

-- after a call that failed, or one that went well
abbrev pub called : CallPlan → Bool → CallPlan
called plan failed = record plan {
  calls = counted plan.calls;
  faults = if failed then counted plan.faults else plan.faults;
}

-- a call is counted, and fails exactly where it was to
pub record GoesAsPlanned (before after : CallPlan) (failed : Type 0) : Type 0 where
  pub plan : after ≡ called before (is_to_fail before)
  pub fails : IsTrue (is_to_fail before) → failed
  pub only : failed → is_to_fail before ≡ true

-- no call was made yet
abbrev pub none_made : List ℕ → CallPlan
none_made failing = record { failing = failing; calls = 0; faults = 0 }

-- which calls are to fail, and how many were made
abbrev pub call_plan : Calls → CallPlan
call_plan calls =
    record { failing = calls.failing.items; calls = calls.calls; faults = calls.faults }

-- that of a shelf
abbrev pub shelf_plan : MapShelf → CallPlan
shelf_plan shelf = call_plan shelf.calls

-- the calls of a connection that are to fail
abbrev pub script_failing : Script → List ℕ
script_failing script = script.failing.items

-- that of a connection
abbrev pub link_plan : ScriptLink → CallPlan
link_plan link = call_plan link.calls

-- that of a dial
abbrev pub dial_plan : ScriptDial → CallPlan
dial_plan dial = call_plan dial.calls
