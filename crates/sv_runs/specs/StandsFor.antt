-- What is kept of the runs: each until it is over.
use Rattle.std.specs.Prelude.{◌≡◌, ℕ, List, Option, Some, None, Bool, true, false, if◌then◌else◌}
use Rattle.std.specs.BTreeMap.{get}
use Rattle.std.specs.Ordering.{nat_cmp}
use Rattle.sv_pipes.specs.Talk.{Mark}
use Rattle.sv_pipes.specs.TalkCut.{talk_tokens}
use Rattle.sv_pipes.specs.TalkPlaces.{StandsFor as TalkStandsFor}
use Rattle.sv_pipes.specs.declared.talk.ListenerTalk.{ListenerTalk}
use Rattle.sv_runs.specs.RunBook.{RunBook, RunRecord, is_listening, is_over, run_of}
use Rattle.sv_runs.specs.declared.open_run.OpenRun.{OpenRun}
use Rattle.sv_runs.specs.declared.runs.Runs.{Runs}

-- a talk is kept of a listener, and of no other run
abbrev pub IsHeard : Option ListenerTalk → List Mark → Bool → Type 0
IsHeard None talk false = Unit {0}
IsHeard (Some value) talk true = TalkStandsFor value talk (talk_tokens talk)
IsHeard other talk is_kept = ⊥

-- what is kept of a run
pub record Keeps (x : OpenRun) (r : RunRecord) : Type 0 where
  pub child : x.child ≡ r.child
  pub pid : x.pid ≡ r.pid
  pub ended : x.ended ≡ r.ended
  pub out_ended : x.out_ended ≡ r.out_ended
  pub err_ended : x.err_ended ≡ r.err_ended
  pub talk : IsHeard x.talk r.talk (is_listening r)

-- a run that isn't over
abbrev pub open_run : Option RunRecord → Option RunRecord
open_run None = None
open_run (Some r) = if is_over r then None else Some r

-- it is kept where it isn't over, and nothing else is
abbrev pub IsKept : Option OpenRun → Option RunRecord → Type 0
IsKept None None = Unit {0}
IsKept (Some x) (Some r) = Keeps x r
IsKept kept run = ⊥

-- these runs are kept
pub record StandsFor (x : Runs) (book : RunBook) : Type 0 where
  pub closed : x.closed.items ≡ book.closed
  pub runs : (number : ℕ) → IsKept (get nat_cmp x.runs number) (open_run (run_of number book))
