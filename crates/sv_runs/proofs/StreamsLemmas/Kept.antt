-- What is kept of a run, from call to call.
use Rattle.std.proofs.Common.{◌≡◌, Option, Some, None, Bool, true, false, if◌then◌else◌, refl}
use Rattle.std.specs.Option.{option_map}
use Rattle.sv_runs.specs.Streams.StandsFor.{IsKept, Keeps}
use Rattle.sv_runs.specs.Streams.StreamBook.{StreamRecord, is_over, open_run}
use Rattle.sv_runs.specs.declared.streams.open_run.OpenRun.{OpenRun}

-- a change leaves a run over that is
abbrev pub LeavesOver : (StreamRecord → StreamRecord) → Type 0
LeavesOver f = (s : StreamRecord) → is_over s ≡ true → is_over (f s) ≡ true

-- what is over, or never began, is not kept after a change either
pub stays_away : (f : StreamRecord → StreamRecord) → LeavesOver f → (o : Option StreamRecord) → IsKept None (open_run o)
    → IsKept None (open_run (option_map f o))
stays_away f leaves None k = k
stays_away f leaves (Some s) k = by_test (is_over s) refl k where
  by_test : (b : Bool) → is_over s ≡ b → IsKept None (if b then None else Some s) → IsKept None (open_run (Some (f s)))
  by_test true e k = rw (leaves s e) tt
  by_test false e k = absurd k

-- a change leaves a run open that is
abbrev pub LeavesOpen : (StreamRecord → StreamRecord) → Type 0
LeavesOpen f = (s : StreamRecord) → is_over (f s) ≡ is_over s

-- what is kept is kept after a change
pub goes_on : (f : StreamRecord → StreamRecord) (o : Option StreamRecord) (x y : OpenRun) → LeavesOpen f → IsKept (Some x) (open_run o)
    → ((s : StreamRecord) → Keeps x s → Keeps y (f s)) → IsKept (Some y) (open_run (option_map f o))
goes_on f None x y stays k keeps = absurd k
goes_on f (Some s) x y stays k keeps = rw (stays s) (by_test (is_over s) k) where
  by_test : (b : Bool) → IsKept (Some x) (if b then None else Some s) → IsKept (Some y) (if b then None else Some (f s))
  by_test true k = absurd k
  by_test false k = keeps s k

-- unless it is over then
pub ends_or_goes_on : (f : StreamRecord → StreamRecord) (o : Option StreamRecord) (x y : OpenRun) (over : Bool) → IsKept (Some x) (open_run o)
    → ((s : StreamRecord) → Keeps x s → Keeps y (f s)) → ((s : StreamRecord) → Keeps y s → over ≡ is_over s)
    → IsKept (if over then None else Some y) (open_run (option_map f o))
ends_or_goes_on f None x y over k keeps is = absurd k
ends_or_goes_on f (Some s) x y over k keeps is = by_test (is_over s) k where
  by_over : (b : Bool) → Keeps y (f s) → IsKept (if b then None else Some y) (if b then None else Some (f s))
  by_over true k = tt
  by_over false k = k

  by_test : (b : Bool) → IsKept (Some x) (if b then None else Some s) → IsKept (if over then None else Some y) (open_run (Some (f s)))
  by_test true k = absurd k
  by_test false k = rw (is (f s) (keeps s k)) (by_over (is_over (f s)) (keeps s k))
