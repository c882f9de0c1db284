-- What is kept of a run, from call to call.
use Rattle.std.proofs.Common.{◌≡◌, Option, Some, None, Bool, true, false, if◌then◌else◌, refl}
use Rattle.std.specs.Option.{option_map}
use Rattle.sv_runs.specs.RunBook.{RunRecord, is_over}
use Rattle.sv_runs.specs.StandsFor.{IsKept, Keeps, open_run}
use Rattle.sv_runs.specs.declared.open_run.OpenRun.{OpenRun}

-- a change leaves a run over that is
abbrev pub LeavesOver : (RunRecord → RunRecord) → Type 0
LeavesOver f = (r : RunRecord) → is_over r ≡ true → is_over (f r) ≡ true

-- what is over, or never began, is not kept after a change either
pub stays_away : (f : RunRecord → RunRecord) → LeavesOver f → (o : Option RunRecord) → IsKept None (open_run o)
    → IsKept None (open_run (option_map f o))
stays_away f leaves None k = k
stays_away f leaves (Some r) k = by_test (is_over r) refl k where
  by_test : (b : Bool) → is_over r ≡ b → IsKept None (if b then None else Some r) → IsKept None (open_run (Some (f r)))
  by_test true e k = rw (leaves r e) tt
  by_test false e k = absurd k

-- a change leaves a run open that is
abbrev pub LeavesOpen : (RunRecord → RunRecord) → Type 0
LeavesOpen f = (r : RunRecord) → is_over (f r) ≡ is_over r

-- what is kept is kept after a change
pub goes_on : (f : RunRecord → RunRecord) (o : Option RunRecord) (x y : OpenRun) → LeavesOpen f → IsKept (Some x) (open_run o)
    → ((r : RunRecord) → Keeps x r → Keeps y (f r)) → IsKept (Some y) (open_run (option_map f o))
goes_on f None x y stays k keeps = absurd k
goes_on f (Some r) x y stays k keeps = rw (stays r) (by_test (is_over r) k) where
  by_test : (b : Bool) → IsKept (Some x) (if b then None else Some r) → IsKept (Some y) (if b then None else Some (f r))
  by_test true k = absurd k
  by_test false k = keeps r k

-- unless it is over then
pub ends_or_goes_on : (f : RunRecord → RunRecord) (o : Option RunRecord) (x y : OpenRun) (over : Bool) → IsKept (Some x) (open_run o)
    → ((r : RunRecord) → Keeps x r → Keeps y (f r)) → ((r : RunRecord) → Keeps y r → over ≡ is_over r)
    → IsKept (if over then None else Some y) (open_run (option_map f o))
ends_or_goes_on f None x y over k keeps is = absurd k
ends_or_goes_on f (Some r) x y over k keeps is = by_test (is_over r) k where
  by_over : (b : Bool) → Keeps y (f r) → IsKept (if b then None else Some y) (if b then None else Some (f r))
  by_over true k = tt
  by_over false k = k

  by_test : (b : Bool) → IsKept (Some x) (if b then None else Some r) → IsKept (if over then None else Some y) (open_run (Some (f r)))
  by_test true k = absurd k
  by_test false k = rw (is (f r) (keeps r k)) (by_over (is_over (f r)) (keeps r k))
