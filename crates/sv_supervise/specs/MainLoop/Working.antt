-- How one input is worked off.
use Rattle.std.specs.Prelude.{◌≡◌, ◌⊎◌, ◌++◌, ℕ, List, [], Bool, true, false, Option, Result, Ok}
use Rattle.std.specs.Prelude.{Err}
use Rattle.std.specs.Io.KnownBytes.{Appends}
use Rattle.sv_out.specs.declared.input.Input.{Input}
use Rattle.sv_out.specs.declared.order.Order.{Order}
use Rattle.sv_supervise.specs.MainLoop.Course.{Begins}
use Rattle.sv_supervise.specs.MainLoop.Rules.{Rules}
use Rattle.sv_supervise.specs.MainLoop.Journal.{Texts, entry}
use Rattle.sv_supervise.specs.MainLoop.Telling.{Told, grown}
use Rattle.sv_supervise.specs.declared.main_loop.serving.End.{End}
use Rattle.sv_supervise.specs.declared.main_loop.serving.End.TheVariants.{Halted, NoMemory, Broken, Ended, Full}
use Rattle.sv_supervise.specs.declared.main_loop.serving.End.TheVariants.{Unwritten, Misplaced}

-- some of the orders were handed over, in their order from the first on
pub record HandsFront (old new : Option (List Order)) (given : List Order) : Type 0 where
  pub front : List Order
  pub begins : Begins front given
  pub handed : new ≡ grown front old

-- no input was given; these orders were handed over, and these bytes written
pub record Worked (old new : Told) (orders : List Order) (text : List ℕ) : Type 0 where
  pub given : new.given ≡ old.given
  pub left : new.left ≡ old.left
  pub handed : new.handed ≡ grown orders old.handed
  pub written : Appends old.journal new.journal text

-- the same of some of the orders and bytes; no order before all bytes
pub record WorkedPartly {M : Type 0} (R : Rules M) (texts : Texts) (m : M) (input : Input)
    (old new : Told) (handed : List Order) : Type 0 where
  pub text : List ℕ
  pub orders_begin : Begins handed (R.orders m input)
  pub text_begins : Begins text (entry texts input (R.orders m input))
  pub text_first : (handed ≡ []) ⊎ (text ≡ entry texts input (R.orders m input))
  pub worked : Worked old new handed text

-- an accepted input was worked off so
abbrev pub WorksOff : {M : Type 0} → Rules M → Texts → M → (M → Type 0) → Input → Told → Told
    → Result (Unit {0}) End → Type 0
WorksOff R texts m stands input old new (Ok done) =
    Worked old new (R.orders m input) (entry texts input (R.orders m input))
    × stands (R.next m input) × (R.halted (R.next m input) ≡ false)
WorksOff R texts m stands input old new (Err Halted) =
    Worked old new (R.orders m input) (entry texts input (R.orders m input))
    × (R.halted (R.next m input) ≡ true)
WorksOff R texts m stands input old new (Err NoMemory) =
    (handed : List Order) × WorkedPartly R texts m input old new handed
WorksOff R texts m stands input old new (Err Unwritten) = WorkedPartly R texts m input old new []
WorksOff R texts m stands input old new (Err Broken) = ⊥
WorksOff R texts m stands input old new (Err Ended) = ⊥
WorksOff R texts m stands input old new (Err Full) = ⊥
WorksOff R texts m stands input old new (Err (Misplaced number)) = ⊥
