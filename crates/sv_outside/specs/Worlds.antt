-- What goes between the daemon and a world, call by call.
use Rattle.std.specs.Prelude.{◌≡◌, ◌<◌, ◌⊎◌, ◌++◌, ◌∷◌, ◌==◌, ℕ, List, [], Bool, true, false}
use Rattle.std.specs.Prelude.{Option, Result, Ok, Err, option_map}
use Rattle.std.specs.List.{list_any}
use Rattle.std.specs.Option.{ForSome}
use Rattle.sv_out.specs.Faults.{Rose}
use Rattle.sv_out.specs.declared.input.Input.{Input}
use Rattle.sv_out.specs.declared.input.Input.TheVariants as input_is
use Rattle.sv_out.specs.declared.order.Order.{Order}
use Rattle.sv_outside.specs.declared.world.NextFault.{NextFault}
use Rattle.sv_outside.specs.declared.world.NextFault.TheVariants.{Failed, Ended, OutOfMemory}

-- the inputs given, after one more call
abbrev pub given_more : Result Input NextFault → List Input → List Input
given_more (Ok input) inputs = inputs ++ input ∷ []
given_more (Err fault) inputs = inputs

-- the orders handed over, after one more
abbrev pub handed_more : Order → List Order → List Order
handed_more order orders = orders ++ order ∷ []

-- the first input that is left is given, and nothing is taken where none is; the end comes only
-- where none is left
abbrev pub Takes : Option (List Input) → Option (List Input) → Result Input NextFault → Type 0
Takes old new (Ok input) = old ≡ option_map (λ inputs. input ∷ inputs) new
Takes old new (Err Failed) = new ≡ old
Takes old new (Err Ended) = (new ≡ old) × ForSome old (λ inputs. inputs ≡ [])
Takes old new (Err OutOfMemory) = new ≡ old

-- the call failed
abbrev pub IsBroken : Result Input NextFault → Type 0
IsBroken (Ok input) = ⊥
IsBroken (Err Failed) = Unit {0}
IsBroken (Err Ended) = ⊥
IsBroken (Err OutOfMemory) = ⊥

-- an order that is told to have failed is one of those that may, unless it wasn't handed over
abbrev pub WasToFail : (ℕ → Bool) → ℕ → Input → Type 0
WasToFail failed number input = (n : ℕ) → input ≡ input_is.Failed n → n < number → failed n ≡ true

-- an order that may be told to have failed could be so before, or was handed over now and the count
-- of faults rose
abbrev pub MayFail : (ℕ → Bool) → ℕ → ℕ → ℕ → ℕ → Type 0
MayFail failed number faults_before faults_now n =
    (failed n ≡ true) ⊎ ((n ≡ number) × Rose faults_before faults_now)

-- an input that tells that the order of this number failed
abbrev pub tells_failure : ℕ → Input → Bool
tells_failure n (input_is.Failed number) = number == n
tells_failure n input = false

-- some of these inputs tells that the order of this number failed
abbrev pub tell_failure : ℕ → List Input → Bool
tell_failure n inputs = list_any (tells_failure n) inputs
