-- What a world and a journal tell before and after some calls, as far as they tell it.
use Rattle.std.specs.Prelude.{◌≡◌, ◌++◌, ℕ, List, [], Option, option_map}
use Rattle.std.specs.Option.{ForSome}
use Rattle.std.specs.Io.KnownBytes.{Appends}
use Rattle.sv_out.specs.declared.input.Input.{Input}
use Rattle.sv_out.specs.declared.order.Order.{Order}

-- the inputs given, those left, the orders handed over, and the bytes of the journal
pub record Told : Type 0 where
  pub given : Option (List Input)
  pub left : Option (List Input)
  pub handed : Option (List Order)
  pub journal : Option (List ℕ)

-- these came after what was told
abbrev pub grown : {A : Type 0} → List A → Option (List A) → Option (List A)
grown more told = option_map (λ before. before ++ more) told

-- these came before what is told now
abbrev pub led : {A : Type 0} → List A → Option (List A) → Option (List A)
led first told = option_map (λ rest. first ++ rest) told

-- these inputs were given, these orders handed over, and these bytes written
pub record Went (old new : Told) (inputs : List Input) (orders : List Order) (text : List ℕ) : Type
    0 where
  pub given : new.given ≡ grown inputs old.given
  pub left : old.left ≡ led inputs new.left
  pub handed : new.handed ≡ grown orders old.handed
  pub written : Appends old.journal new.journal text

-- no input is left
abbrev pub IsUsedUp : Told → Type 0
IsUsedUp told = ForSome told.left (λ inputs. inputs ≡ [])

-- what these tell
abbrev pub told : Option (List Input) → Option (List Input) → Option (List Order) → Option (List ℕ)
    → Told
told given left handed journal =
    record { given = given; left = left; handed = handed; journal = journal }
