-- What takes no more has nothing after it.
use Rattle.std.proofs.Common.{◌≡◌, ◌≤◌, List, [], ◌∷◌, length, refl, arith}
use Rattle.std.specs.Prelude.{Option, None}
use Rattle.sv_methods.specs.Params.{ended}
use Rattle.sv_xmlcall.specs.Trees.{trees_view}
use Rattle.sv_xmlcall.specs.declared.value.Value.{Value}

pub ended_more : {A : Type 0} (value : A) (rest : List Value) → 1 ≤ length rest → ended value (trees_view rest) ≡ None
ended_more value [] few = absurd (omega (arith, few))
ended_more value (first ∷ rest) few = refl
