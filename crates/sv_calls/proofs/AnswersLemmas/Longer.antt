-- Params that are more than one are no parts.
use Rattle.std.proofs.Common.{arith, ◌≡◌, ◌≤◌, List, [], ◌∷◌, length, None, refl}
use Rattle.sv_calls.specs.Answers.Served.{parts_in}
use Rattle.sv_xmlcall.specs.Trees.{trees_view}
use Rattle.sv_xmlcall.specs.declared.value.Value.{Value}

pub longer : (params : List Value) → 2 ≤ length params → parts_in (trees_view params) ≡ None
longer [] many = absurd (omega arith)
longer (first ∷ []) many = absurd (omega arith)
longer (first ∷ second ∷ params) many = refl
