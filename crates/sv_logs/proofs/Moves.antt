-- The orders of a rotation, one more.
use Rattle.std.proofs.Common.{◌≡◌, ℕ, zero, suc, ◌-◌, ◌<◌, ◌++◌, ◌∷◌, List, [], refl, sym, ap, ◌∙◌, append_assoc, arith}
use Rattle.sv_base.specs.declared.config.FileOrder.{FileOrder}
use Rattle.sv_base.specs.declared.config.FileOrder.TheVariants.{Shift}
use Rattle.sv_logs.specs.Rotation.{kept, moves}

pub moves_step : (file : List ℕ) (number : ℕ) → 0 < number
    → moves file number ≡ Shift (kept file (number - 1)) (kept file number) ∷ moves file (number - 1)
moves_step file zero h = absurd (omega arith)
moves_step file (suc number) h = let e : suc number - 1 ≡ number = omega arith in rw e refl

-- the orders told so far and those to come stay the same, as one move is told
pub one_move : (file : List ℕ) (number : ℕ) (told after whole : List FileOrder) (from to : List ℕ) → 0 < number
    → after ≡ told ++ Shift from to ∷ [] → from ≡ kept file (number - 1) → to ≡ kept file number
    → told ++ moves file number ≡ whole → after ++ moves file (number - 1) ≡ whole
one_move file number told after whole from to some is_after is_from is_to e =
    let step = moves_step file number some in
    rw (is_after, is_from, is_to, append_assoc) (ap (λ (orders : List FileOrder). told ++ orders) (sym step) ∙ e)
