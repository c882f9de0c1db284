-- A journal whose order numbers begin again.
use Rattle.std.proofs.Common.{◌≡◌, List, [], ◌∷◌, ◌++◌, length, drop, append_assoc, refl, ◌∙◌, ap}
use Rattle.std.proofs.Math.Seq.{drop-append_seam}
use Rattle.sv_core.specs.Sweeps.{asks}
use Rattle.sv_core_laws.specs.WorkedJournals.{OrderNumbersBeginAgain, Rest}
use Rattle.sv_out.specs.declared.order.Order.{Order}

-- two orders after these
two_behind : (older : List Order) (a b : Order) → drop (length older) ((older ++ a ∷ []) ++ b ∷ []) ≡ a ∷ b ∷ []
two_behind older a b =
    ap (drop (length older)) (append_assoc older (a ∷ []) (b ∷ [])) ∙ drop-append_seam older (a ∷ b ∷ [])

-- and one after these
one_behind : (given : List Order) (a : Order) → drop (length given) (given ++ a ∷ []) ≡ a ∷ []
one_behind given a = drop-append_seam given (a ∷ [])

pub begin_again : (rest : Rest) → OrderNumbersBeginAgain rest
unfolding asks
begin_again rest older many = rw (two_behind older, many, one_behind) refl
