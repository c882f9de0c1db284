-- Folds over a list, one element further.
use Rattle.std.proofs.Common.{◌≡◌, List, [], ◌∷◌, ◌++◌, refl}
use Rattle.sv_conf.specs.Crowds.{with_counted, with_counts}
use Rattle.sv_conf.specs.declared.counted.Counted.{Counted}
use Rattle.sv_conf.specs.declared.crowd.Crowd.{Crowd}

pub counts_more : (crowd : Crowd) (counts : List Counted) (counted : Counted) → with_counts crowd (counts ++ counted ∷ []) ≡ with_counted (with_counts crowd counts) counted
counts_more crowd [] counted = refl
counts_more crowd (first ∷ counts) counted = counts_more (with_counted crowd first) counts counted
