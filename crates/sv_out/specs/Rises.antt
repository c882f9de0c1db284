-- When a count of faults rises with another.
use Rattle.std.specs.Prelude.{◌≡◌, ◌<◌, ℕ}
use Rattle.sv_out.specs.Faults.{Rose}

-- the count rises exactly where another count isn't 0
pub record RisesWith (before now count : ℕ) : Type 0 where
  pub rose : 0 < count → Rose before now
  pub same : count ≡ 0 → now ≡ before
