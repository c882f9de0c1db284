-- When a configuration has too much in it.
use Rattle.std.specs.Prelude.{ℕ, ◌<◌, ◌+◌, ◌⊎◌, List, [], ◌∷◌, length}
use Rattle.sv_base.specs.Limits.{group_limit, process_limit}
use Rattle.sv_base.specs.declared.spec.GroupSpec.{GroupSpec}

-- how many processes the groups have together
abbrev pub processes : List GroupSpec → ℕ
processes [] = 0
processes (group ∷ groups) = length group.members + processes groups

-- more than 256 groups, or more than 1,024 processes
abbrev pub AreTooMany : List GroupSpec → Type 0
AreTooMany groups = (group_limit < length groups) ⊎ (process_limit < processes groups)
