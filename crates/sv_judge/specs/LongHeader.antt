-- The long header of a journal: the host, its environment by rising names, the known sizes of log
-- files by rising names, the text of the configuration with those that it includes, and the start.
use Rattle.std.specs.Prelude.{ℕ, List, [], ◌∷◌, ◌++◌, Bool, true}
use Rattle.std.specs.Cmp.Lexicographic.{slice_cmp}
use Rattle.std.specs.Ordering.{nat_cmp, is_lt}
use Rattle.sv_base.specs.declared.config.Host.{Host}

-- the name stands after that of the last entry, if there is one
abbrev pub is_behind : {A : Type 0} → List ℕ → List (List ℕ × A) → Bool
is_behind name [] = true
is_behind name (entry ∷ []) = is_lt (slice_cmp nat_cmp entry.0 name)
is_behind name (entry ∷ (next ∷ more)) = is_behind name (next ∷ more)

-- a host whose environment isn't told yet
abbrev pub host_of : List ℕ → List ℕ → ℕ → Host
host_of name here pid = record { name = name; here = here; pid = pid; environment = []; start = 0 }

-- one more variable of the environment
abbrev pub with_variable : Host → List ℕ → List ℕ → Host
with_variable host name value = record host { environment = host.environment ++ (name, value) ∷ [] }

-- the daemon begins at this moment
abbrev pub starting_at : Host → ℕ → Host
starting_at host start = record host { start = start }
