-- The names that stand in values (the manual's chapter on the configuration file).
use Rattle.std.specs.Prelude.{ℕ, List, [], ◌∷◌, ◌++◌, map, codes}
use Rattle.sv_base.specs.declared.config.Host.{Host}
use Rattle.sv_expand.specs.declared.names.Names.{Names}

-- a variable of the host's environment
abbrev pub env_name : List ℕ × List ℕ → List ℕ × List ℕ
env_name variable = (codes "ENV_" ++ variable.0, variable.1)

-- what the host tells in every section
abbrev pub host_pairs : Host → List (List ℕ × List ℕ)
host_pairs host =
    (codes "host_node_name", host.name) ∷ (codes "here", host.here) ∷ map env_name host.environment

-- in sections other than programs and listeners
abbrev pub host_names : Host → Names
host_names host = record { pairs = host_pairs host; numbers = [] }

-- what is told in a program's section, for one of its groups
abbrev pub program_pairs : Host → List ℕ → List ℕ → List (List ℕ × List ℕ)
program_pairs host program group =
    (codes "program_name", program) ∷ (codes "group_name", group) ∷ host_pairs host

-- in a program of a group: alone, beside the number of processes, and beside that of the process
-- too
abbrev pub without_numbers : List (List ℕ × List ℕ) → Names
without_numbers pairs = record { pairs = pairs; numbers = [] }

-- beside the number of processes
abbrev pub with_count : List (List ℕ × List ℕ) → ℕ → Names
with_count pairs count = record { pairs = pairs; numbers = (codes "numprocs", count) ∷ [] }

-- beside the number of the process and that of all
abbrev pub with_process : List (List ℕ × List ℕ) → ℕ → ℕ → Names
with_process pairs count process =
    record
    { pairs = pairs; numbers = (codes "process_num", process) ∷ (codes "numprocs", count) ∷ [] }
