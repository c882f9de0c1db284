-- The sizes that are known as the daemon begins.
use Rattle.std.specs.Prelude.{ℕ, List, [], ◌∷◌, Option, Some, None}
use Rattle.sv_base.specs.declared.config.Config.{Config}
use Rattle.sv_base.specs.declared.spec.GroupSpec.{GroupSpec}
use Rattle.sv_base.specs.declared.spec.LogSpec.{LogSpec}
use Rattle.sv_base.specs.declared.spec.Spec.{Spec}
use Rattle.sv_logs.specs.Sizes.{Sizes, size_in, sized}

-- a log's file has its known size, or begins at 0
abbrev pub begins_as : Option (List ℕ) → Sizes → Sizes
begins_as None sizes = sizes
begins_as (Some file) sizes = sized file (size_in file sizes) sizes

-- a log begins
abbrev pub begins : LogSpec → Sizes → Sizes
begins log sizes = begins_as log.file sizes

-- the logs of processes
abbrev pub processes_begin : List Spec → Sizes → Sizes
processes_begin [] sizes = sizes
processes_begin (spec ∷ specs) sizes =
    processes_begin specs (begins spec.stderr (begins spec.stdout sizes))

-- those of groups
abbrev pub groups_begin : List GroupSpec → Sizes → Sizes
groups_begin [] sizes = sizes
groups_begin (group ∷ groups) sizes = groups_begin groups (processes_begin group.members sizes)

-- the told sizes, and with them each log file of the configuration
abbrev pub opening_sizes : Config → Sizes → Sizes
opening_sizes config told = groups_begin config.groups (begins config.main told)
