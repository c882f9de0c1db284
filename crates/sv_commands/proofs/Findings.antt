-- The processes that a name finds.
use Rattle.std.proofs.Common.{◌≡◌, ℕ, List, Option, ap}
use Rattle.std.specs.List.{filter}
use Rattle.sv_base.specs.SplitName.{split_of}
use Rattle.sv_commands.specs.Tables.{found, is_named}
use Rattle.sv_commands.specs.declared.tables.Process.{Process}

pub found_by : (processes : List Process) (name group : List ℕ) (member : Option (List ℕ)) → (group, member) ≡ split_of name
    → filter (is_named group member) processes ≡ found processes name
unfolding found
found_by processes name group member is =
    ap (λ (parts : List ℕ × Option (List ℕ)). filter (is_named parts.0 parts.1) processes) is
