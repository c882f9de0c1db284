-- A section that doesn't set numprocs has one process.
use Rattle.std.proofs.Common.{◌≡◌, ◌-◌, ◌∙◌, ℕ, List, [], ◌∷◌, false, length, refl, arith}
use Rattle.std.specs.Prelude.{Option, Some, None, is_some}
use Rattle.sv_base.specs.declared.config.Host.{Host}
use Rattle.sv_conf.specs.Promised.{promised_in, room_in}
use Rattle.sv_expand.specs.Results.{and_then}
use Rattle.sv_expand.specs.Values.{value_of}
use Rattle.sv_expand.specs.declared.names.Names.{Names}
use Rattle.sv_keys.specs.KeyNames.{key_name}
use Rattle.sv_keys.specs.KeyTable.{Keys, or_default, numprocs}
use Rattle.sv_keys.specs.KnownNames.{program_pairs, without_numbers}
use Rattle.sv_keys.specs.Rows.{row, value_at, expanded_if, read_by}
use Rattle.sv_keys.specs.ServerKeys.{is_set}
use Rattle.sv_keys.specs.Values.{number_in}
use Rattle.sv_keys.specs.declared.key.Key.TheVariants.{Numprocs}
use Rattle.sv_sections.specs.declared.programs.homes.Home.{Home}

pub one_if_unset : (keys : Keys) (names : Names) → is_set Numprocs keys ≡ false → or_default 1 (numprocs keys names) ≡ 1
unfolding numprocs row value_at
one_if_unset keys names e = by_value (value_of (key_name Numprocs) keys) e
  where
    by_value : (set : Option (List ℕ)) → is_some set ≡ false → or_default 1 (and_then (expanded_if names Numprocs set) (read_by Numprocs (number_in 1 1024) 1)) ≡ 1
    by_value None e = refl
    by_value (Some text) e = cc

-- a section that doesn't set it promises one in each of its groups
pub one_in_each : (host : Host) (program : List ℕ) (keys : Keys) (homes : List Home) (room : ℕ) → is_set Numprocs keys ≡ false
    → room - length homes ≡ room_in host program keys homes room
unfolding promised_in
one_in_each host program keys [] room unset = omega arith
one_in_each host program keys (home ∷ homes) room unset =
    rw (one_if_unset keys (without_numbers (program_pairs host program home.group)) unset)
    (omega (arith) ∙ one_in_each host program keys homes (room - 1) unset)
