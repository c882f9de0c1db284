-- Files are read in one way.
use Rattle.std.specs.Prelude.{◌≡◌, ℕ, List, Ok, Err}
use Rattle.sv_base.specs.declared.config.Host.{Host}
use Rattle.sv_sections.specs.declared.fault.ConfFault.{ConfFault}
use Rattle.sv_load.specs.Loading.{Loads}
use Rattle.sv_load.specs.declared.fault.LoadFault.TheVariants as fault_is
use Rattle.sv_out.specs.Files.{Files}
use Rattle.sv_supervise.specs.Begin.Beginnings.{BeginsWith}
use Rattle.sv_supervise.specs.declared.begin.beginning.Beginning.{Beginning}

-- the same configuration of the same texts, and the same sizes
pub record AreTheSame (one other : Beginning) : Type 0 where
  pub loaded : one.loaded ≡ other.loaded
  pub sizes : one.sizes.items ≡ other.sizes.items

-- nothing else is read from these files, and their configuration isn't refused
pub record IsOnlyReading (files : Files) (file : List ℕ) (host : Host) (beginning : Beginning)
    : Type 0 where
  pub one : (other : Beginning) → BeginsWith files file host (Ok other) → AreTheSame beginning other
  pub good : (fault : ConfFault) → Loads files file host (Err (fault_is.Refused fault)) → ⊥
