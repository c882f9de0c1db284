-- How a configuration is read from a shelf: the main file, the names of all its patterns, the files
-- of these names.
use Rattle.std.specs.Prelude.{◌≡◌, ◌⊎◌, ℕ, List, Option, None, Some, Result, Ok, Err}
use Rattle.sv_base.specs.declared.config.Host.{Host}
use Rattle.sv_conf.specs.Configuration.{configuration_of}
use Rattle.sv_sections.specs.Includes.{includes_of}
use Rattle.sv_sections.specs.declared.fault.ConfFault.{ConfFault}
use Rattle.sv_sections.specs.declared.fault.ConfFault.TheVariants as conf
use Rattle.sv_out.specs.Files.{Files}
use Rattle.sv_load.specs.Listing.{AreListed, each_once, texts_of, IsOneOf}
use Rattle.sv_load.specs.declared.fault.LoadFault.{LoadFault}
use Rattle.sv_load.specs.declared.fault.LoadFault.TheVariants.{Missing, Refused, Failed}
use Rattle.sv_load.specs.declared.fault.LoadFault.TheVariants.{OutOfMemory}
use Rattle.sv_load.specs.declared.loading.Loaded.{Loaded}

-- a fault of the configuration; out of memory is one of its own
abbrev pub refused : ConfFault → LoadFault
refused conf.OutOfMemory = OutOfMemory
refused fault = Refused fault

-- what a main text includes: the files that its patterns list, each once, as far as they are there
pub record AreIncluded (files : Files) (host : Host) (main : List ℕ)
    (included : List (List ℕ × List ℕ)) : Type 0 where
  pub patterns : List (List ℕ)
  pub names : List (List ℕ)
  pub given : includes_of main host ≡ Ok patterns
  pub listed : AreListed files patterns names
  pub read : included ≡ texts_of files (each_once names)

-- a pattern of the main text, or a name that its patterns list
pub record IsAskedFor (files : Files) (host : Host) (main name : List ℕ) : Type 0 where
  pub patterns : List (List ℕ)
  pub given : includes_of main host ≡ Ok patterns
  pub which : IsOneOf patterns name
      ⊎ ((names : List (List ℕ)) × AreListed files patterns names × IsOneOf (each_once names) name)

-- why a main text's includes weren't read
abbrev pub CantInclude : Files → Host → List ℕ → LoadFault → Type 0
CantInclude files host main Missing = ⊥
CantInclude files host main (Refused fault) = includes_of main host ≡ Err fault
CantInclude files host main (Failed name) = IsAskedFor files host main name
CantInclude files host main OutOfMemory = Unit {0}

-- the texts were read, and the configuration has this fault
pub record IsFaulty (files : Files) (host : Host) (main : List ℕ) (fault : ConfFault) : Type 0 where
  pub included : List (List ℕ × List ℕ)
  pub are_included : AreIncluded files host main included
  pub first : configuration_of main included host ≡ Err fault

-- why the configuration of a main text isn't given
abbrev pub CantLoad : Files → Host → LoadFault → List ℕ → Type 0
CantLoad files host Missing main = ⊥
CantLoad files host (Refused fault) main =
    (includes_of main host ≡ Err fault) ⊎ IsFaulty files host main fault
CantLoad files host (Failed name) main = IsAskedFor files host main name
CantLoad files host OutOfMemory main = Unit {0}

-- the main file is there, and this holds of its text
abbrev pub HoldsOf : (List ℕ → Type 0) → Option (List ℕ) → Type 0
HoldsOf P None = ⊥
HoldsOf P (Some main) = P main

-- what is loaded from these files
abbrev pub Loads : Files → List ℕ → Host → Result Loaded LoadFault → Type 0
Loads files file host (Ok loaded) =
    (files file ≡ Some loaded.main) × AreIncluded files host loaded.main loaded.included
    × (configuration_of loaded.main loaded.included host ≡ Ok loaded.config)
Loads files file host (Err Missing) = files file ≡ None
Loads files file host (Err (Refused fault)) =
    HoldsOf (CantLoad files host (Refused fault)) (files file)
Loads files file host (Err (Failed name)) =
    (name ≡ file) ⊎ HoldsOf (CantLoad files host (Failed name)) (files file)
Loads files file host (Err OutOfMemory) = Unit {0}

-- the shelf failed
abbrev pub IsUnreadable : {A : Type 0} → Result A LoadFault → Type 0
IsUnreadable (Ok value) = ⊥
IsUnreadable (Err Missing) = ⊥
IsUnreadable (Err (Refused fault)) = ⊥
IsUnreadable (Err (Failed name)) = Unit {0}
IsUnreadable (Err OutOfMemory) = ⊥

-- a call with this name failed, or memory was refused
abbrev pub FailsAt : List ℕ → LoadFault → Type 0
FailsAt name Missing = ⊥
FailsAt name (Refused fault) = ⊥
FailsAt name (Failed other) = other ≡ name
FailsAt name OutOfMemory = Unit {0}

-- a call with one of these names failed, or memory was refused
abbrev pub FailsAtOneOf : List (List ℕ) → LoadFault → Type 0
FailsAtOneOf names Missing = ⊥
FailsAtOneOf names (Refused fault) = ⊥
FailsAtOneOf names (Failed name) = IsOneOf names name
FailsAtOneOf names OutOfMemory = Unit {0}
