-- What a daemon begins with, by the files of a shelf.
use Rattle.std.specs.Prelude.{◌≡◌, ◌⊎◌, List, ℕ, None, Result, Ok, Err}
use Rattle.sv_base.specs.declared.config.Host.{Host}
use Rattle.sv_sections.specs.FaultTexts.{fault_text}
use Rattle.sv_sections.specs.declared.fault.ConfFault.{ConfFault}
use Rattle.sv_load.specs.Loading.{Loads}
use Rattle.sv_load.specs.declared.fault.LoadFault.{LoadFault}
use Rattle.sv_load.specs.declared.fault.LoadFault.TheVariants as fault_is
use Rattle.sv_load.specs.declared.loading.Loaded.{Loaded}
use Rattle.sv_out.specs.Files.{Files}
use Rattle.sv_supervise.specs.declared.outcome.Outcome.{Outcome}
use Rattle.sv_supervise.specs.declared.outcome.Outcome.TheVariants.{NoFile, Refused, Unreadable}
use Rattle.sv_supervise.specs.declared.outcome.Outcome.TheVariants.{NoMemory}
use Rattle.sv_load.specs.Sizes.LogSizes.{IsOneOf, log_files, sizes_on}
use Rattle.sv_supervise.specs.declared.begin.beginning.Beginning.{Beginning}

-- the name of the call on the shelf that failed, while the configuration of this file was read or
-- the sizes of its log files
abbrev pub IsUnreadable : Files → List ℕ → Host → List ℕ → Type 0
IsUnreadable files file host name =
    Loads files file host (Err (fault_is.Failed name))
    ⊎
    ((loaded : Loaded) × Loads files file host (Ok loaded)
    × IsOneOf (log_files loaded.config) name)

-- what is read from these files, or why it isn't
abbrev pub BeginsWith : Files → List ℕ → Host → Result Beginning Outcome → Type 0
BeginsWith files file host (Ok beginning) =
    Loads files file host (Ok beginning.loaded)
    × (beginning.sizes.items ≡ sizes_on files (log_files beginning.loaded.config))
BeginsWith files file host (Err (NoFile name)) = (name ≡ file) × (files file ≡ None)
BeginsWith files file host (Err (Refused text)) =
    (fault : ConfFault) × (text ≡ fault_text fault)
    × Loads files file host (Err (fault_is.Refused fault))
BeginsWith files file host (Err (Unreadable name)) = IsUnreadable files file host name
BeginsWith files file host (Err NoMemory) = Unit {0}
BeginsWith files file host (Err outcome) = ⊥

-- the shelf failed
abbrev pub IsUnread : {A : Type 0} → Result A Outcome → Type 0
IsUnread (Ok value) = ⊥
IsUnread (Err (Unreadable name)) = Unit {0}
IsUnread (Err outcome) = ⊥

-- why a daemon doesn't begin: no other outcome comes of reading
abbrev pub IsOfReading : Outcome → Type 0
IsOfReading (NoFile name) = Unit {0}
IsOfReading (Refused text) = Unit {0}
IsOfReading (Unreadable name) = Unit {0}
IsOfReading NoMemory = Unit {0}
IsOfReading outcome = ⊥

-- what is told of a fault in the reading of a file; where a text is made for it, memory may be
-- refused
abbrev pub IsTold : List ℕ → LoadFault → Outcome → Type 0
IsTold file fault_is.Missing outcome = (outcome ≡ NoFile file) ⊎ (outcome ≡ NoMemory)
IsTold file (fault_is.Refused fault) outcome =
    (outcome ≡ Refused (fault_text fault)) ⊎ (outcome ≡ NoMemory)
IsTold file (fault_is.Failed name) outcome = outcome ≡ Unreadable name
IsTold file fault_is.OutOfMemory outcome = outcome ≡ NoMemory
