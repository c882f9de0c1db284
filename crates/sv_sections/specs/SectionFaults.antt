-- A key's fault with the name of its section.
use Rattle.std.specs.Prelude.{ℕ, List, Bool, true, Result, Ok, Err, codes}
use Rattle.sv_sections.specs.declared.fault.ConfFault.{ConfFault}
use Rattle.sv_sections.specs.declared.fault.ConfFault.TheVariants.{BadValue, Expand, Missing}
use Rattle.sv_keys.specs.KeyNames.{key_name}
use Rattle.sv_keys.specs.KeyTable.{Keys}
use Rattle.sv_keys.specs.ProgramNames.{is_name}
use Rattle.sv_keys.specs.ServerKeys.{is_set}
use Rattle.sv_keys.specs.declared.judged.Cause.{Cause}
use Rattle.sv_keys.specs.declared.judged.Cause.TheVariants as cause
use Rattle.sv_keys.specs.declared.judged.KeyFault.{KeyFault}
use Rattle.sv_keys.specs.declared.key.Key.{Key}
use Rattle.std.specs.Prelude.{if◌then◌else◌}

-- what is wrong with the value of a key of a section
abbrev pub fault_by : Cause → List ℕ → Key → ConfFault
fault_by cause.Expand section key = Expand section (key_name key)
fault_by cause.BadValue section key = BadValue section (key_name key)

-- a key's fault with the name of its section
abbrev pub section_fault : List ℕ → KeyFault → ConfFault
section_fault section fault = fault_by fault.cause section fault.key

-- a value of a section, or its fault
abbrev pub or_section_fault : {T : Type 0} → List ℕ → Result T KeyFault → Result T ConfFault
or_section_fault section (Ok value) = Ok value
or_section_fault section (Err fault) = Err (section_fault section fault)

-- a key that must stand in its section
abbrev pub or_missing : List ℕ → Key → Keys → Result Keys ConfFault
or_missing section key keys =
    if is_set key keys then Ok keys else Err (Missing section (key_name key))

-- the name in a title may be a name, or the fault that it may not
abbrev pub check_name : List ℕ → List ℕ → Result Bool ConfFault
check_name title name = if is_name name then Ok true else Err (BadValue title (codes "name"))
