-- The value of a key or its fault.
use Rattle.std.specs.Prelude.{◌≡◌, Option, Some, None, Result, Ok, Err, nat_lt, if◌then◌else◌, ⊤}
use Rattle.sv_keys.specs.KeyNames.{key_place}
use Rattle.sv_keys.specs.declared.judged.Cause.TheVariants as cause
use Rattle.sv_keys.specs.declared.judged.KeyFault.{KeyFault}
use Rattle.sv_keys.specs.declared.judged.Unread.{Unread}
use Rattle.sv_keys.specs.declared.judged.Unread.TheVariants.{Faulty, OutOfMemory}
use Rattle.sv_keys.specs.declared.key.Key.{Key}

-- the value isn't one of the key's
abbrev pub bad_value : Key → KeyFault
bad_value key = record { key = key; cause = cause.BadValue }

-- the value has no expansion
abbrev pub bad_expansion : Key → KeyFault
bad_expansion key = record { key = key; cause = cause.Expand }

-- a value that was read, or the fault that it wasn't one
abbrev pub or_bad : {T : Type 0} → Key → Option T → Result T KeyFault
or_bad key (Some value) = Ok value
or_bad key None = Err (bad_value key)

-- of two faults that of the earlier key, and of one key the first
abbrev pub earlier : KeyFault → KeyFault → KeyFault
earlier one other = if nat_lt (key_place other.key) (key_place one.key) then other else one

-- both, or the fault of the earlier key
abbrev pub joined : {A B : Type 0} → Result A KeyFault → Result B KeyFault → Result (A × B) KeyFault
joined (Ok one) (Ok other) = Ok (one, other)
joined (Ok one) (Err fault) = Err fault
joined (Err fault) (Ok other) = Err fault
joined (Err fault) (Err other) = Err (earlier fault other)

-- what isn't read has the fault that the definition gives; memory may always be refused
abbrev pub IsFault : {T : Type 0} → Unread → Result T KeyFault → Type 0
IsFault OutOfMemory given = ⊤
IsFault (Faulty fault) given = given ≡ Err fault
