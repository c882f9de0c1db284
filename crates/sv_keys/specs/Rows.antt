-- A key of a section: its value is expanded and then read; where the key isn't set its default
-- stands.
use Rattle.std.specs.Prelude.{ℕ, List, Option, Some, None, Result, Ok, Err}
use Rattle.sv_expand.specs.Expansion.{expansion_of}
use Rattle.sv_expand.specs.Values.{value_of}
use Rattle.sv_expand.specs.declared.fault.ExpandFault.{ExpandFault}
use Rattle.sv_expand.specs.declared.names.Names.{Names}
use Rattle.sv_expand.specs.Results.{and_then}
use Rattle.sv_keys.specs.Judged.{bad_expansion, bad_value, or_bad}
use Rattle.sv_keys.specs.KeyNames.{key_name}
use Rattle.sv_keys.specs.declared.judged.KeyFault.{KeyFault}
use Rattle.sv_keys.specs.declared.key.Key.{Key}

-- an expansion, or the fault of the key whose value has none
abbrev pub or_no_expansion : Key → Result (List ℕ) ExpandFault → Result (List ℕ) KeyFault
or_no_expansion key (Ok text) = Ok text
or_no_expansion key (Err fault) = Err (bad_expansion key)

-- the expansion of a key's value
unfoldable pub expanded : Names → Key → List ℕ → Result (List ℕ) KeyFault
expanded names key text = or_no_expansion key (expansion_of names text)

-- the expansion of a value that is set
abbrev pub expanded_if : Names → Key → Option (List ℕ) → Result (Option (List ℕ)) KeyFault
expanded_if names key None = Ok None
expanded_if names key (Some text) = and_then (expanded names key text) (λ text. Ok (Some text))

-- the expanded value of a key, where it is set
unfoldable pub value_at : Key → List (List ℕ × List ℕ) → Names → Result (Option (List ℕ)) KeyFault
value_at key keys names = expanded_if names key (value_of (key_name key) keys)

-- a value that is set is read, else the default stands
abbrev pub read_by : {T : Type 0} → Key → (List ℕ → Option T) → T → Option (List ℕ)
    → Result T KeyFault
read_by key read default None = Ok default
read_by key read default (Some text) = or_bad key (read text)

-- a key with the way to read it and its default
unfoldable pub row : {T : Type 0} → Key → (List ℕ → Option T) → T → List (List ℕ × List ℕ) → Names
    → Result T KeyFault
row key read default keys names = and_then (value_at key keys names) (read_by key read default)

-- a value that must be set is read
abbrev pub read_needed : {T : Type 0} → Key → (List ℕ → Option T) → Option (List ℕ)
    → Result T KeyFault
read_needed key read None = Err (bad_value key)
read_needed key read (Some text) = or_bad key (read text)

-- a key without a default; a section that lacks it is refused before its keys are read
unfoldable pub needed : {T : Type 0} → Key → (List ℕ → Option T) → List (List ℕ × List ℕ) → Names
    → Result T KeyFault
needed key read keys names = and_then (value_at key keys names) (read_needed key read)
