-- The include section (the manual's chapter on the configuration file): which files a configuration
-- includes.
use Rattle.std.specs.Prelude.{◌==◌, ◌-◌, ℕ, List, [], ◌∷◌, ◌++◌, ◌||◌, Bool, false, Option, Some}
use Rattle.std.specs.Prelude.{None, Result, Ok, Err, map, codes, length, slice_index, if◌then◌else◌}
use Rattle.std.specs.List.{find}
use Rattle.std.specs.Str.{bytes_eq}
use Rattle.sv_base.specs.Ascii.{slash}
use Rattle.sv_base.specs.declared.config.Host.{Host}
use Rattle.sv_keys.specs.Cuts.{gaps_in, is_empty}
use Rattle.sv_sections.specs.SectionFaults.{or_section_fault}
use Rattle.sv_expand.specs.Results.{and_then}
use Rattle.sv_keys.specs.KeyNames.{key_name}
use Rattle.sv_keys.specs.KnownNames.{host_names}
use Rattle.sv_keys.specs.Rows.{value_at}
use Rattle.sv_sections.specs.declared.fault.ConfFault.{ConfFault}
use Rattle.sv_sections.specs.declared.fault.ConfFault.TheVariants.{Ini, Missing}
use Rattle.sv_keys.specs.declared.key.Key.TheVariants.{Files}
use Rattle.sv_ini.specs.Sections.{sections_of}
use Rattle.sv_ini.specs.declared.fault.IniFault.{IniFault}
use Rattle.sv_ini.specs.declared.section.Section.{Section}

-- the sections of a text, or its fault
abbrev pub or_ini : Result (List Section) IniFault → Result (List Section) ConfFault
or_ini (Ok sections) = Ok sections
or_ini (Err fault) = Err (Ini fault)

-- the sections of a text, or their fault as one of the configuration
unfoldable pub sections_in : List ℕ → Result (List Section) ConfFault
sections_in text = or_ini (sections_of text)

-- the section of this name
abbrev pub section_named : List ℕ → List Section → Option Section
section_named name sections = find (λ (s : Section). bytes_eq s.name name) sections

-- a path from the root
abbrev pub begins_with_slash : List ℕ → Bool
begins_with_slash [] = false
begins_with_slash (b ∷ bs) = b == slash

-- what a path to a directory needs before a further name
abbrev pub slash_behind : List ℕ → List ℕ
slash_behind here =
    if is_empty here || (slice_index here (length here - 1) == slash) then [] else slash ∷ []

-- a relative pattern begins in the directory of the configuration file
abbrev pub joined : List ℕ → List ℕ → List ℕ
joined here pattern =
    if begins_with_slash pattern then pattern else here ++ (slash_behind here ++ pattern)

-- the patterns of the value of `files`, which must be set
abbrev pub patterns_in : Host → Option (List ℕ) → Result (List (List ℕ)) ConfFault
patterns_in host None = Err (Missing (codes "include") (key_name Files))
patterns_in host (Some text) = Ok (map (joined host.here) (gaps_in text))

-- the patterns of an include section; without one there are none
unfoldable pub patterns_of : Host → Option Section → Result (List (List ℕ)) ConfFault
patterns_of host None = Ok []
patterns_of host (Some section) =
    and_then (or_section_fault (codes "include") (value_at Files section.keys (host_names host)))
    (patterns_in host)

-- the patterns of the files that a configuration includes, or its first fault
unfoldable pub includes_of : List ℕ → Host → Result (List (List ℕ)) ConfFault
includes_of main host =
    and_then (sections_in main)
    (λ sections. patterns_of host (section_named (codes "include") sections))
