-- The sections of all texts: how those of included texts join the others (step 1), and which are
-- refused (step 4).
use Rattle.std.specs.Prelude.{ℕ, List, [], ◌∷◌, ◌++◌, Bool, true, false, ◌||◌, not, nat_lt}
use Rattle.std.specs.Prelude.{Option, Some, None, Result, Ok, Err, codes, length}
use Rattle.std.specs.Prelude.{slice_set, if◌then◌else◌}
use Rattle.std.specs.List.{find}
use Rattle.std.specs.Option.{is_some}
use Rattle.std.specs.Str.{bytes_eq}
use Rattle.sv_sections.specs.Includes.{sections_in}
use Rattle.sv_expand.specs.Results.{and_then}
use Rattle.sv_keys.specs.KeyTable.{Keys}
use Rattle.sv_keys.specs.ProgramNames.{titled}
use Rattle.sv_sections.specs.declared.fault.ConfFault.{ConfFault}
use Rattle.sv_sections.specs.declared.fault.ConfFault.TheVariants.{Unsupported}
use Rattle.sv_ini.specs.Keys.{with_key, with_keys}
use Rattle.sv_ini.specs.Sections.{place_of_section, section_at}
use Rattle.sv_ini.specs.declared.section.Section.{Section}

-- 1. Sections of one name are one section over all texts; an include section of an included text is
-- ignored.
abbrev pub with_all_keys : Keys → Keys → Keys
with_all_keys keys [] = keys
with_all_keys keys (entry ∷ more) = with_all_keys (with_key entry.0 entry.1 keys) more

-- a section joins the one of its name, or stands after the others
unfoldable pub with_section : List Section → Section → List Section
with_section sections section =
    let place = place_of_section section.name sections in
    if bytes_eq section.name (codes "include") then sections
    else if nat_lt place (length sections)
    then slice_set sections place
    (with_keys (section_at place sections)
    (with_all_keys (section_at place sections).keys section.keys))
    else sections ++ section ∷ []

-- several sections in turn
abbrev pub with_sections : List Section → List Section → List Section
with_sections sections [] = sections
with_sections sections (section ∷ more) = with_sections (with_section sections section) more

-- the sections of the included texts in turn, or the first fault in one
abbrev pub with_included : List Section → List (List ℕ × List ℕ) → Result (List Section) ConfFault
with_included sections [] = Ok sections
with_included sections (text ∷ texts) =
    and_then (sections_in text.1) (λ more. with_included (with_sections sections more) texts)

-- 4. Parts that aren't supported.
abbrev pub is_not_supervisor : Option (List ℕ) → Bool
is_not_supervisor None = false
is_not_supervisor (Some name) = not (bytes_eq name (codes "supervisor"))

-- a section of a part that isn't built
abbrev pub is_unsupported : Section → Bool
is_unsupported section =
    is_some (titled (codes "fcgi-program") section.name)
    || is_not_supervisor (titled (codes "rpcinterface") section.name)

-- the fault of such a section
abbrev pub unsupported_in : Option Section → Result Bool ConfFault
unsupported_in None = Ok true
unsupported_in (Some section) = Err (Unsupported section.name)

-- no such section stands, or the fault of the first
unfoldable pub all_supported : List Section → Result Bool ConfFault
all_supported sections = unsupported_in (find is_unsupported sections)
