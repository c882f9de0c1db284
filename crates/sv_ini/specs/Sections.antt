-- The sections of a configuration text.
use Rattle.std.specs.Prelude.{◌≡◌, ℕ, suc, List, [], ◌∷◌, ◌++◌, nat_lt, Option, Some, None, Result}
use Rattle.std.specs.Prelude.{Ok, Err, length, slice_set, slice_index_or, if◌then◌else◌, ⊤}
use Rattle.std.specs.List.{position_or_len}
use Rattle.std.specs.Option.{is_some}
use Rattle.std.specs.Str.{bytes_eq}
use Rattle.std.specs.Str.Lossy.{utf8_valid_len}
use Rattle.sv_ini.specs.declared.fault.IniFault.{IniFault}
use Rattle.sv_ini.specs.declared.fault.IniFault.TheVariants.{TooLong, NotUtf8, BadLine}
use Rattle.sv_ini.specs.declared.fault.IniFault.TheVariants.{OutsideSection, OutOfMemory}
use Rattle.sv_ini.specs.declared.reading.SectionReader.{SectionReader}
use Rattle.sv_ini.specs.declared.section.Section.{Section}
use Rattle.sv_ini.specs.Keys.{place_of_key, with_key, with_further, with_keys}
use Rattle.sv_ini.specs.Lines.{LineKind, lines_of, kind_of}
use Rattle.sv_ini.specs.Lines.LineKind.{Blank, Comment, Further, Opens, Sets, Bad}

-- the most bytes of a text
abbrev pub text_limit : ℕ
text_limit = 1048576

-- a section without a name or keys, for a place that doesn't exist
abbrev pub no_section : Section
no_section = record { name = []; keys = [] }

-- the section at this place
abbrev pub section_at : ℕ → List Section → Section
section_at place sections = slice_index_or sections place no_section

-- where a section of this name stands, or would be added
abbrev pub place_of_section : List ℕ → List Section → ℕ
place_of_section name sections = position_or_len (λ (s : Section). bytes_eq s.name name) sections

-- a section of this name, which keeps the place of its first appearance
abbrev pub with_section : List ℕ → List Section → List Section
with_section name sections =
    if nat_lt (place_of_section name sections) (length sections) then sections
    else sections ++ record { name = name; keys = [] } ∷ []

-- before the first line
abbrev pub nothing_read : SectionReader
nothing_read = record { sections = []; current = None; going = None }

-- no value is going on any more
abbrev pub ended : SectionReader → SectionReader
ended reading = record reading { going = None }

-- a section opens: the one of that name, if there is one already
abbrev pub opened : List ℕ → SectionReader → SectionReader
opened name reading = record {
  sections = with_section name reading.sections;
  current = Some (place_of_section name reading.sections);
  going = None;
}

-- a change of the keys of the section at this place
abbrev pub in_section : ℕ → (List (List ℕ × List ℕ) → List (List ℕ × List ℕ)) → List Section
    → List Section
in_section place change sections =
    slice_set sections place
    (with_keys (section_at place sections) (change (section_at place sections).keys))

-- a key of the open section, whose value is then going on
abbrev pub set_at : ℕ → List ℕ → List ℕ → SectionReader → SectionReader
set_at place key value reading = record {
  sections = in_section place (with_key key value) reading.sections;
  current = Some place;
  going = Some (place_of_key key (section_at place reading.sections).keys);
}

-- a further line of the value that is going on
abbrev pub gone_on : Option ℕ → Option ℕ → List ℕ → SectionReader → SectionReader
gone_on (Some place) (Some key) text reading =
    record reading { sections = in_section place (with_further key text) reading.sections }
gone_on current going text reading = reading

-- a key in the open section; before any section it is a fault
abbrev pub after_key : Option ℕ → ℕ → List ℕ → List ℕ → SectionReader
    → Result SectionReader IniFault
after_key (Some place) number key value reading = Ok (set_at place key value reading)
after_key None number key value reading = Err (OutsideSection number)

-- what a line of this kind makes of what was read before it
abbrev pub after_kind : LineKind → ℕ → SectionReader → Result SectionReader IniFault
after_kind Blank number reading = Ok (ended reading)
after_kind Comment number reading = Ok reading
after_kind (Further text) number reading = Ok (gone_on reading.current reading.going text reading)
after_kind (Opens name) number reading = Ok (opened name reading)
after_kind (Sets key value) number reading = after_key reading.current number key value reading
after_kind Bad number reading = Err (BadLine number)

-- what the line of this number makes of what was read before it
abbrev pub after_line : ℕ → List ℕ → SectionReader → Result SectionReader IniFault
after_line number line reading = after_kind (kind_of (is_some reading.going) line) number reading

-- goes on, unless there was a fault
abbrev pub and_then : {A B : Type 0} → Result A IniFault → (A → Result B IniFault)
    → Result B IniFault
and_then (Ok x) f = f x
and_then (Err fault) f = Err fault

-- the lines in turn, of which the first has this number, up to the first one with a fault
abbrev pub after_lines : ℕ → List (List ℕ) → SectionReader → Result SectionReader IniFault
after_lines number [] reading = Ok reading
after_lines number (line ∷ lines) reading =
    and_then (after_line number line reading) (λ next. after_lines (suc number) lines next)

-- the sections of a text, in order of first appearance, or its first fault
abbrev pub sections_of : List ℕ → Result (List Section) IniFault
sections_of text =
    if nat_lt text_limit (length text) then Err TooLong
    else if nat_lt (utf8_valid_len text) (length text) then Err (NotUtf8 (utf8_valid_len text))
    else and_then (after_lines 1 (lines_of text) nothing_read) (λ reading. Ok reading.sections)

-- a fault is the one that the text has; running out of memory is always allowed
abbrev pub IsFault : {A : Type 0} → IniFault → Result A IniFault → Type 0
IsFault OutOfMemory read = ⊤
IsFault fault read = read ≡ Err fault

-- the number of a fault, by which it is printed
abbrev pub fault_number : IniFault → Option ℕ
fault_number (NotUtf8 place) = Some 1
fault_number (BadLine line) = Some 2
fault_number (OutsideSection line) = Some 3
fault_number TooLong = Some 4
fault_number OutOfMemory = None
