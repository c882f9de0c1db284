-- What a configuration says in Supervisor 4.2.5, as Python 3.11 reads it: its sections and their keys, or why it
-- is refused.
use Rattle.std.specs.Prelude.{◌≡◌, ◌+◌, ℕ, List, [], ◌∷◌, nat_lt, Option, Some, None, Result, Ok, Err}
use Rattle.std.specs.Prelude.{length, chars, if◌then◌else◌, ⊤}
use Rattle.std.specs.Str.Lossy.{utf8_valid_len}
use Rattle.sv_moving.specs.declared.reader.Reader.{Reader}
use Rattle.sv_moving.specs.declared.refusal.Refusal.{Refusal}
use Rattle.sv_moving.specs.declared.refusal.Refusal.TheVariants.{NoHeader, BadLines, NotUtf8, OutOfMemory}
use Rattle.sv_moving.specs.declared.sections.Section.{Section}
use Rattle.sv_moving.specs.Lines.{lines_of}
use Rattle.sv_moving.specs.Reading.{begun, after_lines}

-- what the faulty lines of a text make of it
abbrev pub without_faults : ℕ → List ℕ → List Section → Result (List Section) Refusal
without_faults text [] sections = Ok sections
without_faults text (line ∷ lines) sections = Err (BadLines text (line ∷ lines))

-- the end of a text
abbrev pub ended : Option ℕ → Reader → Result (List Section) Refusal
ended (Some line) r = Err (NoHeader r.spot.text line)
ended None r = without_faults r.spot.text r.faulty r.sections

-- the sections after the text of this number, behind the texts that gave these sections
abbrev pub text_read : ℕ → List ℕ → List Section → Result (List Section) Refusal
text_read number text sections =
    if nat_lt (utf8_valid_len text) (length text)
    then Err (NotUtf8 number (utf8_valid_len text))
    else (let r = after_lines (begun number sections) (lines_of (chars text)) in ended r.headless r)

-- goes on, unless there was a refusal
abbrev pub and_then : {A B : Type 0} → Result A Refusal → (A → Result B Refusal) → Result B Refusal
and_then (Ok x) f = f x
and_then (Err refusal) f = Err refusal

-- the texts in turn, of which the first has this number: the main one, and then those that it includes
abbrev pub texts_read : ℕ → List (List ℕ) → List Section → Result (List Section) Refusal
texts_read number [] sections = Ok sections
texts_read number (text ∷ texts) sections =
    and_then (text_read number text sections) (λ next. texts_read (number + 1) texts next)

-- the sections of a configuration, or the first refusal
abbrev pub read_there : List (List ℕ) → Result (List Section) Refusal
read_there texts = texts_read 0 texts []

-- a refusal is the one that the texts have; running out of memory is always allowed
abbrev pub IsRefusal : {A : Type 0} → Refusal → Result A Refusal → Type 0
IsRefusal OutOfMemory read = ⊤
IsRefusal refusal read = read ≡ Err refusal
