-- What the lines of a text give: names and keys in order of first appearance, the last value of
-- each key.
use Rattle.std.specs.Prelude.{ℕ, List, [], ◌∷◌, ◌++◌, Bool, true, false, not, Option, Some, None}
use Rattle.std.specs.Prelude.{if◌then◌else◌}
use Rattle.std.specs.List.{filter, find}
use Rattle.std.specs.Option.{option_map, option_map_or, option_or}
use Rattle.std.specs.Str.{bytes_eq}
use Rattle.sv_base.specs.Ascii.{line_feed}
use Rattle.sv_ini.specs.declared.section.Section.{Section}
use Rattle.sv_ini.specs.Lines.{LineKind, lines_of, kind_of}
use Rattle.sv_ini.specs.Lines.LineKind.{Blank, Comment, Further, Opens, Sets, Bad}

-- whether a value is going on after a line of this kind
abbrev pub goes_on : Bool → LineKind → Bool
goes_on going Blank = false
goes_on going Comment = going
goes_on going (Further text) = going
goes_on going (Opens name) = false
goes_on going (Sets key value) = true
goes_on going Bad = false

-- the kinds of lines, where before the first of them a value is going on or not
abbrev pub kinds_from : Bool → List (List ℕ) → List LineKind
kinds_from going [] = []
kinds_from going (line ∷ lines) =
    kind_of going line ∷ kinds_from (goes_on going (kind_of going line)) lines

-- the kinds of the lines of a text
abbrev pub kinds_of : List ℕ → List LineKind
kinds_of text = kinds_from false (lines_of text)

-- each name once, in order of first appearance
abbrev pub first_ones : List (List ℕ) → List (List ℕ)
first_ones [] = []
first_ones (name ∷ names) = name ∷ filter (λ other. not (bytes_eq name other)) (first_ones names)

-- the names in the lines that open sections
abbrev pub opened_names : List LineKind → List (List ℕ)
opened_names [] = []
opened_names (Opens name ∷ kinds) = name ∷ opened_names kinds
opened_names (kind ∷ kinds) = opened_names kinds

-- the further lines of a value, each after a line feed; a comment may stand between, other lines
-- end it
abbrev pub further_lines : List LineKind → List ℕ
further_lines (Further text ∷ kinds) = line_feed ∷ text ++ further_lines kinds
further_lines (Comment ∷ kinds) = further_lines kinds
further_lines kinds = []

-- the keys that lines give to the section of this name, each with its whole value; before the lines
-- that section is open or not
abbrev pub given_keys : List ℕ → Bool → List LineKind → List (List ℕ × List ℕ)
given_keys name here [] = []
given_keys name here (Opens other ∷ kinds) = given_keys name (bytes_eq other name) kinds
given_keys name true (Sets key value ∷ kinds) =
    (key, value ++ further_lines kinds) ∷ given_keys name true kinds
given_keys name here (kind ∷ kinds) = given_keys name here kinds

-- the keys that a text gives to the section of this name
abbrev pub keys_given : List ℕ → List ℕ → List (List ℕ × List ℕ)
keys_given name text = given_keys name false (kinds_of text)

-- the value that is given last to this key
abbrev pub last_value : List ℕ → List (List ℕ × List ℕ) → Option (List ℕ)
last_value key [] = None
last_value key (entry ∷ entries) =
    option_or (last_value key entries) (if bytes_eq entry.0 key then Some entry.1 else None)

-- the keys of the section of this name; none where no section has it
abbrev pub keys_of : List ℕ → List Section → List (List ℕ × List ℕ)
keys_of name sections =
    let found = find (λ (s : Section). bytes_eq s.name name) sections in
    option_map_or (λ (s : Section). s.keys) found []

-- the value of this key
abbrev pub value_of : List ℕ → List (List ℕ × List ℕ) → Option (List ℕ)
value_of key keys =
    let found = find (λ (k : List ℕ × List ℕ). bytes_eq k.0 key) keys in
    option_map (λ (k : List ℕ × List ℕ). k.1) found
