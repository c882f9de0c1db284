-- What the client's options say.
use Rattle.std.specs.Prelude.{◌∷◌, ℕ, List, [], Option, Some, None, codes}
use Rattle.clap.specs.Words.{App, Kinds, Row, Rule, fault_of, first_of, matches_of, new_app}
use Rattle.clap.specs.Words.{new_rule, with_rule}
use Rattle.sv_ctl.specs.declared.options.Options.{Options}

-- an option of one letter, which takes a value
abbrev pub option_of : List ℕ → ℕ → Rule
option_of name letter = record (new_rule name) { short = Some letter }

-- the client's command line: `-c`, `-s`, `-u` and `-p`
abbrev pub command_line : App
command_line =
    with_rule (with_rule (with_rule (with_rule (new_app (codes "supervisorctl"))
    (option_of (codes "file") 99)) (option_of (codes "url") 115))
    (option_of (codes "username") 117)) (option_of (codes "password") 112)

-- the words after the program's name
abbrev pub with_name : List (List ℕ) → List (List ℕ)
with_name words = codes "supervisorctl" ∷ words

-- the values of the options
abbrev pub values_in : List Row → Options
values_in rows = record {
  file = first_of (codes "file") rows;
  url = first_of (codes "url") rows;
  username = first_of (codes "username") rows;
  password = first_of (codes "password") rows;
}

-- the values, where the command line takes the words
abbrev pub options_by : Kinds → List Row → Option Options
options_by [] rows = Some (values_in rows)
options_by (kind ∷ kinds) rows = None

-- what the options of these words say; none where the command line refuses them
abbrev pub options_of : List (List ℕ) → Option Options
options_of words =
    options_by (fault_of command_line (with_name words)) (matches_of command_line (with_name words))
