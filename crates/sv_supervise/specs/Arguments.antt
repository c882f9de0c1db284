-- What the daemon's words say.
use Rattle.std.specs.Prelude.{◌∷◌, ℕ, List, [], Bool, false, true, Option, Some, None, codes}
use Rattle.std.specs.Prelude.{unwrap_or}
use Rattle.std.specs.Str.{bytes_eq}
use Rattle.clap.specs.Words.{App, Kinds, Row, Rule, fault_of, first_of, matches_of, new_app}
use Rattle.clap.specs.Words.{new_rule, with_rule}
use Rattle.clap.specs.declared.builder.action.ArgAction.TheVariants.{SetTrue}
use Rattle.sv_supervise.specs.declared.arguments.Arguments.{Arguments}

-- an option of one letter or of its long form, which has to be there and takes a value
abbrev pub option_of : List ℕ → ℕ → List ℕ → Rule
option_of name letter long =
    record (new_rule name) { short = Some letter; long = Some long; required = true }

-- a flag, whose name is its long form
abbrev pub flag_of : List ℕ → Rule
flag_of name = record (new_rule name) { long = Some name; action = Some SetTrue }

-- a flag of one letter or of its long form
abbrev pub short_flag_of : List ℕ → ℕ → Rule
short_flag_of name letter = record (flag_of name) { short = Some letter }

-- the daemon's command line: `-c` or `--configuration` with the configuration file, `--journal`,
-- and `-n` or `--nodaemon`
abbrev pub command_line : App
command_line =
    with_rule (with_rule (with_rule (new_app (codes "supervisord"))
    (option_of (codes "file") 99 (codes "configuration")))
    (flag_of (codes "journal"))) (short_flag_of (codes "nodaemon") 110)

-- the words after the program's name
abbrev pub with_name : List (List ℕ) → List (List ℕ)
with_name words = codes "supervisord" ∷ words

-- a flag was given
abbrev pub is_set : Option (List ℕ) → Bool
is_set None = false
is_set (Some value) = bytes_eq value (codes "true")

-- what is found in the words: the value of `-c`, which the command line has found where it takes
-- them, and whether `--journal` is there
abbrev pub values_in : List Row → Arguments
values_in rows = record {
  file = unwrap_or (first_of (codes "file") rows) [];
  journal = is_set (first_of (codes "journal") rows);
}

-- what is found, where the command line has no fault of the words
abbrev pub arguments_by : Kinds → List Row → Option Arguments
arguments_by [] rows = Some (values_in rows)
arguments_by (kind ∷ kinds) rows = None

-- what these words say; none exactly where the command line refuses them
abbrev pub arguments_of : List (List ℕ) → Option Arguments
arguments_of words =
    arguments_by (fault_of command_line (with_name words))
    (matches_of command_line (with_name words))
