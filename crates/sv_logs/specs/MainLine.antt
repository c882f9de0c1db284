-- The lines of the main log (the manual's chapter on logging, `loglevel`).
use Rattle.std.specs.Prelude.{ℕ, ◌+◌, ◌/◌, ◌%◌, List, [], ◌∷◌, ◌++◌, codes}
use Rattle.sv_base.specs.Ascii.{colon, comma, hyphen, line_feed, space}
use Rattle.sv_base.specs.declared.state.Level.{Level}
use Rattle.sv_base.specs.declared.state.Level.TheVariants.{Blather, Trace, Debug, Info, Warn, Error}
use Rattle.sv_base.specs.declared.state.Level.TheVariants.{Critical}
use Rattle.sv_logs.specs.Dates.{date_of, two_digits}
use Rattle.sv_logs.specs.declared.dates.Day.{Day}

-- the word for a level
abbrev pub level_word : Level → List ℕ
level_word Critical = codes "CRIT"
level_word Error = codes "ERRO"
level_word Warn = codes "WARN"
level_word Info = codes "INFO"
level_word Debug = codes "DEBG"
level_word Trace = codes "TRAC"
level_word Blather = codes "BLAT"

-- a number below 1,000 by three digits
abbrev pub three_digits : ℕ → List ℕ
three_digits n = (48 + n / 100) ∷ two_digits (n % 100)

-- a number below 10,000 by four digits
abbrev pub four_digits : ℕ → List ℕ
four_digits n = two_digits (n / 100) ++ two_digits (n % 100)

-- YYYY-MM-DD
abbrev pub date_text : Day → List ℕ
date_text date =
    four_digits date.year ++ hyphen ∷ two_digits date.month ++ hyphen ∷ two_digits date.day

-- HH:MM:SS,mmm of the milliseconds of a day
abbrev pub time_text : ℕ → List ℕ
time_text n =
    two_digits (n / 3600000) ++ colon ∷ two_digits (n / 60000 % 60)
    ++ colon ∷ two_digits (n / 1000 % 60) ++ comma ∷ three_digits (n % 1000)

-- YYYY-MM-DD HH:MM:SS,mmm LEVEL TEXT and a line feed: the one line of this moment, level and text,
-- in UTC
abbrev pub main_text : ℕ → Level → List ℕ → List ℕ
main_text now level text =
    date_text (date_of (now / 86400000)) ++ space ∷ time_text (now % 86400000)
    ++ space ∷ level_word level ++ space ∷ text ++ line_feed ∷ []
