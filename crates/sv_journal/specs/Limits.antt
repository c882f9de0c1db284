use Rattle.std.specs.Prelude.{ℕ}

-- the most bytes of one line, its line feed left out
abbrev pub line_limit : ℕ
line_limit = 4194304

-- the greatest number
abbrev pub number_limit : ℕ
number_limit = 18446744073709551615

-- the greatest number of a run, a link or a process
abbrev pub run_limit : ℕ
run_limit = 4294967295

-- the most seconds or retries of a program
abbrev pub program_limit : ℕ
program_limit = 1000000
