use Rattle.std.specs.Prelude.{ℕ}

-- the last moment, in milliseconds since 1970-01-01 00:00:00 UTC
abbrev pub moment_limit : ℕ
moment_limit = 253000000000000

-- the last deadline: the last moment and the longest wait
abbrev pub deadline_limit : ℕ
deadline_limit = 253001000001000

-- the most bytes of one piece of a pipe or a link
abbrev pub piece_limit : ℕ
piece_limit = 65536

-- the most groups of a configuration
abbrev pub group_limit : ℕ
group_limit = 256

-- the most processes of a configuration
abbrev pub process_limit : ℕ
process_limit = 1024
