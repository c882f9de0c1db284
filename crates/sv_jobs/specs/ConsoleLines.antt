-- The lines of the console, each ended by a line feed, and what they ask for.
use Rattle.std.specs.Prelude.{◌≢◌, ◌==◌, ◌++◌, ◌∷◌, ◌||◌, ℕ, Bool, List, [], Option, None, Some}
use Rattle.std.specs.Prelude.{All, codes, length, nat_lt, not, take, if◌then◌else◌, option_map}
use Rattle.std.specs.List.{before_first, after_first, filter_map, find, position_or_len}
use Rattle.std.specs.Str.{bytes_eq, is_utf8}
use Rattle.sv_base.specs.Ascii.{line_feed, space}
use Rattle.sv_base.specs.Names.{signal_name}
use Rattle.sv_base.specs.declared.signal.Signal.{Signal}
use Rattle.sv_base.specs.declared.signal.Signal.TheVariants.{Term, Int, Quit, Kill, Usr1, Usr2}
use Rattle.sv_jobs.specs.declared.notes.Note.{Note}
use Rattle.sv_jobs.specs.declared.notes.Note.TheVariants as note

-- the most bytes of a line that is read
abbrev pub line_limit : ℕ
line_limit = 4096

-- how many bytes of a line count: one more, by which a longer one is known
abbrev pub kept_limit : ℕ
kept_limit = 4097

-- the bytes of a line that count
abbrev pub kept : List ℕ → List ℕ
kept line = take kept_limit line

-- a space
abbrev pub is_space : ℕ → Bool
is_space byte = byte == space

-- what stands before and after the first space, where there is one
abbrev pub parted : List ℕ → Option (List ℕ × List ℕ)
parted text =
    if nat_lt (position_or_len is_space text) (length text)
    then Some (before_first is_space text, after_first is_space text) else None

-- the signals that the daemon can be sent
abbrev pub daemon_signals : List Signal
daemon_signals = Term ∷ Int ∷ Quit ∷ Kill ∷ Usr1 ∷ Usr2 ∷ []

-- the one of this name
abbrev pub signalled : List ℕ → Option Signal
signalled name = find (λ signal. bytes_eq name (signal_name signal)) daemon_signals

-- what the two parts of a line ask for
abbrev pub asked : Option (List ℕ × List ℕ) → Option Note
asked None = None
asked (Some parts) =
    if bytes_eq parts.0 (codes "signal") then option_map note.Signal (signalled parts.1)
    else if not (nat_lt 0 (length parts.1)) then None
    else if bytes_eq parts.0 (codes "start") then Some (note.Start parts.1)
    else if bytes_eq parts.0 (codes "stop") then Some (note.Stop parts.1)
    else None

-- what a line asks for: a line that is too long, or isn't UTF-8, for nothing
abbrev pub note_of : List ℕ → Option Note
note_of line =
    if nat_lt line_limit (length line) || not (is_utf8 line) then None else asked (parted line)

-- what lines ask for, in order
abbrev pub notes_of : List (List ℕ) → List Note
notes_of lines = filter_map note_of lines

-- a line with its line feed
abbrev pub with_feed : List ℕ → List ℕ
with_feed line = line ++ line_feed ∷ []

-- no line feed
abbrev pub IsPlain : List ℕ → Type 0
IsPlain bytes = All (λ byte. byte ≢ 10) bytes
