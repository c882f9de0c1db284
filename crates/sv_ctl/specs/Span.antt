-- Where the options of the client's words end.
use Rattle.std.specs.Prelude.{◌==◌, ◌||◌, ◌&&◌, ◌∷◌, ℕ, suc, List, [], Bool, false, not, codes}
use Rattle.std.specs.Prelude.{take, drop, if◌then◌else◌}
use Rattle.std.specs.Str.{bytes_eq}
use Rattle.sv_base.specs.Ascii.{hyphen}

-- the word begins with a dash
abbrev pub is_option : List ℕ → Bool
is_option [] = false
is_option (byte ∷ bytes) = byte == hyphen

-- the word after this one is its value
abbrev pub takes_value : List ℕ → Bool
takes_value word =
    bytes_eq word (codes "-c") || bytes_eq word (codes "-s") || bytes_eq word (codes "-u")
    || bytes_eq word (codes "-p")

-- how many words belong to the options, of which the first may be a value
abbrev pub options_size : Bool → List (List ℕ) → ℕ
options_size is_value [] = 0
options_size is_value (word ∷ words) =
    if not is_value && not (is_option word) then 0
    else suc (options_size (not is_value && takes_value word) words)

-- the words of the options
abbrev pub options_in : List (List ℕ) → List (List ℕ)
options_in words = take (options_size false words) words

-- the words of the command
abbrev pub command_in : List (List ℕ) → List (List ℕ)
command_in words = drop (options_size false words) words
