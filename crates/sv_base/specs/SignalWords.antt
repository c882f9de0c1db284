-- The words for a signal (the manual's chapter on configuration, `stopsignal`): its name with or
-- without SIG, or its number.
use Rattle.std.specs.Prelude.{◌≡◌, List, [], ◌∷◌, ℕ, Bool, ◌||◌, ◌++◌, ◌⊎◌, codes}
use Rattle.std.specs.Str.{bytes_eq, str_to_ascii_lowercase}
use Rattle.sv_base.specs.Names.{signal_name}
use Rattle.sv_base.specs.declared.signal.Signal.{Signal}
use Rattle.sv_base.specs.declared.signal.Signal.TheVariants.{Term, Hup, Int, Quit, Kill, Usr1, Usr2}

-- the seven signals, in the order of the type
abbrev pub all_signals : List Signal
all_signals = Term ∷ Hup ∷ Int ∷ Quit ∷ Kill ∷ Usr1 ∷ Usr2 ∷ []

-- the name of a signal with SIG
abbrev pub signal_long_name : Signal → List ℕ
signal_long_name signal = codes "SIG" ++ signal_name signal

-- the number of a signal, in decimal digits
abbrev pub signal_digits : Signal → List ℕ
signal_digits Term = codes "15"
signal_digits Hup = codes "1"
signal_digits Int = codes "2"
signal_digits Quit = codes "3"
signal_digits Kill = codes "9"
signal_digits Usr1 = codes "10"
signal_digits Usr2 = codes "12"

-- the text is one of the signal's three words, in any case of letters
abbrev pub SpellsSignal : List ℕ → Signal → Type 0
SpellsSignal text signal =
    (str_to_ascii_lowercase text ≡ str_to_ascii_lowercase (signal_name signal))
    ⊎ (str_to_ascii_lowercase text ≡ str_to_ascii_lowercase (signal_long_name signal))
    ⊎ (str_to_ascii_lowercase text ≡ str_to_ascii_lowercase (signal_digits signal))

-- the same as a test of the text in lower case
abbrev pub is_signal_word : List ℕ → Signal → Bool
is_signal_word lower signal =
    bytes_eq lower (str_to_ascii_lowercase (signal_name signal))
    || bytes_eq lower (str_to_ascii_lowercase (signal_long_name signal))
    || bytes_eq lower (str_to_ascii_lowercase (signal_digits signal))
