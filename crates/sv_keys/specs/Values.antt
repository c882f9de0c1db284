-- What the texts of values mean, one definition for each type of key.
use Rattle.std.specs.Prelude.{◌==◌, ◌-◌, ◌+◌, ◌*◌, ◌∷◌, ◌++◌, ℕ, ℤ, pos, negsuc, List, [], Bool}
use Rattle.std.specs.Prelude.{true, false, ◌&&◌, Option, Some, None, Result, Ok, Err, nat_le, take}
use Rattle.std.specs.Prelude.{drop, codes, if◌then◌else◌}
use Rattle.std.specs.List.{list_all, find}
use Rattle.std.specs.Char.{is_ascii_digit}
use Rattle.std.specs.Option.{option_map}
use Rattle.std.specs.Str.{bytes_eq, str_to_ascii_lowercase}
use Rattle.hex.specs.Hex.{decode_sized}
use Rattle.hex.specs.declared.error.FromHexError.{FromHexError}
use Rattle.sv_base.specs.Ascii.{hyphen, plus_sign}
use Rattle.sv_base.specs.KindNames.{kind_name, all_kinds}
use Rattle.sv_base.specs.SignalWords.{is_signal_word, all_signals}
use Rattle.sv_base.specs.SizeText.{size_of}
use Rattle.sv_base.specs.TruthWords.{truth_word}
use Rattle.sv_base.specs.declared.config.Password.{Password}
use Rattle.sv_base.specs.declared.config.Password.TheVariants.{Plain, Sha}
use Rattle.sv_base.specs.declared.config.Password.TheVariants as password
use Rattle.sv_base.specs.declared.config.Place.{Place}
use Rattle.sv_base.specs.declared.config.Place.TheVariants.{Inet}
use Rattle.sv_base.specs.declared.kind.Kind.{Kind}
use Rattle.sv_base.specs.declared.signal.Signal.{Signal}
use Rattle.sv_base.specs.declared.state.Autorestart.{Autorestart}
use Rattle.sv_base.specs.declared.state.Autorestart.TheVariants.{Never, Unexpected, Always}
use Rattle.sv_base.specs.declared.state.Level.{Level}
use Rattle.sv_base.specs.declared.state.Level.TheVariants.{Blather, Trace, Debug, Info, Warn, Error}
use Rattle.sv_base.specs.declared.state.Level.TheVariants.{Critical}
use Rattle.sv_keys.specs.Cuts.{is_empty, parts_of, before_last_colon, behind_last_colon}
use Rattle.sv_keys.specs.declared.values.LogFile.{LogFile}
use Rattle.sv_keys.specs.declared.values.LogFile.TheVariants.{Auto, Nowhere, Named}
use Rattle.sv_expand.specs.Pairs.{pairs_of}
use Rattle.sv_expand.specs.declared.fault.PairFault.{PairFault}

-- any text
abbrev pub text_of : List ℕ → Option (List ℕ)
text_of text = Some text

-- the number that further decimal digits write after a number, where it is at most so much
abbrev pub digits_from : ℕ → ℕ → List ℕ → Option ℕ
digits_from most number [] = Some number
digits_from most number (digit ∷ digits) =
    if is_ascii_digit digit && nat_le (10 * number + (digit - 48)) most
    then digits_from most (10 * number + (digit - 48)) digits
    else None

-- decimal digits alone, at least one
abbrev pub number_of : ℕ → List ℕ → Option ℕ
number_of most [] = None
number_of most (digit ∷ digits) = digits_from most 0 (digit ∷ digits)

-- a number that is no less
abbrev pub at_least : ℕ → Option ℕ → Option ℕ
at_least least None = None
at_least least (Some number) = if nat_le least number then Some number else None

-- a number within limits
abbrev pub number_in : ℕ → ℕ → List ℕ → Option ℕ
number_in least most text = at_least least (number_of most text)

-- a number that is no more
abbrev pub at_most : ℕ → Option ℕ → Option ℕ
at_most most None = None
at_most most (Some number) = if nat_le number most then Some number else None

-- a size within a limit
abbrev pub size_in : ℕ → List ℕ → Option ℕ
size_in most text = at_most most (size_of text)

-- a number with a minus before it
abbrev pub negated : ℕ → ℤ
negated number = if number == 0 then pos 0 else negsuc (number - 1)

-- a number of 32 bits with or without a sign before it
abbrev pub signed_of : List ℕ → Option ℤ
signed_of [] = None
signed_of (b ∷ bs) =
    if b == hyphen then option_map negated (number_of 2147483648 bs)
    else if b == plus_sign then option_map pos (number_of 2147483647 bs)
    else option_map pos (number_of 2147483647 (b ∷ bs))

-- yes or no
abbrev pub truth_of : List ℕ → Option Bool
truth_of text = truth_word (str_to_ascii_lowercase text)

-- only no
abbrev pub only_false : Option Bool → Option Bool
only_false (Some false) = Some false
only_false other = None

-- no, in any of its words
abbrev pub false_of : List ℕ → Option Bool
false_of text = only_false (truth_of text)

-- yes and no as a rule of starting again
abbrev pub restart_by : Option Bool → Option Autorestart
restart_by None = None
restart_by (Some true) = Some Always
restart_by (Some false) = Some Never

-- yes, no, or `unexpected` in any case of letters
abbrev pub autorestart_of : List ℕ → Option Autorestart
autorestart_of text =
    if bytes_eq (str_to_ascii_lowercase text) (codes "unexpected") then Some Unexpected
    else restart_by (truth_of text)

-- the signal that has this word
abbrev pub signal_of : List ℕ → Option Signal
signal_of text = find (is_signal_word (str_to_ascii_lowercase text)) all_signals

-- the event type of this name
abbrev pub kind_of : List ℕ → Option Kind
kind_of text = find (λ kind. bytes_eq (kind_name kind) text) all_kinds

-- the second step, where the first gives a value
abbrev pub if_some : {A B : Type 0} → Option A → (A → Option B) → Option B
if_some None f = None
if_some (Some x) f = f x

-- each of these texts read in turn, after the values that were read before
abbrev pub each_from : {T : Type 0} → (List ℕ → Option T) → List T → List (List ℕ) → Option (List T)
each_from read done [] = Some done
each_from read done (text ∷ texts) =
    if_some (read text) (λ value. each_from read (done ++ value ∷ []) texts)

-- exit codes with commas; the empty text has none
abbrev pub codes_of : List ℕ → Option (List ℕ)
codes_of text = if is_empty text then Some [] else each_from (number_in 0 255) [] (parts_of text)

-- event types with commas
abbrev pub kinds_of : List ℕ → Option (List Kind)
kinds_of text = each_from kind_of [] (parts_of text)

-- a path is a text that isn't empty
abbrev pub path_of : List ℕ → Option (List ℕ)
path_of text = if is_empty text then None else Some text

-- programs with commas, of which none is empty
abbrev pub programs_of : List ℕ → Option (List (List ℕ))
programs_of text = each_from path_of [] (parts_of text)

-- AUTO, NONE, in any case of letters, or a path
abbrev pub log_file_of : List ℕ → Option LogFile
log_file_of text =
    if is_empty text then None
    else if bytes_eq (str_to_ascii_lowercase text) (codes "auto") then Some Auto
    else if bytes_eq (str_to_ascii_lowercase text) (codes "none") then Some Nowhere
    else Some (Named text)

-- the main log: NONE as it stands, or a path
abbrev pub main_file_of : List ℕ → Option (Option (List ℕ))
main_file_of text =
    if is_empty text then None else if bytes_eq text (codes "NONE") then Some None
    else Some (Some text)

-- a digit below 8
abbrev pub is_octal : ℕ → Bool
is_octal b = nat_le 48 b && nat_le b 55

-- any number of octal digits
abbrev pub umask_of : List ℕ → Option (List ℕ)
umask_of text = if list_all is_octal text then Some text else None

-- a level by its name
abbrev pub level_of : List ℕ → Option Level
level_of text =
    if bytes_eq text (codes "critical") then Some Critical
    else if bytes_eq text (codes "error") then Some Error
    else if bytes_eq text (codes "warn") then Some Warn
    else if bytes_eq text (codes "info") then Some Info
    else if bytes_eq text (codes "debug") then Some Debug
    else if bytes_eq text (codes "trace") then Some Trace
    else if bytes_eq text (codes "blather") then Some Blather
    else None

-- the pairs, where the text is some
abbrev pub if_pairs : Result (List (List ℕ × List ℕ)) PairFault → Option (List (List ℕ × List ℕ))
if_pairs (Ok pairs) = Some pairs
if_pairs (Err fault) = None

-- pairs of names and values
abbrev pub environment_of : List ℕ → Option (List (List ℕ × List ℕ))
environment_of text = if_pairs (pairs_of text)

-- no host, and `*`, are all interfaces
abbrev pub inet_place : List ℕ → Option ℕ → Option Place
inet_place host None = None
inet_place host (Some port) = Some (Inet (if bytes_eq host (codes "*") then [] else host) port)

-- PORT, :PORT, *:PORT or HOST:PORT
abbrev pub inet_of : List ℕ → Option Place
inet_of text = inet_place (before_last_colon text) (number_in 1 65535 (behind_last_colon text))

-- the digest that was decoded
abbrev pub stored_digest : Result (List ℕ) FromHexError → Option Password
stored_digest (Ok bytes) = Some (Sha bytes)
stored_digest (Err fault) = None

-- no password, {SHA} and 40 hexadecimal digits, or the password itself
abbrev pub password_of : List ℕ → Option Password
password_of text =
    if is_empty text then Some password.None
    else if bytes_eq (take 5 text) (codes "{SHA}")
    then stored_digest (decode_sized (drop 5 text) 20)
    else Some (Plain text)
