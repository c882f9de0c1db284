-- Expansions in a value, as a text is read from left to right (the manual's chapter on the
-- configuration file).
use Rattle.std.specs.Prelude.{◌≡◌, ◌==◌, ◌+◌, ◌-◌, ℕ, List, [], ◌∷◌, ◌++◌, Bool, ◌&&◌, Option, Some}
use Rattle.std.specs.Prelude.{None, Result, Ok, Err, nat_le, encode_utf8, if◌then◌else◌, ⊤}
use Rattle.std.specs.Char.{len_utf8}
use Rattle.std.specs.Str.{chars}
use Rattle.sv_base.specs.Ascii.{digit_zero, left_parenthesis, letter_d, letter_s, percent_sign}
use Rattle.sv_base.specs.Ascii.{right_parenthesis, space}
use Rattle.sv_expand.specs.Results.{and_then}
use Rattle.sv_expand.specs.Values.{value_of, plain_value, number_value}
use Rattle.sv_expand.specs.declared.fault.ExpandFault.{ExpandFault}
use Rattle.sv_expand.specs.declared.fault.ExpandFault.TheVariants.{Unknown, BadForm, OutOfMemory}
use Rattle.sv_expand.specs.declared.names.Names.{Names}
use Rattle.sv_expand.specs.declared.expanding.ExpansionProgress.{ExpansionProgress}
use Rattle.sv_expand.specs.declared.expanding.ExpansionProgress.TheVariants.{Plain, Percent}
use Rattle.sv_expand.specs.declared.expanding.ExpansionProgress.TheVariants.{Name, AfterName, Zero}
use Rattle.sv_expand.specs.declared.expanding.ExpansionProgress.TheVariants.{Wide}

-- the pairs stand before the numbers
abbrev pub text_told : Names → List ℕ → Option (List ℕ)
text_told names name = plain_value (value_of name names.pairs) (value_of name names.numbers)

-- the number of a name, printed in so many places
abbrev pub number_told : Names → ℕ → ℕ → List ℕ → Option (List ℕ)
number_told names filler width name =
    number_value filler width (value_of name names.pairs) (value_of name names.numbers)

-- what was read so far: the expansion, the name of the form that is going on and the place of its
-- percent sign, and where that leaves us
pub record Reached : Type 0 where
  pub told : List ℕ
  pub name : List ℕ
  pub start : ℕ
  pub place : ExpansionProgress

-- before the first character
abbrev pub at_start : Reached
at_start = record { told = []; name = []; start = 0; place = Plain }

-- the same, at another place of the scan
abbrev pub moved : ExpansionProgress → Reached → Reached
moved place reached = record reached { place = place }

-- a character that stands for itself
abbrev pub with_char : ℕ → Reached → Reached
with_char c reached = record reached { told = reached.told ++ encode_utf8 c; place = Plain }

-- a percent sign: a form begins
abbrev pub begun : ℕ → Reached → Reached
begun at reached = record { told = reached.told; name = []; start = at; place = Percent }

-- a character of the form's name
abbrev pub with_name : ℕ → Reached → Reached
with_name c reached = record reached { name = reached.name ++ encode_utf8 c }

-- a form ends, and gives its value
abbrev pub with_value : Option (List ℕ) → Reached → Result Reached ExpandFault
with_value (Some value) reached =
    Ok (record reached { told = reached.told ++ value; place = Plain })
with_value None reached = Err (Unknown reached.name)

-- the percent sign of the form that goes on begins none
abbrev pub bad_form : Reached → Result Reached ExpandFault
bad_form reached = Err (BadForm reached.start)

-- a digit from 1 to 9
abbrev pub is_width : ℕ → Bool
is_width c = nat_le 49 c && nat_le c 57

-- a second percent sign, or the bracket before a name
abbrev pub behind_percent : ℕ → Reached → Result Reached ExpandFault
behind_percent c reached =
    if c == percent_sign then Ok (with_char percent_sign reached)
    else if c == left_parenthesis then Ok (moved Name reached)
    else bad_form reached

-- `s`, `d`, or the places of a number, which are filled with zeros where a zero stands before them
abbrev pub behind_name : Names → ℕ → Reached → Result Reached ExpandFault
behind_name names c reached =
    if c == letter_s then with_value (text_told names reached.name) reached
    else if c == letter_d then with_value (number_told names space 0 reached.name) reached
    else if c == digit_zero then Ok (moved Zero reached)
    else if is_width c then Ok (moved (Wide 32 (c - 48)) reached)
    else bad_form reached

-- a character more, by where it stands
abbrev pub after_at : Names → ExpansionProgress → ℕ → ℕ → Reached → Result Reached ExpandFault
after_at names Plain at c reached =
    if c == percent_sign then Ok (begun at reached) else Ok (with_char c reached)
after_at names Percent at c reached = behind_percent c reached
after_at names Name at c reached =
    if c == right_parenthesis then Ok (moved AfterName reached) else Ok (with_name c reached)
after_at names AfterName at c reached = behind_name names c reached
after_at names Zero at c reached =
    if is_width c then Ok (moved (Wide 48 (c - 48)) reached) else bad_form reached
after_at names (Wide filler width) at c reached =
    if c == letter_d then with_value (number_told names filler width reached.name) reached
    else bad_form reached

-- the same, by where the reading has come
abbrev pub after : Names → ℕ → ℕ → Reached → Result Reached ExpandFault
after names at c reached = after_at names reached.place at c reached

-- the characters in turn, of which the first stands at this place
abbrev pub after_all : Names → ℕ → List ℕ → Reached → Result Reached ExpandFault
after_all names at [] reached = Ok reached
after_all names at (c ∷ cs) reached =
    and_then (after names at c reached) (λ next. after_all names (at + len_utf8 c) cs next)

-- the expansion where the text ends: not in a form
abbrev pub closed_at : ExpansionProgress → Reached → Result (List ℕ) ExpandFault
closed_at Plain reached = Ok reached.told
closed_at place reached = Err (BadForm reached.start)

-- the same, by where the reading has come
abbrev pub closed : Reached → Result (List ℕ) ExpandFault
closed reached = closed_at reached.place reached

-- the expansion of a text, or its leftmost fault
abbrev pub expansion_of : Names → List ℕ → Result (List ℕ) ExpandFault
expansion_of names text = and_then (after_all names 0 (chars text) at_start) closed

-- a fault is the one that the text has; running out of memory is always allowed
abbrev pub IsFault : {A : Type 0} → ExpandFault → Result A ExpandFault → Type 0
IsFault OutOfMemory read = ⊤
IsFault fault read = read ≡ Err fault
