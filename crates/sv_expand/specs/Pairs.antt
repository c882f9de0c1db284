-- Pairs NAME=VALUE, as a text is read from left to right (the manual's chapter on the configuration
-- file, `environment`).
use Rattle.std.specs.Prelude.{◌≡◌, ◌==◌, ◌+◌, ℕ, List, [], ◌∷◌, ◌++◌, Bool, ◌&&◌, ◌||◌, Result, Ok}
use Rattle.std.specs.Prelude.{Err, nat_le, encode_utf8, if◌then◌else◌, ⊤}
use Rattle.std.specs.Char.{len_utf8}
use Rattle.std.specs.Str.{chars}
use Rattle.sv_base.specs.Ascii.{carriage_return, comma, double_quote, equals_sign, line_feed}
use Rattle.sv_base.specs.Ascii.{single_quote, space, tab, underscore}
use Rattle.sv_expand.specs.Results.{and_then}
use Rattle.sv_expand.specs.declared.fault.PairFault.{PairFault}
use Rattle.sv_expand.specs.declared.fault.PairFault.TheVariants.{BadPair, OutOfMemory}
use Rattle.sv_expand.specs.declared.pairing.PairsProgress.{PairsProgress}
use Rattle.sv_expand.specs.declared.pairing.PairsProgress.TheVariants.{Before, Name, Equals}
use Rattle.sv_expand.specs.declared.pairing.PairsProgress.TheVariants.{BeforeValue, Bare}
use Rattle.sv_expand.specs.declared.pairing.PairsProgress.TheVariants.{Single, Double, Closed}

-- what was read so far: the pairs that are over; of the one that is going on its name, its value,
-- the white space that may be the value's end, and the place of its first byte; and where that
-- leaves us
pub record Reached : Type 0 where
  pub pairs : List (List ℕ × List ℕ)
  pub name : List ℕ
  pub value : List ℕ
  pub gap : List ℕ
  pub start : ℕ
  pub place : PairsProgress

-- a space, a tab, CR or a line feed
abbrev pub is_white : ℕ → Bool
is_white c = (c == space) || ((c == tab) || ((c == carriage_return) || (c == line_feed)))

-- a letter, a digit or `_`
abbrev pub is_name_char : ℕ → Bool
is_name_char c =
    (nat_le 97 c && nat_le c 122)
    || ((nat_le 65 c && nat_le c 90) || ((nat_le 48 c && nat_le c 57) || (c == underscore)))

-- a double or a single quote
abbrev pub is_quote : ℕ → Bool
is_quote c = (c == double_quote) || (c == single_quote)

-- before the first character
abbrev pub at_start : Reached
at_start = record { pairs = []; name = []; value = []; gap = []; start = 0; place = Before }

-- the same, at another place of the scan
abbrev pub moved : PairsProgress → Reached → Reached
moved place reached = record reached { place = place }

-- a pair begins
abbrev pub begun : ℕ → ℕ → Reached → Reached
begun at c reached = record {
  pairs = reached.pairs;
  name = encode_utf8 c;
  value = [];
  gap = [];
  start = at;
  place = Name;
}

-- a character of the name
abbrev pub with_name : ℕ → Reached → Reached
with_name c reached = record reached { name = reached.name ++ encode_utf8 c }

-- a character of a quoted value
abbrev pub with_quoted : ℕ → Reached → Reached
with_quoted c reached = record reached { value = reached.value ++ encode_utf8 c }

-- white space in a bare value counts where something follows it
abbrev pub with_gap : ℕ → Reached → Reached
with_gap c reached = record reached { gap = reached.gap ++ encode_utf8 c }

-- a character of a bare value, after the white space that now counts
abbrev pub with_bare : ℕ → Reached → Reached
with_bare c reached =
    record reached
    { value = (reached.value ++ reached.gap) ++ encode_utf8 c; gap = []; place = Bare }

-- the pair is over
abbrev pub ended : Reached → Reached
ended reached = record {
  pairs = reached.pairs ++ (reached.name, reached.value) ∷ [];
  name = [];
  value = [];
  gap = [];
  start = reached.start;
  place = Before;
}

-- in a bare value, but for white space: a comma ends it, and no quote stands in it
abbrev pub in_bare : ℕ → Reached → Result Reached PairFault
in_bare c reached =
    if c == comma then Ok (ended reached)
    else if is_quote c then Err (BadPair reached.start)
    else Ok (with_bare c reached)

-- a character more, by where it stands
abbrev pub after_at : PairsProgress → ℕ → ℕ → Reached → Result Reached PairFault
after_at Before at c reached =
    if is_white c then Ok reached
    else if is_name_char c then Ok (begun at c reached)
    else Err (BadPair at)
after_at Name at c reached =
    if c == equals_sign then Ok (moved Equals reached)
    else if is_name_char c then Ok (with_name c reached)
    else Err (BadPair reached.start)
after_at Equals at c reached =
    if c == double_quote then Ok (moved Double reached)
    else if c == single_quote then Ok (moved Single reached)
    else if is_white c then Ok (moved BeforeValue reached)
    else in_bare c reached
after_at BeforeValue at c reached = if is_white c then Ok reached else in_bare c reached
after_at Bare at c reached = if is_white c then Ok (with_gap c reached) else in_bare c reached
after_at Single at c reached =
    if c == single_quote then Ok (moved Closed reached) else Ok (with_quoted c reached)
after_at Double at c reached =
    if c == double_quote then Ok (moved Closed reached) else Ok (with_quoted c reached)
after_at Closed at c reached =
    if is_white c then Ok reached
    else if c == comma then Ok (ended reached)
    else Err (BadPair reached.start)

-- the same, by where the reading has come
abbrev pub after : ℕ → ℕ → Reached → Result Reached PairFault
after at c reached = after_at reached.place at c reached

-- the characters in turn, of which the first stands at this place
abbrev pub after_all : ℕ → List ℕ → Reached → Result Reached PairFault
after_all at [] reached = Ok reached
after_all at (c ∷ cs) reached =
    and_then (after at c reached) (λ next. after_all (at + len_utf8 c) cs next)

-- the pairs where the text ends: a last one may be empty, none ends in its name or in quotes
abbrev pub closed_at : PairsProgress → Reached → Result (List (List ℕ × List ℕ)) PairFault
closed_at Before reached = Ok reached.pairs
closed_at Name reached = Err (BadPair reached.start)
closed_at Single reached = Err (BadPair reached.start)
closed_at Double reached = Err (BadPair reached.start)
closed_at place reached = Ok (reached.pairs ++ (reached.name, reached.value) ∷ [])

-- the same, by where the reading has come
abbrev pub closed : Reached → Result (List (List ℕ × List ℕ)) PairFault
closed reached = closed_at reached.place reached

-- the pairs of a text, or the place of the first one that isn't well formed
abbrev pub pairs_of : List ℕ → Result (List (List ℕ × List ℕ)) PairFault
pairs_of text = and_then (after_all 0 (chars text) at_start) closed

-- a fault is the one that the text has; running out of memory is always allowed
abbrev pub IsFault : {A : Type 0} → PairFault → Result A PairFault → Type 0
IsFault OutOfMemory read = ⊤
IsFault fault read = read ≡ Err fault
