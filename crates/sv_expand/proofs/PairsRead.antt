-- How pairs are read, and where a bad pair stands.
use Rattle.std.proofs.Common.{◌≡◌, ◌≢◌, ◌+◌, ◌==◌, ℕ, List, [], ◌∷◌, ◌++◌, Bool, true, false, not, ◌||◌, refl, ◌∙◌, ap, sym, subst, inl, inr, append_assoc, append-nil, arith}
use Rattle.std.proofs.lemmas.Bool.{and_parts}
use Rattle.std.proofs.lemmas.Bool.Decides.{nat_tests}
use Rattle.std.specs.Prelude.{Result, Ok, Err, encode_utf8, encode_utf8_all, if◌then◌else◌}
use Rattle.std.specs.Char.{len_utf8}
use Rattle.std.specs.List.{list_all}
use Rattle.sv_expand.proofs.Choices.{cond_by, eq_true, not_true, or_false, or_true, both_ways}
use Rattle.sv_expand.proofs.Sizes.{size, size_append, size_cons}
use Rattle.sv_expand.specs.PairCuts.{Value, value_written, is_blank, ends_white, IsValue, value_told}
use Rattle.sv_expand.specs.PairCuts.Value.{Quoted, Bare}
use Rattle.sv_expand.specs.Results.{and_then}
use Rattle.sv_expand.specs.Pairs.{Reached, is_white, is_name_char, is_quote, moved, begun, with_name, with_quoted, with_gap, with_bare, ended, in_bare, after, after_at, after_all, closed}
use Rattle.sv_expand.specs.declared.fault.PairFault.{PairFault}
use Rattle.sv_expand.specs.declared.fault.PairFault.TheVariants.{BadPair}
use Rattle.sv_expand.specs.declared.pairing.PairsProgress.{PairsProgress}
use Rattle.sv_expand.specs.declared.pairing.PairsProgress.TheVariants as here

abbrev pub Told : Type 0
Told = List (List ℕ × List ℕ)

abbrev pub reached : Told → List ℕ → List ℕ → List ℕ → ℕ → PairsProgress → Reached
reached pairs name value gap start place = record { pairs = pairs; name = name; value = value; gap = gap; start = start; place = place }

-- what the rest of a text gives
abbrev pub gives : ℕ → List ℕ → Reached → Result Told PairFault
gives at cs r = and_then (after_all at cs r) closed

abbrev pub goes_on : ℕ → List ℕ → Result Reached PairFault → Result Told PairFault
goes_on at cs res = and_then (and_then res (λ next. after_all at cs next)) closed

-- characters

pub name_not : (c : ℕ) → is_name_char c ≡ true → (is_white c ≡ false) × ((c == 61) ≡ false)
name_not c is = (grind (arith, nat_tests), grind (arith, nat_tests))

pub white_not : (c : ℕ) → is_white c ≡ true → ((c == 34) ≡ false) × ((c == 39) ≡ false) × ((c == 44) ≡ false) × (is_quote c ≡ false)
white_not c is = (grind (arith, nat_tests), grind (arith, nat_tests), grind (arith, nat_tests), grind (arith, nat_tests))

-- a place after one more character
pub one_more : (at c : ℕ) (cs : List ℕ) → at + len_utf8 c + size cs ≡ at + size (c ∷ cs)
one_more at c cs = omega (arith, size_cons c (len_utf8 c) cs refl)

pub moved_to : (at there : ℕ) (cs : List ℕ) (r : Reached) → at ≡ there → gives at cs r ≡ gives there cs r
moved_to at there cs r e = ap (λ n. gives n cs r) e

-- between pairs

pub before_any : (cs : List ℕ) (at : ℕ) (pairs : Told) (n v g m w h : List ℕ) (start begin : ℕ)
    → gives at cs (reached pairs n v g start here.Before) ≡ gives at cs (reached pairs m w h begin here.Before)
before_any [] at pairs n v g m w h start begin = refl
before_any (c ∷ cs) at pairs n v g m w h start begin =
    let r = reached pairs n v g start here.Before in
    let s = reached pairs m w h begin here.Before in
    let after_r = if is_name_char c then Ok (begun at c r) else Err (BadPair at) in
    cond_by (λ (res : Result Reached PairFault). goes_on (at + len_utf8 c) cs res ≡ gives at (c ∷ cs) s) (is_white c) (Ok r) after_r
    (λ is. before_any cs (at + len_utf8 c) pairs n v g m w h start begin
    ∙ sym (ap (λ (b : Bool). goes_on (at + len_utf8 c) cs (if b then Ok s else if is_name_char c then Ok (begun at c s) else Err (BadPair at))) is))
    (λ is. sym (ap (λ (b : Bool). goes_on (at + len_utf8 c) cs (if b then Ok s else if is_name_char c then Ok (begun at c s) else Err (BadPair at))) is))

pub blank_read : (white rest : List ℕ) (at : ℕ) (r : Reached) → is_blank white ≡ true → r.place ≡ here.Before
    → gives at (white ++ rest) r ≡ gives (at + size white) rest r
blank_read [] rest at r is place = moved_to at (at + 0) rest r (omega arith)
blank_read (c ∷ white) rest at r is place =
    let both = and_parts (is_white c) (is_blank white) is in
    ap (λ p. goes_on (at + len_utf8 c) (white ++ rest) (after_at p at c r)) place
    ∙ ap (λ (b : Bool). goes_on (at + len_utf8 c) (white ++ rest) (if b then Ok r else if is_name_char c then Ok (begun at c r) else Err (BadPair at))) both.0
    ∙ blank_read white rest (at + len_utf8 c) r both.1 place
    ∙ moved_to (at + len_utf8 c + size white) (at + size (c ∷ white)) rest r (one_more at c white)

-- a name

name_read : (cs rest : List ℕ) (at : ℕ) (pairs : Told) (name : List ℕ) (start : ℕ) → list_all is_name_char cs ≡ true
    → gives at (cs ++ rest) (reached pairs name [] [] start here.Name) ≡ gives (at + size cs) rest (reached pairs (name ++ encode_utf8_all cs) [] [] start here.Name)
name_read [] rest at pairs name start is =
    moved_to at (at + 0) rest (reached pairs name [] [] start here.Name) (omega arith)
    ∙ ap (λ n. gives (at + 0) rest (reached pairs n [] [] start here.Name)) (sym (append-nil name))
name_read (c ∷ cs) rest at pairs name start is =
    let both = and_parts (is_name_char c) (list_all is_name_char cs) is in
    let r = reached pairs name [] [] start here.Name in
    ap (λ (b : Bool). goes_on (at + len_utf8 c) (cs ++ rest) (if b then Ok (moved here.Equals r) else if is_name_char c then Ok (with_name c r) else Err (BadPair start))) (name_not c both.0).1
    ∙ ap (λ (b : Bool). goes_on (at + len_utf8 c) (cs ++ rest) (if b then Ok (with_name c r) else Err (BadPair start))) both.0
    ∙ name_read cs rest (at + len_utf8 c) pairs (name ++ encode_utf8 c) start both.1
    ∙ ap (λ n. gives (at + len_utf8 c + size cs) rest (reached pairs n [] [] start here.Name)) (append_assoc name (encode_utf8 c) (encode_utf8_all cs))
    ∙ moved_to (at + len_utf8 c + size cs) (at + size (c ∷ cs)) rest (reached pairs (name ++ encode_utf8_all (c ∷ cs)) [] [] start here.Name) (one_more at c cs)

pub named : (name rest : List ℕ) (at : ℕ) (pairs : Told) (n v g : List ℕ) (start : ℕ) → name ≢ [] → list_all is_name_char name ≡ true
    → gives at (name ++ 61 ∷ rest) (reached pairs n v g start here.Before)
    ≡ gives (at + size name + 1) rest (reached pairs (encode_utf8_all name) [] [] at here.Equals)
named [] rest at pairs n v g start some is = absurd (some refl)
named (c ∷ cs) rest at pairs n v g start some is =
    let both = and_parts (is_name_char c) (list_all is_name_char cs) is in
    let r = reached pairs n v g start here.Before in
    ap (λ (b : Bool). goes_on (at + len_utf8 c) (cs ++ 61 ∷ rest) (if b then Ok r else if is_name_char c then Ok (begun at c r) else Err (BadPair at))) (name_not c both.0).0
    ∙ ap (λ (b : Bool). goes_on (at + len_utf8 c) (cs ++ 61 ∷ rest) (if b then Ok (begun at c r) else Err (BadPair at))) both.0
    ∙ name_read cs (61 ∷ rest) (at + len_utf8 c) pairs (encode_utf8 c) at both.1
    ∙ moved_to (at + len_utf8 c + size cs + 1) (at + size (c ∷ cs) + 1) rest (reached pairs (encode_utf8_all (c ∷ cs)) [] [] at here.Equals)
    (ap (λ n. n + 1) (one_more at c cs))

-- where a pair may be over
abbrev pub IsOver : PairsProgress → Type 0
IsOver here.Equals = Unit {0}
IsOver here.BeforeValue = Unit {0}
IsOver here.Bare = Unit {0}
IsOver here.Closed = Unit {0}
IsOver place = ⊥

pub over_end : (pairs : Told) (name value gap : List ℕ) (start : ℕ) (place : PairsProgress) → IsOver place
    → closed (reached pairs name value gap start place) ≡ Ok (pairs ++ (name, value) ∷ [])
over_end pairs name value gap start here.Equals is = refl
over_end pairs name value gap start here.BeforeValue is = refl
over_end pairs name value gap start here.Bare is = refl
over_end pairs name value gap start here.Closed is = refl
over_end pairs name value gap start here.Before is = absurd is
over_end pairs name value gap start here.Name is = absurd is
over_end pairs name value gap start here.Single is = absurd is
over_end pairs name value gap start here.Double is = absurd is

pub over_comma : (at : ℕ) (more : List ℕ) (pairs : Told) (name value gap : List ℕ) (start : ℕ) (place : PairsProgress) → IsOver place
    → gives at (44 ∷ more) (reached pairs name value gap start place) ≡ gives (at + 1) more (reached (pairs ++ (name, value) ∷ []) [] [] [] start here.Before)
over_comma at more pairs name value gap start here.Equals is = refl
over_comma at more pairs name value gap start here.BeforeValue is = refl
over_comma at more pairs name value gap start here.Bare is = refl
over_comma at more pairs name value gap start here.Closed is = refl
over_comma at more pairs name value gap start here.Before is = absurd is
over_comma at more pairs name value gap start here.Name is = absurd is
over_comma at more pairs name value gap start here.Single is = absurd is
over_comma at more pairs name value gap start here.Double is = absurd is

-- where a value is read, it is told
pub record ValueRead (from : Result Told PairFault) (there : ℕ) (rest : List ℕ) (pairs : Told) (name value : List ℕ) (start : ℕ) : Type 0 where
  pub at : ℕ
  pub gap : List ℕ
  pub place : PairsProgress
  pub same : from ≡ gives at rest (reached pairs name value gap start place)
  pub at_is : at ≡ there
  pub over : IsOver place

-- a value in quotes

abbrev QuoteStep : ℕ → PairsProgress → Type 0
QuoteStep quote place =
    (at c : ℕ) (pairs : Told) (name v gap : List ℕ) (start : ℕ) → (c == quote) ≡ false
    → after at c (reached pairs name v gap start place) ≡ Ok (reached pairs name (v ++ encode_utf8 c) gap start place)

in_quotes : (quote : ℕ) (place : PairsProgress) → QuoteStep quote place → (cs rest : List ℕ) (at : ℕ) (pairs : Told) (name v gap : List ℕ) (start : ℕ)
    → list_all (λ c. not (c == quote)) cs ≡ true
    → gives at (cs ++ rest) (reached pairs name v gap start place) ≡ gives (at + size cs) rest (reached pairs name (v ++ encode_utf8_all cs) gap start place)
in_quotes quote place one [] rest at pairs name v gap start is =
    moved_to at (at + 0) rest (reached pairs name v gap start place) (omega arith)
    ∙ ap (λ n. gives (at + 0) rest (reached pairs name n gap start place)) (sym (append-nil v))
in_quotes quote place one (c ∷ cs) rest at pairs name v gap start is =
    let both = and_parts (not (c == quote)) (list_all (λ c. not (c == quote)) cs) is in
    ap (goes_on (at + len_utf8 c) (cs ++ rest)) (one at c pairs name v gap start (not_true (c == quote) both.0))
    ∙ in_quotes quote place one cs rest (at + len_utf8 c) pairs name (v ++ encode_utf8 c) gap start both.1
    ∙ ap (λ n. gives (at + len_utf8 c + size cs) rest (reached pairs name n gap start place)) (append_assoc v (encode_utf8 c) (encode_utf8_all cs))
    ∙ moved_to (at + len_utf8 c + size cs) (at + size (c ∷ cs)) rest (reached pairs name (v ++ encode_utf8_all (c ∷ cs)) gap start place) (one_more at c cs)

closed_read : (white rest : List ℕ) (at : ℕ) (pairs : Told) (name v gap : List ℕ) (start : ℕ) → is_blank white ≡ true
    → gives at (white ++ rest) (reached pairs name v gap start here.Closed) ≡ gives (at + size white) rest (reached pairs name v gap start here.Closed)
closed_read [] rest at pairs name v gap start is = moved_to at (at + 0) rest (reached pairs name v gap start here.Closed) (omega arith)
closed_read (c ∷ white) rest at pairs name v gap start is =
    let both = and_parts (is_white c) (is_blank white) is in
    let r = reached pairs name v gap start here.Closed in
    ap (λ (b : Bool). goes_on (at + len_utf8 c) (white ++ rest) (if b then Ok r else if c == 44 then Ok (ended r) else Err (BadPair start))) both.0
    ∙ closed_read white rest (at + len_utf8 c) pairs name v gap start both.1
    ∙ moved_to (at + len_utf8 c + size white) (at + size (c ∷ white)) rest r (one_more at c white)

single_step : QuoteStep 39 here.Single
single_step at c pairs name v gap start other =
    ap (λ (b : Bool). if b then Ok (moved here.Closed (reached pairs name v gap start here.Single)) else Ok (with_quoted c (reached pairs name v gap start here.Single))) other

double_step : QuoteStep 34 here.Double
double_step at c pairs name v gap start other =
    ap (λ (b : Bool). if b then Ok (moved here.Closed (reached pairs name v gap start here.Double)) else Ok (with_quoted c (reached pairs name v gap start here.Double))) other

quoted_size : (quote : ℕ) (cs after : List ℕ) → len_utf8 quote ≡ 1 → size (quote ∷ (cs ++ quote ∷ after)) ≡ 2 + (size cs + size after)
quoted_size quote cs after is =
    let first = size_cons quote 1 (cs ++ quote ∷ after) is in
    let middle = size_append cs (quote ∷ after) in
    let last = size_cons quote 1 after is in
    omega (arith, first, middle, last)

quoted_then : (quote : ℕ) (cs after rest : List ℕ) → (quote ∷ (cs ++ quote ∷ after)) ++ rest ≡ quote ∷ (cs ++ quote ∷ (after ++ rest))
quoted_then quote cs after rest = ap (λ more. quote ∷ more) (append_assoc cs (quote ∷ after) rest)

single_read : (cs after rest : List ℕ) (at : ℕ) (pairs : Told) (name : List ℕ) (start : ℕ) → IsValue (Quoted 39 cs after)
    → ValueRead (gives at (value_written (Quoted 39 cs after) ++ rest) (reached pairs name [] [] start here.Equals)) (at + size (value_written (Quoted 39 cs after))) rest
    pairs name (value_told (Quoted 39 cs after)) start
single_read cs after rest at pairs name start is = record {
  at = at + 1 + size cs + 1 + size after;
  gap = [];
  place = here.Closed;
  same = ap (λ all. gives at all (reached pairs name [] [] start here.Equals)) (quoted_then 39 cs after rest)
      ∙ in_quotes 39 here.Single single_step cs (39 ∷ (after ++ rest)) (at + 1) pairs name [] [] start is.1
      ∙ closed_read after rest (at + 1 + size cs + 1) pairs name (encode_utf8_all cs) [] start is.2;
  at_is = omega (arith, quoted_size 39 cs after refl);
  over = tt;
}

double_read : (cs after rest : List ℕ) (at : ℕ) (pairs : Told) (name : List ℕ) (start : ℕ) → IsValue (Quoted 34 cs after)
    → ValueRead (gives at (value_written (Quoted 34 cs after) ++ rest) (reached pairs name [] [] start here.Equals)) (at + size (value_written (Quoted 34 cs after))) rest
    pairs name (value_told (Quoted 34 cs after)) start
double_read cs after rest at pairs name start is = record {
  at = at + 1 + size cs + 1 + size after;
  gap = [];
  place = here.Closed;
  same = ap (λ all. gives at all (reached pairs name [] [] start here.Equals)) (quoted_then 34 cs after rest)
      ∙ in_quotes 34 here.Double double_step cs (34 ∷ (after ++ rest)) (at + 1) pairs name [] [] start is.1
      ∙ closed_read after rest (at + 1 + size cs + 1) pairs name (encode_utf8_all cs) [] start is.2;
  at_is = omega (arith, quoted_size 34 cs after refl);
  over = tt;
}

-- a bare value

abbrev pub is_bare : ℕ → Bool
is_bare c = not ((c == 44) || is_quote c)

led_read : (white rest : List ℕ) (at : ℕ) (pairs : Told) (name : List ℕ) (start : ℕ) → is_blank white ≡ true
    → gives at (white ++ rest) (reached pairs name [] [] start here.BeforeValue) ≡ gives (at + size white) rest (reached pairs name [] [] start here.BeforeValue)
led_read [] rest at pairs name start is = moved_to at (at + 0) rest (reached pairs name [] [] start here.BeforeValue) (omega arith)
led_read (c ∷ white) rest at pairs name start is =
    let both = and_parts (is_white c) (is_blank white) is in
    let r = reached pairs name [] [] start here.BeforeValue in
    ap (λ (b : Bool). goes_on (at + len_utf8 c) (white ++ rest) (if b then Ok r else in_bare c r)) both.0
    ∙ led_read white rest (at + len_utf8 c) pairs name start both.1
    ∙ moved_to (at + len_utf8 c + size white) (at + size (c ∷ white)) rest r (one_more at c white)

abbrev lead_place : List ℕ → PairsProgress
lead_place [] = here.Equals
lead_place (c ∷ cs) = here.BeforeValue

lead_over : (white : List ℕ) → IsOver (lead_place white)
lead_over [] = tt
lead_over (c ∷ cs) = tt

lead_read : (white rest : List ℕ) (at : ℕ) (pairs : Told) (name : List ℕ) (start : ℕ) → is_blank white ≡ true
    → gives at (white ++ rest) (reached pairs name [] [] start here.Equals) ≡ gives (at + size white) rest (reached pairs name [] [] start (lead_place white))
lead_read [] rest at pairs name start is = moved_to at (at + 0) rest (reached pairs name [] [] start here.Equals) (omega arith)
lead_read (c ∷ white) rest at pairs name start is =
    let both = and_parts (is_white c) (is_blank white) is in
    let r = reached pairs name [] [] start here.Equals in
    let no = white_not c both.0 in
    ap (λ (b : Bool). goes_on (at + len_utf8 c) (white ++ rest) (if b then Ok (moved here.Double r) else if c == 39 then Ok (moved here.Single r) else if is_white c then Ok (moved here.BeforeValue r) else in_bare c r)) no.0
    ∙ ap (λ (b : Bool). goes_on (at + len_utf8 c) (white ++ rest) (if b then Ok (moved here.Single r) else if is_white c then Ok (moved here.BeforeValue r) else in_bare c r)) no.1
    ∙ ap (λ (b : Bool). goes_on (at + len_utf8 c) (white ++ rest) (if b then Ok (moved here.BeforeValue r) else in_bare c r)) both.0
    ∙ led_read white rest (at + len_utf8 c) pairs name start both.1
    ∙ moved_to (at + len_utf8 c + size white) (at + size (c ∷ white)) rest (reached pairs name [] [] start here.BeforeValue) (one_more at c white)

bare_one : (c : ℕ) (r : Reached) → is_bare c ≡ true → in_bare c r ≡ Ok (with_bare c r)
bare_one c r is =
    let no = or_false (c == 44) (is_quote c) (not_true ((c == 44) || is_quote c) is) in
    ap (λ (b : Bool). if b then Ok (ended r) else if is_quote c then Err (BadPair r.start) else Ok (with_bare c r)) no.0
    ∙ ap (λ (b : Bool). if b then Err (BadPair r.start) else Ok (with_bare c r)) no.1

first_bare : (white : List ℕ) (c : ℕ) (rest : List ℕ) (at : ℕ) (pairs : Told) (name : List ℕ) (start : ℕ) → is_bare c ≡ true → is_white c ≡ false
    → gives at (c ∷ rest) (reached pairs name [] [] start (lead_place white)) ≡ gives (at + len_utf8 c) rest (reached pairs name (encode_utf8 c) [] start here.Bare)
first_bare [] c rest at pairs name start is other =
    let r = reached pairs name [] [] start here.Equals in
    let no = or_false (c == 44) (is_quote c) (not_true ((c == 44) || is_quote c) is) in
    let quotes = or_false (c == 34) (c == 39) no.1 in
    ap (λ (b : Bool). goes_on (at + len_utf8 c) rest (if b then Ok (moved here.Double r) else if c == 39 then Ok (moved here.Single r) else if is_white c then Ok (moved here.BeforeValue r) else in_bare c r)) quotes.0
    ∙ ap (λ (b : Bool). goes_on (at + len_utf8 c) rest (if b then Ok (moved here.Single r) else if is_white c then Ok (moved here.BeforeValue r) else in_bare c r)) quotes.1
    ∙ ap (λ (b : Bool). goes_on (at + len_utf8 c) rest (if b then Ok (moved here.BeforeValue r) else in_bare c r)) other
    ∙ ap (goes_on (at + len_utf8 c) rest) (bare_one c r is)
first_bare (w ∷ white) c rest at pairs name start is other =
    let r = reached pairs name [] [] start here.BeforeValue in
    ap (λ (b : Bool). goes_on (at + len_utf8 c) rest (if b then Ok r else in_bare c r)) other ∙ ap (goes_on (at + len_utf8 c) rest) (bare_one c r is)

gap_read : (white rest : List ℕ) (at : ℕ) (pairs : Told) (name v gap : List ℕ) (start : ℕ) → is_blank white ≡ true
    → gives at (white ++ rest) (reached pairs name v gap start here.Bare) ≡ gives (at + size white) rest (reached pairs name v (gap ++ encode_utf8_all white) start here.Bare)
gap_read [] rest at pairs name v gap start is =
    moved_to at (at + 0) rest (reached pairs name v gap start here.Bare) (omega arith)
    ∙ ap (λ n. gives (at + 0) rest (reached pairs name v n start here.Bare)) (sym (append-nil gap))
gap_read (c ∷ white) rest at pairs name v gap start is =
    let both = and_parts (is_white c) (is_blank white) is in
    let r = reached pairs name v gap start here.Bare in
    ap (λ (b : Bool). goes_on (at + len_utf8 c) (white ++ rest) (if b then Ok (with_gap c r) else in_bare c r)) both.0
    ∙ gap_read white rest (at + len_utf8 c) pairs name v (gap ++ encode_utf8 c) start both.1
    ∙ ap (λ n. gives (at + len_utf8 c + size white) rest (reached pairs name v n start here.Bare)) (append_assoc gap (encode_utf8 c) (encode_utf8_all white))
    ∙ moved_to (at + len_utf8 c + size white) (at + size (c ∷ white)) rest (reached pairs name v (gap ++ encode_utf8_all (c ∷ white)) start here.Bare) (one_more at c white)

-- no white space is left over where the characters don't end with it
abbrev LeftOver : List ℕ → List ℕ → List ℕ → Type 0
LeftOver gap after [] = after ≡ gap
LeftOver gap after (c ∷ cs) = ends_white (c ∷ cs) ≡ false → after ≡ []

record BareRead (from : Result Told PairFault) (there : ℕ) (rest : List ℕ) (pairs : Told) (name v gap cs : List ℕ) (start : ℕ) : Type 0 where
  at : ℕ
  value : List ℕ
  after : List ℕ
  same : from ≡ gives at rest (reached pairs name value after start here.Bare)
  at_is : at ≡ there
  whole : value ++ after ≡ (v ++ gap) ++ encode_utf8_all cs
  left : LeftOver gap after cs

left_more : (gap other after : List ℕ) (c : ℕ) (cs : List ℕ) → LeftOver other after cs → (is_white c ≡ false → other ≡ []) → LeftOver gap after (c ∷ cs)
left_more gap other after c [] left none = λ e. left ∙ none e
left_more gap other after c (d ∷ cs) left none = left

bare_step : (c : ℕ) (white : Bool) (cs rest : List ℕ) (at : ℕ) (pairs : Told) (name v gap : List ℕ) (start : ℕ) → is_bare c ≡ true → is_white c ≡ white
    → BareRead (gives (at + len_utf8 c) (cs ++ rest) (reached pairs name v (gap ++ encode_utf8 c) start here.Bare)) (at + len_utf8 c + size cs) rest pairs name v (gap ++ encode_utf8 c) cs start
    → BareRead (gives (at + len_utf8 c) (cs ++ rest) (reached pairs name ((v ++ gap) ++ encode_utf8 c) [] start here.Bare)) (at + len_utf8 c + size cs) rest pairs name ((v ++ gap) ++ encode_utf8 c) [] cs start
    → BareRead (gives at ((c ∷ cs) ++ rest) (reached pairs name v gap start here.Bare)) (at + size (c ∷ cs)) rest pairs name v gap (c ∷ cs) start
bare_step c true cs rest at pairs name v gap start is white gapped barely =
    let r = reached pairs name v gap start here.Bare in
    record {
      at = gapped.at;
      value = gapped.value;
      after = gapped.after;
      same = ap (λ (b : Bool). goes_on (at + len_utf8 c) (cs ++ rest) (if b then Ok (with_gap c r) else in_bare c r)) white ∙ gapped.same;
      at_is = gapped.at_is ∙ one_more at c cs;
      whole = gapped.whole ∙ ap (λ all. all ++ encode_utf8_all cs) (sym (append_assoc v gap (encode_utf8 c)))
          ∙ append_assoc (v ++ gap) (encode_utf8 c) (encode_utf8_all cs);
      left = left_more gap (gap ++ encode_utf8 c) gapped.after c cs gapped.left (λ other. absurd (both_ways (is_white c) white other));
    }
bare_step c false cs rest at pairs name v gap start is white gapped barely =
    let r = reached pairs name v gap start here.Bare in
    record {
      at = barely.at;
      value = barely.value;
      after = barely.after;
      same = ap (λ (b : Bool). goes_on (at + len_utf8 c) (cs ++ rest) (if b then Ok (with_gap c r) else in_bare c r)) white
          ∙ ap (goes_on (at + len_utf8 c) (cs ++ rest)) (bare_one c r is) ∙ barely.same;
      at_is = barely.at_is ∙ one_more at c cs;
      whole = barely.whole ∙ ap (λ all. all ++ encode_utf8_all cs) (append-nil ((v ++ gap) ++ encode_utf8 c))
          ∙ append_assoc (v ++ gap) (encode_utf8 c) (encode_utf8_all cs);
      left = left_more gap [] barely.after c cs barely.left (λ other. refl);
    }

bare_read : (cs rest : List ℕ) (at : ℕ) (pairs : Told) (name v gap : List ℕ) (start : ℕ) → list_all is_bare cs ≡ true
    → BareRead (gives at (cs ++ rest) (reached pairs name v gap start here.Bare)) (at + size cs) rest pairs name v gap cs start
bare_read [] rest at pairs name v gap start is =
    record { at = at; value = v; after = gap; same = refl; at_is = omega arith; whole = sym (append-nil (v ++ gap)); left = refl }
bare_read (c ∷ cs) rest at pairs name v gap start is =
    let both = and_parts (is_bare c) (list_all is_bare cs) is in
    let r = reached pairs name v gap start here.Bare in
    bare_step c (is_white c) cs rest at pairs name v gap start both.0 refl
    (bare_read cs rest (at + len_utf8 c) pairs name v (gap ++ encode_utf8 c) start both.1)
    (bare_read cs rest (at + len_utf8 c) pairs name ((v ++ gap) ++ encode_utf8 c) [] start both.1)

trimmed : (c : ℕ) (cs after : List ℕ) → LeftOver [] after cs → ends_white (c ∷ cs) ≡ false → after ≡ []
trimmed c [] after left ends = left
trimmed c (d ∷ cs) after left ends = left ends

-- where a value is read, it is told
pub value_read : (value : Value) (rest : List ℕ) (at : ℕ) (pairs : Told) (name : List ℕ) (start : ℕ) → IsValue value
    → ValueRead (gives at (value_written value ++ rest) (reached pairs name [] [] start here.Equals)) (at + size (value_written value)) rest
    pairs name (value_told value) start
value_read (Quoted quote cs after) rest at pairs name start is = elim (or_true (quote == 34) (quote == 39) is.0) [
  | inl double ↦
      let e = eq_true quote 34 double in
      subst (λ (q : ℕ). ValueRead (gives at (value_written (Quoted q cs after) ++ rest) (reached pairs name [] [] start here.Equals))
      (at + size (value_written (Quoted q cs after))) rest pairs name (value_told (Quoted q cs after)) start) (sym e)
      (double_read cs after rest at pairs name start (subst (λ (q : ℕ). IsValue (Quoted q cs after)) e is))
  | inr single ↦
      let e = eq_true quote 39 single in
      subst (λ (q : ℕ). ValueRead (gives at (value_written (Quoted q cs after) ++ rest) (reached pairs name [] [] start here.Equals))
      (at + size (value_written (Quoted q cs after))) rest pairs name (value_told (Quoted q cs after)) start) (sym e)
      (single_read cs after rest at pairs name start (subst (λ (q : ℕ). IsValue (Quoted q cs after)) e is))
]
value_read (Bare before [] after) rest at pairs name start is =
    let none = is.5 refl in
    record {
      at = at + size before;
      gap = [];
      place = lead_place before;
      same = ap (λ all. gives at all (reached pairs name [] [] start here.Equals)) (append_assoc before after rest ∙ ap (λ a. before ++ (a ++ rest)) none)
          ∙ lead_read before rest at pairs name start is.0;
      at_is = omega (arith, ap size none, size_append before after);
      over = lead_over before;
    }
value_read (Bare before (c ∷ cs) after) rest at pairs name start is =
    let both = and_parts (is_bare c) (list_all is_bare cs) is.1 in
    let b = bare_read cs (after ++ rest) (at + size before + len_utf8 c) pairs name (encode_utf8 c) [] start both.1 in
    let none : b.after ≡ [] = trimmed c cs b.after b.left is.3 in
    let value : b.value ≡ encode_utf8_all (c ∷ cs)
    = sym (append-nil b.value) ∙ ap (λ a. b.value ++ a) (sym none) ∙ b.whole ∙ ap (λ v. v ++ encode_utf8_all cs) (append-nil (encode_utf8 c)) in
    record {
      at = b.at + size after;
      gap = b.after ++ encode_utf8_all after;
      place = here.Bare;
      same = ap (λ all. gives at all (reached pairs name [] [] start here.Equals))
          (append_assoc before ((c ∷ cs) ++ after) rest ∙ ap (λ more. before ++ more) (append_assoc (c ∷ cs) after rest))
          ∙ lead_read before ((c ∷ cs) ++ (after ++ rest)) at pairs name start is.0
          ∙ first_bare before c (cs ++ (after ++ rest)) (at + size before) pairs name start both.0 is.2
          ∙ b.same
          ∙ gap_read after rest b.at pairs name b.value b.after start is.4
          ∙ ap (λ v. gives (b.at + size after) rest (reached pairs name v (b.after ++ encode_utf8_all after) start here.Bare)) value;
      at_is = omega (arith, b.at_is, size_append before ((c ∷ cs) ++ after), size_append (c ∷ cs) after, size_cons c (len_utf8 c) cs refl);
      over = tt;
    }
