-- Words, numbers and names of types are read from the front of what begins with them.
use Rattle.std.proofs.Common.{◌≡◌, ◌<◌, ◌≤◌, ◌^◌, ◌==◌, ◌&&◌, ◌||◌, ◌++◌, ℕ, List, [], ◌∷◌, Bool, true, false, not, Option, None, Some, length, nat_lt, refl, ap, ◌∙◌, arith, rules, lit≤, zero, suc}
use Rattle.std.specs.Prelude.{option_map, slice_index, if◌then◌else◌}
use Rattle.std.proofs.lemmas.Bool.Decides.{nat_tests}
use Rattle.std.proofs.lemmas.Fmt.{decimal_is_IsNumeral, decimal_digit, decimal_nonempty, digits_decimal, digits_value-decimal, first_decimal, IsAscii-decimal}
use Rattle.std.proofs.lemmas.Str.{is_utf8-from_IsUtf8, IsUtf8-from_ascii}
use Rattle.std.proofs.lemmas.Str.Parse.{IsNumeralModel, numerals_by_value}
use Rattle.std.specs.Char.{is_ascii_digit}
use Rattle.std.specs.Fmt.{decimal}
use Rattle.std.specs.List.{list_all}
use Rattle.std.specs.Str.{is_utf8}
use Rattle.std.specs.Char.{digit_value}
use Rattle.std.specs.Str.Parse.{AllDigits, digits_value}
use Rattle.std.proofs.lemmas.Grind.{common_steps}
use Rattle.sv_base.specs.KindNames.{kind_name}
use Rattle.sv_base.specs.declared.kind.Kind.{Kind}
use Rattle.sv_base.specs.declared.kind.Kind.TheVariants.{Event, ProcessState, ProcessStateStarting, ProcessStateRunning, ProcessStateBackoff, ProcessStateStopping, ProcessStateExited, ProcessStateStopped, ProcessStateFatal, ProcessStateUnknown, ProcessCommunication, ProcessCommunicationStdout, ProcessCommunicationStderr, ProcessLog, ProcessLogStdout, ProcessLogStderr, RemoteCommunication, SupervisorStateChange, SupervisorStateChangeRunning, SupervisorStateChangeStopping, Tick, Tick5, Tick60, Tick3600, ProcessGroup, ProcessGroupAdded, ProcessGroupRemoved}
use Rattle.sv_listener.specs.HeaderLine.{IsWord}
use Rattle.sv_listener.specs.Reading.{◌>>=◌, cut_at, is_number, kind_at, kind_in, number_at, provided, size_at, size_of, small_number, text_at}
use Rattle.sv_listener.specs.declared.header.Size.TheVariants.{Bytes, Endless}

lt_is : (a b : ℕ) → a < b → nat_lt a b ≡ true
lt_is a b less = grind (arith, nat_tests)

eqb_same : (a : ℕ) → (a == a) ≡ true
eqb_same a = grind (arith, nat_tests)

eqb_other : (a b : ℕ) → (a ≡ b → ⊥) → (a == b) ≡ false
eqb_other a b other = grind (arith, nat_tests)

and_true : (a b : Bool) → a ≡ true → b ≡ true → (a && b) ≡ true
and_true true true x y = refl
and_true false b x y = absurd (cc)
and_true true false x y = absurd (cc)

provided_true : {A : Type 0} (test : Bool) (value : A) → test ≡ true → provided test value ≡ Some value
provided_true true value is = refl
provided_true false value is = absurd (cc)

-- ---- cuts

pub record Lacks (stop : ℕ) (byte : ℕ) (bytes : List ℕ) : Type 0 where
  pub other : (byte == stop) ≡ false
  pub none : cut_at stop bytes ≡ None

lacks : (stop byte : ℕ) (bytes : List ℕ) → cut_at stop (byte ∷ bytes) ≡ None → Lacks stop byte bytes
lacks stop byte bytes none = by_test (byte == stop) refl (cut_at stop bytes) refl none
  where
    by_test : (test : Bool) → (byte == stop) ≡ test → (cut : Option (List ℕ × List ℕ)) → cut_at stop bytes ≡ cut
        → if◌then◌else◌ {A = Option (List ℕ × List ℕ)} test (Some ([], bytes)) (option_map (λ parts. (byte ∷ parts.0, parts.1)) cut) ≡ None → Lacks stop byte bytes
    by_test true is cut is_cut none = absurd (cc)
    by_test false is None is_cut none = record { other = is; none = is_cut }
    by_test false is (Some parts) is_cut none = absurd (cc)

passes : (stop byte : ℕ) (bytes : List ℕ) → (byte == stop) ≡ false
    → cut_at stop (byte ∷ bytes) ≡ option_map (λ parts. (byte ∷ parts.0, parts.1)) (cut_at stop bytes)
passes stop byte bytes other =
    ap (λ (test : Bool). if◌then◌else◌ {A = Option (List ℕ × List ℕ)} test (Some ([], bytes)) (option_map (λ parts. (byte ∷ parts.0, parts.1)) (cut_at stop bytes))) other

-- a text without the byte stops before it
pub cut_word : (stop : ℕ) (word rest : List ℕ) → cut_at stop word ≡ None
    → ◌≡◌ {A = Option (List ℕ × List ℕ)} (cut_at stop (word ++ stop ∷ rest)) (Some (word, rest))
cut_word stop [] rest none =
    ap (λ (test : Bool). if◌then◌else◌ {A = Option (List ℕ × List ℕ)} test (Some ([], rest)) (option_map (λ parts. (stop ∷ parts.0, parts.1)) (cut_at stop rest))) (eqb_same stop)
cut_word stop (byte ∷ word) rest none =
    let has = lacks stop byte word none in
    passes stop byte (word ++ stop ∷ rest) has.other
    ∙ ap (λ (cut : Option (List ℕ × List ℕ)). option_map (λ parts. (byte ∷ parts.0, parts.1)) cut) (cut_word stop word rest has.none)

pub lacks_both : (stop : ℕ) (front rest : List ℕ) → cut_at stop front ≡ None → cut_at stop rest ≡ None → cut_at stop (front ++ rest) ≡ None
lacks_both stop [] rest none also = also
lacks_both stop (byte ∷ front) rest none also =
    let has = lacks stop byte front none in
    passes stop byte (front ++ rest) has.other
    ∙ ap (λ (cut : Option (List ℕ × List ℕ)). option_map (λ parts. (byte ∷ parts.0, parts.1)) cut) (lacks_both stop front rest has.none also)

-- a prefix of such a text has none either
pub lacks_front : (stop : ℕ) (front rest : List ℕ) → cut_at stop (front ++ rest) ≡ None → cut_at stop front ≡ None
lacks_front stop [] rest none = refl
lacks_front stop (byte ∷ front) rest none =
    let has = lacks stop byte (front ++ rest) none in
    passes stop byte front has.other
    ∙ ap (λ (cut : Option (List ℕ × List ℕ)). option_map (λ parts. (byte ∷ parts.0, parts.1)) cut) (lacks_front stop front rest has.none)

-- ---- words

pub text_is : (word rest : List ℕ) → IsWord word → ◌≡◌ {A = Option (List ℕ × List ℕ)} (text_at (word ++ 32 ∷ rest)) (Some (word, rest))
text_is word rest is =
    ap (λ (cut : Option (List ℕ × List ℕ)). cut >>= (λ parts. provided (is_utf8 parts.0) parts)) (cut_word 32 word rest is.no_space)
    ∙ provided_true (is_utf8 word) (word, rest) is.text_is

-- ---- numbers

digits_lack : (stop : ℕ) (digits : List ℕ) → stop < 48 → AllDigits 10 digits → cut_at stop digits ≡ None
digits_lack stop [] low all = refl
digits_lack stop (digit ∷ digits) low all =
    passes stop digit digits (not_low stop digit low all.0)
    ∙ ap (λ (cut : Option (List ℕ × List ℕ)). option_map (λ parts. (digit ∷ parts.0, parts.1)) cut) (digits_lack stop digits low all.1)
  where
    not_low : (stop digit : ℕ) → stop < 48 → digit_value digit < 10 → (digit == stop) ≡ false
    not_low stop digit low is = grind (arith, nat_tests, common_steps)

pub decimal_lacks : (stop number : ℕ) → stop < 48 → number < 2 ^ 64 → cut_at stop (decimal number) ≡ None
decimal_lacks stop number low small = digits_lack stop (decimal number) low (decimal_is_IsNumeral number small).0.1

own : IsNumeralModel (λ ds. list_all is_ascii_digit ds ≡ true) (digits_value 10)
own = numerals_by_value _ (search rules)

-- no leading zero
no_zero : (number : ℕ) → number < 2 ^ 64 → (length (decimal number) == 1 || not (slice_index (decimal number) 0 == 48)) ≡ true
no_zero zero small = ap (λ (digits : List ℕ). length digits == 1 || not (slice_index digits 0 == 48)) (decimal_digit 0 (omega arith))
no_zero (suc number) small =
    by_zero (length (decimal (suc number)) == 1) (slice_index (decimal (suc number)) 0 == 48)
    (eqb_other (slice_index (decimal (suc number)) 0) 48 (λ same. omega (arith, same, first_decimal (suc number) (omega arith) small)))
  where
    by_zero : (one is_zero : Bool) → is_zero ≡ false → (one || not is_zero) ≡ true
    by_zero true b e = refl
    by_zero false false e = refl
    by_zero false true e = absurd (cc)

pub decimal_is_number : (number : ℕ) → number < 2 ^ 64 → is_number (decimal number) ≡ true
decimal_is_number number small =
    and_true (list_all is_ascii_digit (decimal number) && nat_lt 0 (length (decimal number)))
    (length (decimal number) == 1 || not (slice_index (decimal number) 0 == 48))
    (and_true (list_all is_ascii_digit (decimal number)) (nat_lt 0 (length (decimal number))) (digits_decimal own number small)
    (lt_is 0 (length (decimal number)) (decimal_nonempty number small)))
    (no_zero number small)

pub decimal_is_utf8 : (number : ℕ) → number < 2 ^ 64 → is_utf8 (decimal number) ≡ true
decimal_is_utf8 number small = is_utf8-from_IsUtf8 (decimal number) (IsUtf8-from_ascii (decimal number) (IsAscii-decimal number small))

small_is : (number : ℕ) → number < 2 ^ 64 → small_number (decimal number) ≡ Some number
small_is number small =
    ap (λ value. provided (is_number (decimal number) && nat_lt value (2 ^ 64)) value) (digits_value-decimal own number small)
    ∙ provided_true (is_number (decimal number) && nat_lt number (2 ^ 64)) number
    (and_true (is_number (decimal number)) (nat_lt number (2 ^ 64)) (decimal_is_number number small) (lt_is number (2 ^ 64) small))

decimal_is_word : (number : ℕ) → number < 2 ^ 64 → IsWord (decimal number)
decimal_is_word number small = record { text_is = decimal_is_utf8 number small; no_space = decimal_lacks 32 number (omega arith) small }

pub number_is : (number : ℕ) (rest : List ℕ) → number < 2 ^ 64 → ◌≡◌ {A = Option (ℕ × List ℕ)} (number_at (decimal number ++ 32 ∷ rest)) (Some (number, rest))
number_is number rest small =
    ap (λ (text : Option (List ℕ × List ℕ)). text >>= (λ parts. option_map (λ value. (value, parts.1)) (small_number parts.0)))
    (text_is (decimal number) rest (decimal_is_word number small))
    ∙ ap (λ (value : Option ℕ). option_map (λ v. (v, rest)) value) (small_is number small)

pub size_is : (number : ℕ) → number < 2 ^ 64 → size_at (decimal number) ≡ Some (Bytes number)
size_is number small =
    provided_true (is_utf8 (decimal number) && is_number (decimal number)) (size_of (digits_value 10 (decimal number)))
    (and_true (is_utf8 (decimal number)) (is_number (decimal number)) (decimal_is_utf8 number small) (decimal_is_number number small))
    ∙ ap (λ (value : ℕ). Some (size_of value)) (digits_value-decimal own number small)
    ∙ ap (λ (test : Bool). Some (if test then Bytes number else Endless)) (lt_is number (2 ^ 64) small)

-- ---- names of types

ascii_from : (bytes : List ℕ) → list_all (λ byte. nat_lt byte 128) bytes ≡ true → (i : ℕ) → slice_index bytes i < 128
ascii_from [] all i = omega arith
ascii_from (byte ∷ bytes) all zero = grind (arith, nat_tests, common_steps)
ascii_from (byte ∷ bytes) all (suc i) = ascii_from bytes (grind (arith, common_steps)) i

kind_is_ascii : (kind : Kind) → list_all (λ byte. nat_lt byte 128) (kind_name kind) ≡ true
kind_is_ascii Event = refl
kind_is_ascii other = refl

kind_lacks_space : (kind : Kind) → cut_at 32 (kind_name kind) ≡ None
kind_lacks_space Event = refl
kind_lacks_space other = refl

pub kind_is_found : (kind : Kind) → kind_in (kind_name kind) ≡ Some kind
kind_is_found Event = refl
kind_is_found other = refl

kind_is_word : (kind : Kind) → IsWord (kind_name kind)
kind_is_word kind = record {
  text_is = is_utf8-from_IsUtf8 (kind_name kind) (IsUtf8-from_ascii (kind_name kind) (ascii_from (kind_name kind) (kind_is_ascii kind)));
  no_space = kind_lacks_space kind;
}

pub kind_is : (kind : Kind) (rest : List ℕ) → ◌≡◌ {A = Option (Kind × List ℕ)} (kind_at (kind_name kind ++ 32 ∷ rest)) (Some (kind, rest))
kind_is kind rest =
    ap (λ (text : Option (List ℕ × List ℕ)). text >>= (λ parts. option_map (λ k. (k, parts.1)) (kind_in parts.0))) (text_is (kind_name kind) rest (kind_is_word kind))
    ∙ ap (λ (found : Option Kind). option_map (λ k. (k, rest)) found) (kind_is_found kind)

pub kind_lacks_feed : (kind : Kind) → cut_at 10 (kind_name kind) ≡ None
kind_lacks_feed Event = refl
kind_lacks_feed other = refl

pub kind_is_short : (kind : Kind) → length (kind_name kind) ≤ 40
kind_is_short Event = lit≤ tt
kind_is_short other = lit≤ tt
