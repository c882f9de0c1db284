-- Visible bytes: those of hosts, of digits and of base64.
use Rattle.std.proofs.Common.{◌≡◌, ◌<◌, ◌≤◌, ◌==◌, ◌+◌, ◌*◌, ◌/◌, ◌%◌, ◌^◌, ◌&&◌, ◌++◌, ◌∷◌, ℕ, zero, suc, List, [], Bool, true, false, length, refl, sym, ap, ◌∙◌, arith, rules, get_or, codes, length-append}
use Rattle.std.specs.Prelude.{replicate, reverse, slice_index, nat_lt}
use Rattle.std.specs.Char.{is_ascii_digit}
use Rattle.std.specs.Fmt.{decimal}
use Rattle.std.specs.List.{list_all, AllPass}
use Rattle.std.proofs.lemmas.Bool.{and_parts}
use Rattle.std.proofs.lemmas.Bool.Decides.{nat_tests}
use Rattle.std.proofs.lemmas.Fmt.{digits_decimal, digits_value-decimal, decimal_nonempty, length-decimal-le}
use Rattle.std.proofs.lemmas.List.Folds.{list_all-append, list_all_at}
use Rattle.std.proofs.lemmas.List.Sums.{AllPass-from_list_all, list_all-from_AllPass}
use Rattle.std.proofs.lemmas.Str.Parse.{IsNumeralModel, numerals_by_fold}
use Rattle.base64.specs.Engines.{standard}
use Rattle.base64.specs.GeneralPurpose.{IsBytes, encode_of, engine_symbols}
use Rattle.base64.specs.Rfc4648.{encode, encode_symbols, padding_len}
use Rattle.httparse.proofs.TrimLemmas.{AllPass-reverse}
use Rattle.httparse.specs.Grammar.{is_ows, is_value_byte, skip_ows}
use Rattle.sv_base.specs.SizeText.{number_of}
use Rattle.sv_http.specs.Sendable.Sendable.{is_visible}

-- ---- bytes

pub both : (a b : Bool) → a ≡ true → b ≡ true → (a && b) ≡ true
both a b is other = cc

pub all_both : (test : ℕ → Bool) (xs ys : List ℕ) → list_all test xs ≡ true → list_all test ys ≡ true → list_all test (xs ++ ys) ≡ true
all_both test xs ys one other = list_all-append test xs ys ∙ both (list_all test xs) (list_all test ys) one other

pub all_by : (test wanted : ℕ → Bool) (xs : List ℕ) → ((byte : ℕ) → test byte ≡ true → wanted byte ≡ true) → list_all test xs ≡ true
    → list_all wanted xs ≡ true
all_by test wanted [] so all = refl
all_by test wanted (byte ∷ xs) so all =
    let parts = and_parts (test byte) (list_all test xs) all in
    both (wanted byte) (list_all wanted xs) (so byte parts.0) (all_by test wanted xs so parts.1)

pub visible_value : (byte : ℕ) → is_visible byte ≡ true → is_value_byte byte ≡ true
visible_value byte is = grind (arith, nat_tests)

visible_solid : (byte : ℕ) → is_visible byte ≡ true → is_ows byte ≡ false
visible_solid byte is = grind (arith, nat_tests)

digit_visible : (byte : ℕ) → is_ascii_digit byte ≡ true → is_visible byte ≡ true
digit_visible byte is = grind (arith, nat_tests)

pub all_reversed : (test : ℕ → Bool) (xs : List ℕ) → list_all test xs ≡ true → list_all test (reverse xs) ≡ true
all_reversed test xs all = list_all-from_AllPass test (reverse xs) (AllPass-reverse test xs (AllPass-from_list_all test xs all))

-- white space isn't skipped where there is none
pub skips_none : (xs ys : List ℕ) → list_all is_visible xs ≡ true → 0 < length xs → skip_ows (xs ++ ys) ≡ xs ++ ys
skips_none [] ys all some = absurd (omega (arith, some))
skips_none (byte ∷ xs) ys all some =
    let solid : is_ows byte ≡ false = visible_solid byte (and_parts (is_visible byte) (list_all is_visible xs) all).0 in
    rw solid refl

pub skips_all : (xs : List ℕ) → list_all is_visible xs ≡ true → skip_ows xs ≡ xs
skips_all [] all = refl
skips_all (byte ∷ xs) all =
    let solid : is_ows byte ≡ false = visible_solid byte (and_parts (is_visible byte) (list_all is_visible xs) all).0 in
    rw solid refl

-- ---- digits

own : IsNumeralModel (λ ds. list_all is_ascii_digit ds ≡ true) (number_of 0)
own = numerals_by_fold _ (search rules) number_of (search rules)

pub are_digits : (n : ℕ) → n < 2 ^ 64 → list_all is_ascii_digit (decimal n) ≡ true
are_digits n small = digits_decimal own n small

pub number_back : (n : ℕ) → n < 2 ^ 64 → number_of 0 (decimal n) ≡ n
number_back n small = digits_value-decimal own n small

pub digits_visible : (n : ℕ) → n < 2 ^ 64 → list_all is_visible (decimal n) ≡ true
digits_visible n small = all_by is_ascii_digit is_visible (decimal n) digit_visible (are_digits n small)

-- ---- base64

abbrev table : List ℕ
table = engine_symbols standard

table_visible : list_all is_visible table ≡ true
table_visible = refl

symbol_visible : (k : ℕ) → k < 64 → is_visible (slice_index table k) ≡ true
symbol_visible k small = by_test (is_visible (slice_index table k)) refl
  where
    by_test : (test : Bool) → is_visible (slice_index table k) ≡ test → is_visible (slice_index table k) ≡ true
    by_test true is = is
    by_test false is =
        let never : false ≡ true = sym (list_all_at is_visible table k 0 small is) ∙ table_visible in
        absurd cc

two_visible : (a b : ℕ) (xs : List ℕ) → is_visible a ≡ true → is_visible b ≡ true → list_all is_visible xs ≡ true
    → list_all is_visible (a ∷ b ∷ xs) ≡ true
two_visible a b xs one other all =
    both (is_visible a) (list_all is_visible (b ∷ xs)) one (both (is_visible b) (list_all is_visible xs) other all)

pub symbols_visible : (m : List ℕ) → IsBytes m → list_all is_visible (encode_symbols table m) ≡ true
unfolding encode_symbols
symbols_visible [] bytes = refl
symbols_visible (a ∷ []) bytes =
    let first : a < 256 = bytes 0 in
    two_visible (slice_index table (a / 4)) (slice_index table (a % 4 * 16)) [] (symbol_visible (a / 4) (omega arith))
    (symbol_visible (a % 4 * 16) (omega arith)) refl
symbols_visible (a ∷ b ∷ []) bytes =
    let first : a < 256 = bytes 0 in
    let second : b < 256 = bytes 1 in
    two_visible (slice_index table (a / 4)) (slice_index table (a % 4 * 16 + b / 16)) (slice_index table (b % 16 * 4) ∷ [])
    (symbol_visible (a / 4) (omega arith))
    (symbol_visible (a % 4 * 16 + b / 16) (omega arith))
    (both (is_visible (slice_index table (b % 16 * 4))) true (symbol_visible (b % 16 * 4) (omega arith)) refl)
symbols_visible (a ∷ b ∷ c ∷ rest) bytes =
    let first : a < 256 = bytes 0 in
    let second : b < 256 = bytes 1 in
    let third : c < 256 = bytes 2 in
    two_visible (slice_index table (a / 4)) (slice_index table (a % 4 * 16 + b / 16))
    (slice_index table (b % 16 * 4 + c / 64) ∷ slice_index table (c % 64) ∷ encode_symbols table rest)
    (symbol_visible (a / 4) (omega arith)) (symbol_visible (a % 4 * 16 + b / 16) (omega arith))
    (two_visible (slice_index table (b % 16 * 4 + c / 64)) (slice_index table (c % 64)) (encode_symbols table rest)
    (symbol_visible (b % 16 * 4 + c / 64) (omega arith))
    (symbol_visible (c % 64) (omega arith)) (symbols_visible rest (λ i. bytes (suc (suc (suc i))))))

pads_visible : (n : ℕ) → list_all is_visible (replicate n 61) ≡ true
pads_visible zero = refl
pads_visible (suc n) = pads_visible n

pub encoded_visible : (m : List ℕ) → IsBytes m → list_all is_visible (encode_of standard m) ≡ true
encoded_visible m bytes =
    all_both is_visible (encode_symbols table m) (replicate (padding_len (length m)) 61) (symbols_visible m bytes)
    (pads_visible (padding_len (length m)))

symbols_some : (m : List ℕ) → 0 < length m → 0 < length (encode_symbols table m)
unfolding encode_symbols
symbols_some [] some = absurd (omega (arith, some))
symbols_some (a ∷ []) some = omega arith
symbols_some (a ∷ b ∷ []) some = omega arith
symbols_some (a ∷ b ∷ c ∷ rest) some = omega arith

pub encoded_some : (a m : List ℕ) → 0 < length (encode_of standard (a ++ 58 ∷ m))
encoded_some a m =
    let whole = a ++ 58 ∷ m in
    omega (
      arith,
      symbols_some whole (omega (arith, length-append a (58 ∷ m))),
      length-append (encode_symbols table whole) (replicate (padding_len (length whole)) 61),
    )
