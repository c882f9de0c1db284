-- Numbers in digits, and what reading gives of them.
use Rattle.std.proofs.Common.{◌≡◌, ◌<◌, ◌≤◌, ◌+◌, ◌-◌, ◌*◌, ◌^◌, ◌==◌, ◌&&◌, ℕ, zero, suc, List, [], ◌∷◌, Bool, true, false, not, Option, None, Some, length, get_or, nat_lt, refl, ap, sym, ◌∙◌, arith}
use Rattle.std.proofs.lemmas.Bool.{and_parts}
use Rattle.std.proofs.lemmas.Bool.Decides.{nat_tests}
use Rattle.std.proofs.lemmas.Grind.{common_steps}
use Rattle.std.specs.Char.{digit_value, is_ascii_digit}
use Rattle.std.specs.List.{list_all}
use Rattle.std.specs.Str.Parse.{digits_value, digits_value_after}
use Rattle.std.specs.Prelude.{◌||◌, option_map, slice_index, if◌then◌else◌}
use Rattle.std.specs.Str.{IsUtf8, is_utf8}
use Rattle.std.proofs.lemmas.Str.{IsUtf8-from_ascii, IsUtf8-from_is_utf8, is_utf8-from_IsUtf8}
use Rattle.sv_listener.specs.ExitBody.{pid_in, pid_of}
use Rattle.sv_listener.specs.Reading.{◌>>=◌, provided, cut_at, is_number, text_at, number_at, small_number, size_of, size_at}
use Rattle.sv_listener.specs.declared.header.Size.{Size}
use Rattle.sv_listener.specs.declared.header.Size.TheVariants.{Bytes, Endless}

lt_true : (a b : ℕ) → nat_lt a b ≡ true → a < b
lt_true a b is = grind (arith, nat_tests)

lt_is : (a b : ℕ) → a < b → nat_lt a b ≡ true
lt_is a b less = grind (arith, nat_tests)

pub number_digits : (ds : List ℕ) → is_number ds ≡ true → (list_all is_ascii_digit ds ≡ true) × (0 < length ds)
number_digits ds is =
    let front = (and_parts (list_all is_ascii_digit ds && nat_lt 0 (length ds)) (length ds == 1 || not (slice_index ds 0 == 48)) is).0 in
    let both = and_parts (list_all is_ascii_digit ds) (nat_lt 0 (length ds)) front in
    (both.0, lt_true 0 (length ds) both.1)

-- a test that holds, or doesn't

provided_true : {A : Type 0} (test : Bool) (value : A) → test ≡ true → provided test value ≡ Some value
provided_true true value is = refl
provided_true false value is = absurd (cc)

provided_false : {A : Type 0} (test : Bool) (value : A) → test ≡ false → provided test value ≡ None
provided_false false value is = refl
provided_false true value is = absurd (cc)

and_true : (a b : Bool) → a ≡ true → b ≡ true → (a && b) ≡ true
and_true true true x y = refl
and_true false b x y = absurd (cc)
and_true true false x y = absurd (cc)

left_false : (a b : Bool) → a ≡ false → (a && b) ≡ false
left_false false b x = refl
left_false true b x = absurd (cc)

lt_false : (a b : ℕ) → (a < b → ⊥) → nat_lt a b ≡ false
lt_false a b no_less = grind (arith, nat_tests)

not_utf8 : (bytes : List ℕ) → (IsUtf8 bytes → ⊥) → is_utf8 bytes ≡ false
not_utf8 bytes bad = by_test (is_utf8 bytes) refl
  where
    by_test : (test : Bool) → is_utf8 bytes ≡ test → test ≡ false
    by_test true is = absurd (bad (IsUtf8-from_is_utf8 bytes is))
    by_test false is = refl

-- words

pub text_good : (bytes word rest text : List ℕ) → ◌≡◌ {A = Option (List ℕ × List ℕ)} (cut_at 32 bytes) (Some (word, rest)) → IsUtf8 word → text ≡ word
    → ◌≡◌ {A = Option (List ℕ × List ℕ)} (text_at bytes) (Some (text, rest))
text_good bytes word rest text cut good same =
    ap (λ (c : Option (List ℕ × List ℕ)). c >>= (λ parts. provided (is_utf8 parts.0) parts)) cut
    ∙ provided_true (is_utf8 word) (word, rest) (is_utf8-from_IsUtf8 word good) ∙ ap (λ (t : List ℕ). Some (t, rest)) (sym same)

pub text_bad : (bytes word rest : List ℕ) → ◌≡◌ {A = Option (List ℕ × List ℕ)} (cut_at 32 bytes) (Some (word, rest)) → (IsUtf8 word → ⊥)
    → text_at bytes ≡ None
text_bad bytes word rest cut bad =
    ap (λ (c : Option (List ℕ × List ℕ)). c >>= (λ parts. provided (is_utf8 parts.0) parts)) cut
    ∙ provided_false (is_utf8 word) (word, rest) (not_utf8 word bad)

-- digits are a text

digits_ascii : (ds : List ℕ) → list_all is_ascii_digit ds ≡ true → (i : ℕ) → slice_index ds i < 128
digits_ascii [] all i = omega arith
digits_ascii (d ∷ ds) all zero = grind (arith, nat_tests, common_steps)
digits_ascii (d ∷ ds) all (suc i) = digits_ascii ds (grind (arith, common_steps)) i

number_utf8 : (ds : List ℕ) → is_number ds ≡ true → is_utf8 ds ≡ true
number_utf8 ds is = is_utf8-from_IsUtf8 ds (IsUtf8-from_ascii ds (digits_ascii ds (number_digits ds is).0))

-- their value, digit by digit

grows : (n : ℕ) (ds : List ℕ) → n ≤ digits_value_after 10 n ds
grows n [] = omega arith
grows n (d ∷ ds) = omega (arith, grows (n * 10 + digit_value d) ds)

value_digit : (d : ℕ) → is_ascii_digit d ≡ true → digit_value d ≡ d - 48
value_digit d is = grind (arith, nat_tests, common_steps)

all_parts : (d : ℕ) (more : List ℕ) → list_all is_ascii_digit (d ∷ more) ≡ true → (is_ascii_digit d ≡ true) × (list_all is_ascii_digit more ≡ true)
all_parts d more all = and_parts (is_ascii_digit d) (list_all is_ascii_digit more) all

-- these digits follow those of the value
pub record Follow (total value : ℕ) (rest : List ℕ) : Type 0 where
  pub same : digits_value_after 10 value rest ≡ total
  pub all : list_all is_ascii_digit rest ≡ true

pub value_large : (total value : ℕ) (rest : List ℕ) → Follow total value rest → 0 < length rest
    → (value * 10 + (get_or rest 0 0 - 48) < 2 ^ 64 → ⊥) → total < 2 ^ 64 → ⊥
value_large total value [] was some large small = omega (arith, some)
value_large total value (d ∷ more) was some large small =
    let parts = all_parts d more was.all in
    large (omega (arith, value_digit d parts.0, grows (value * 10 + digit_value d) more, was.same, small))

-- numbers

small_other : (ds : List ℕ) → is_number ds ≡ false → small_number ds ≡ None
small_other ds not_one =
    provided_false (is_number ds && nat_lt (digits_value 10 ds) (2 ^ 64)) (digits_value 10 ds)
    (left_false (is_number ds) (nat_lt (digits_value 10 ds) (2 ^ 64)) not_one)

-- a small number is a text
small_utf8 : (ds : List ℕ) (value : ℕ) → small_number ds ≡ Some value → is_utf8 ds ≡ true
small_utf8 ds value is = by_test (is_number ds) refl
  where
    by_test : (test : Bool) → is_number ds ≡ test → is_utf8 ds ≡ true
    by_test true one = number_utf8 ds one
    by_test false not_one = let none : None ≡ Some value = sym (small_other ds not_one) ∙ is in absurd (cc)

pub number_good : (bytes word rest : List ℕ) (value : ℕ) → ◌≡◌ {A = Option (List ℕ × List ℕ)} (cut_at 32 bytes) (Some (word, rest))
    → small_number word ≡ Some value → ◌≡◌ {A = Option (ℕ × List ℕ)} (number_at bytes) (Some (value, rest))
number_good bytes word rest value cut is =
    ap (λ (t : Option (List ℕ × List ℕ)). t >>= (λ parts. option_map (λ v. (v, parts.1)) (small_number parts.0)))
    (ap (λ (c : Option (List ℕ × List ℕ)). c >>= (λ parts. provided (is_utf8 parts.0) parts)) cut
    ∙ provided_true (is_utf8 word) (word, rest) (small_utf8 word value is))
    ∙ ap (λ (found : Option ℕ). option_map (λ v. (v, rest)) found) is

size_is : (bytes : List ℕ) (size : Size) → is_number bytes ≡ true → size_of (digits_value 10 bytes) ≡ size → size_at bytes ≡ Some size
size_is bytes size is same =
    provided_true (is_utf8 bytes && is_number bytes) (size_of (digits_value 10 bytes))
    (and_true (is_utf8 bytes) (is_number bytes) (number_utf8 bytes is) is) ∙ ap (λ (s : Size). Some s) same

pub size_good : (bytes : List ℕ) (value : ℕ) → is_number bytes ≡ true → value ≡ digits_value 10 bytes → digits_value 10 bytes < 2 ^ 64
    → size_at bytes ≡ Some (Bytes value)
size_good bytes value is same less =
    let small : nat_lt (digits_value 10 bytes) (2 ^ 64) ≡ true = lt_is (digits_value 10 bytes) (2 ^ 64) less in
    size_is bytes (Bytes value) is
    (ap (λ test. if test then Bytes (digits_value 10 bytes) else Endless) small ∙ ap (λ v. Bytes v) (sym same))

pub size_endless : (bytes : List ℕ) → is_number bytes ≡ true → (digits_value 10 bytes < 2 ^ 64 → ⊥) → size_at bytes ≡ Some Endless
size_endless bytes is above =
    let large : nat_lt (digits_value 10 bytes) (2 ^ 64) ≡ false = lt_false (digits_value 10 bytes) (2 ^ 64) above in
    size_is bytes Endless is (ap (λ test. if test then Bytes (digits_value 10 bytes) else Endless) large)

-- the number of a process is a text

pub pid_is : (bytes : List ℕ) → pid_of bytes ≡ pid_in bytes
pid_is bytes = by_test (is_utf8 bytes) refl
  where
    none_of : (found : Option ℕ) → small_number bytes ≡ found → is_utf8 bytes ≡ false → (found >>= (λ value. provided (nat_lt value (2 ^ 32)) value)) ≡ None
    none_of None is bad = refl
    none_of (Some value) is bad = let both : true ≡ false = sym (small_utf8 bytes value is) ∙ bad in absurd (cc)

    by_test : (test : Bool) → is_utf8 bytes ≡ test → pid_of bytes ≡ (if test then pid_of bytes else None)
    by_test true is = refl
    by_test false is = none_of (small_number bytes) refl is
