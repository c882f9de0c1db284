-- The digits of a result's length.
use Rattle.std.proofs.Common.{◌≡◌, ◌≤◌, ◌+◌, ◌-◌, ◌*◌, ℕ, List, [], ◌∷◌, ◌++◌, length, true, false, refl, ap, ◌∙◌, arith, length-append}
use Rattle.std.proofs.lemmas.Bool.{and_parts, and_from}
use Rattle.std.proofs.lemmas.List.Folds.{list_all-append}
use Rattle.std.specs.List.{list_all}
use Rattle.std.specs.Char.{is_ascii_digit}
use Rattle.sv_pipes.specs.Talk.{IsLength}
use Rattle.sv_base.specs.SizeText.{number_of}

pub number_more : (digits : List ℕ) (number digit : ℕ)
    → number_of number (digits ++ digit ∷ []) ≡ 10 * number_of number digits + (digit - 48)
number_more [] number digit = refl
number_more (d ∷ ds) number digit = number_more ds (10 * number + (d - 48)) digit

pub number_append : (digits others : List ℕ) (number : ℕ) → number_of number (digits ++ others) ≡ number_of (number_of number digits) others
number_append [] others number = refl
number_append (d ∷ ds) others number = number_append ds others (10 * number + (d - 48))

pub grows : (digits : List ℕ) (number : ℕ) → number ≤ number_of number digits
grows [] number = omega arith
grows (digit ∷ digits) number = omega (arith, grows digits (10 * number + (digit - 48)))

pub all_more : (digits : List ℕ) (digit : ℕ) → list_all is_ascii_digit digits ≡ true → is_ascii_digit digit ≡ true
    → list_all is_ascii_digit (digits ++ digit ∷ []) ≡ true
all_more digits digit all is = list_all-append is_ascii_digit digits (digit ∷ []) ∙ and_from (list_all is_ascii_digit digits) (list_all is_ascii_digit (digit ∷ [])) all (and_from (is_ascii_digit digit) true is refl)

-- digits before a line feed go on with these digits
pub digits_go_on : (digits others more body : List ℕ) → list_all is_ascii_digit digits ≡ true
    → digits ++ more ≡ others ++ 10 ∷ body → (left : List ℕ) × (others ≡ digits ++ left)
digits_go_on [] others more body all same = (others, refl)
digits_go_on (d ∷ ds) [] more body all same =
    let feed : d ≡ 10 = cc in
    let is : is_ascii_digit d ≡ true = (and_parts (is_ascii_digit d) (list_all is_ascii_digit ds) all).0 in
    let wrong : is_ascii_digit 10 ≡ true = rw feed at is in
    absurd (cc)
digits_go_on (d ∷ ds) (e ∷ es) more body all same =
    let heads : d ≡ e = cc in
    let tails : ds ++ more ≡ es ++ 10 ∷ body = cc in
    let rest = digits_go_on ds es more body (and_parts (is_ascii_digit d) (list_all is_ascii_digit ds) all).1 tails in
    (rest.0, cc)

-- where no digit comes, all digits were there, and it is the line feed
pub digits_stop : (digits others more body : List ℕ) (byte : ℕ) → list_all is_ascii_digit digits ≡ true
    → list_all is_ascii_digit others ≡ true → is_ascii_digit byte ≡ false
    → digits ++ byte ∷ more ≡ others ++ 10 ∷ body → (others ≡ digits) × (byte ≡ 10)
digits_stop [] [] more body byte all each not_digit same = (refl, cc)
digits_stop [] (e ∷ es) more body byte all each not_digit same =
    let heads : byte ≡ e = cc in
    let is : is_ascii_digit e ≡ true = (and_parts (is_ascii_digit e) (list_all is_ascii_digit es) each).0 in
    let wrong : is_ascii_digit e ≡ false = rw heads at not_digit in
    absurd (cc)
digits_stop (d ∷ ds) [] more body byte all each not_digit same =
    let feed : d ≡ 10 = cc in
    let is : is_ascii_digit d ≡ true = (and_parts (is_ascii_digit d) (list_all is_ascii_digit ds) all).0 in
    let wrong : is_ascii_digit 10 ≡ true = rw feed at is in
    absurd (cc)
digits_stop (d ∷ ds) (e ∷ es) more body byte all each not_digit same =
    let heads : d ≡ e = cc in
    let tails : ds ++ byte ∷ more ≡ es ++ 10 ∷ body = cc in
    let rest = digits_stop ds es more body byte (and_parts (is_ascii_digit d) (list_all is_ascii_digit ds) all).1
    (and_parts (is_ascii_digit e) (list_all is_ascii_digit es) each).1 not_digit tails in
    (cc (heads, rest.0), rest.1)

-- digits that go on are too many or write too great a number
pub too_far : (digits others left : List ℕ) (number : ℕ) → IsLength others number → others ≡ digits ++ left
    → (length digits ≤ 7) × (number_of 0 digits ≤ 1048576)
too_far digits others left number is same =
    let size : length others ≡ length digits + length left = ap length same ∙ length-append digits left in
    let value : number_of 0 others ≡ number_of (number_of 0 digits) left = ap (number_of 0) same ∙ number_append digits left 0 in
    (omega (arith, is.most), omega (arith, is.number_is, is.limit, grows left (number_of 0 digits)))
