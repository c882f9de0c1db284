-- What each reader gives: a value and what follows it, or the number of bytes that are left at the
-- first bad one.
use Rattle.std.specs.Prelude.{ℕ, suc, ◌+◌, ◌-◌, ◌*◌, ◌≡◌, List, [], ◌∷◌, ◌++◌, length, Bool, true}
use Rattle.std.specs.Prelude.{false, ◌&&◌, not, nat_lt, nat_le, ◌==◌, if◌then◌else◌, Result, Ok}
use Rattle.std.specs.Prelude.{Err, Option, Some, None, min}
use Rattle.std.specs.Char.{is_ascii_digit}
use Rattle.sv_base.specs.Ascii.{comma, percent_sign}
use Rattle.sv_journal.specs.Spelling.{stands_for_itself}
use Rattle.sv_journal.specs.Tokens.{is_first_digit, is_second_digit, hex_value}
use Rattle.sv_letters.specs.Letters.{allows, after}
use Rattle.sv_letters.specs.declared.bad_byte.BadByte.{BadByte}
use Rattle.sv_journal.specs.declared.stop.Stop.{Stop}
use Rattle.sv_journal.specs.declared.stop.Stop.TheVariants.{At, OutOfMemory}
use Rattle.sv_letters.specs.declared.letters.Letters.{Letters}
use Rattle.sv_letters.specs.declared.letters.Letters.TheVariants.{OfText, OfName, OfBytes, OfXml}
use Rattle.sv_letters.specs.declared.letters.Awaits.{Awaits}
use Rattle.sv_letters.specs.declared.letters.Awaits.TheVariants.{Character, Private, Continuation}

-- a reader, and then one that takes what it gave
infixl 10 ◌>>=◌
abbrev pub ◌>>=◌ : {A B : Type 0} → Result A ℕ → (A → Result B ℕ) → Result B ℕ
(Ok x) >>= f = f x
(Err e) >>= f = Err e

-- the code stops where reading does, or has no memory
abbrev pub Stops : {Y : Type 0} → Stop → Result Y ℕ → Type 0
Stops (At left) read = read ≡ Err left
Stops OutOfMemory read = Unit {0}

-- the code gives what is read
abbrev pub Gives : {X Y : Type 0} → (X → Y) → Result X Stop → Result Y ℕ → Type 0
Gives view (Ok x) read = read ≡ Ok (view x)
Gives view (Err stop) read = Stops stop read

-- the code that takes no memory gives what is read
abbrev pub GivesAlways : {X Y : Type 0} → (X → Y) → Result X BadByte → Result Y ℕ → Type 0
GivesAlways view (Ok x) read = read ≡ Ok (view x)
GivesAlways view (Err bad) read = read ≡ Err bad.0

-- the line ends here
abbrev pub end_at : {X : Type 0} → X → List ℕ → Result X ℕ
end_at x [] = Ok x
end_at x (b ∷ bs) = Err (suc (length bs))

-- this word, and what follows it
abbrev pub word_at : List ℕ → List ℕ → Result (List ℕ) ℕ
word_at [] bs = Ok bs
word_at (w ∷ ws) [] = Err 0
word_at (w ∷ ws) (b ∷ bs) = if b == w then word_at ws bs else Err (suc (length bs))

-- this word where it was read, else one of the others, and the nearest place at which one of them
-- broke
abbrev pub keyword_or : {K : Type 0} → K → (ℕ → Result (K × List ℕ) ℕ) → ℕ → Result (List ℕ) ℕ
    → Result (K × List ℕ) ℕ
keyword_or k others least (Ok rest) = Ok (k, rest)
keyword_or k others least (Err left) = others (min least left)

-- one of these words; where none stands here, the bad byte is the first that goes on with none of
-- them
abbrev pub keyword_from : {K : Type 0} → (K → List ℕ) → List K → ℕ → List ℕ → Result (K × List ℕ) ℕ
keyword_from spelling [] least bs = Err least
keyword_from spelling (k ∷ ks) least bs =
    keyword_or k (λ least. keyword_from spelling ks least bs) least (word_at (spelling k) bs)

-- one of these words, of which none begins another
abbrev pub keyword_at : {K : Type 0} → (K → List ℕ) → List K → List ℕ → Result (K × List ℕ) ℕ
keyword_at spelling ks bs = keyword_from spelling ks (length bs) bs

-- the digit b goes on with the number n: n isn't 0 and the longer number is within the limit
abbrev pub goes_on : ℕ → ℕ → ℕ → Bool
goes_on limit n b = is_ascii_digit b && nat_lt 0 n && nat_le (n * 10 + (b - 48)) limit

-- the further digits of a number, which stops where it would pass the limit
abbrev pub digits_at : ℕ → ℕ → List ℕ → ℕ × List ℕ
digits_at limit n [] = (n, [])
digits_at limit n (b ∷ bs) =
    if goes_on limit n b then digits_at limit (n * 10 + (b - 48)) bs else (n, b ∷ bs)

-- a number that isn't below the least one, 0 or 1
abbrev pub number_at : ℕ → ℕ → List ℕ → Result (ℕ × List ℕ) ℕ
number_at least limit [] = Err 0
number_at least limit (b ∷ bs) =
    if is_ascii_digit b && nat_le least (b - 48) then Ok (digits_at limit (b - 48) bs)
    else Err (suc (length bs))

-- this byte, and then what was read after it
abbrev pub with_first : ℕ → Result (List ℕ × List ℕ) ℕ → Result (List ℕ × List ℕ) ℕ
with_first x (Ok r) = Ok (x ∷ r.0, r.1)
with_first x (Err left) = Err left

-- these bytes, and then what was read after them
abbrev pub with_front : List ℕ → Result (List ℕ × List ℕ) ℕ → Result (List ℕ × List ℕ) ℕ
with_front xs (Ok r) = Ok (xs ++ r.0, r.1)
with_front xs (Err left) = Err left

-- this item, and then what was read after it
abbrev pub with_item : {A : Type 0} → A → Result (List A × List ℕ) ℕ → Result (List A × List ℕ) ℕ
with_item item (Ok r) = Ok (item ∷ r.0, r.1)
with_item item (Err left) = Err left

-- exit codes parted by commas: where none is given, one is awaited
abbrev pub codes_from : Option ℕ → List ℕ → Result (List ℕ × List ℕ) ℕ
codes_from None [] = Err 0
codes_from None (b ∷ bs) =
    if is_ascii_digit b then codes_from (Some (b - 48)) bs else Err (suc (length bs))
codes_from (Some n) [] = Ok (n ∷ [], [])
codes_from (Some n) (b ∷ bs) =
    if goes_on 255 n b then codes_from (Some (n * 10 + (b - 48))) bs
    else if b == comma then with_first n (codes_from None bs)
    else Ok (n ∷ [], b ∷ bs)

-- what a reader of a token stands before: the spelling of a byte, or its first or second digit
pub data Stage : Type 0 where
  Between : (awaits : Awaits) → Stage
  Percent : (awaits : Awaits) → Stage
  Digit : (awaits : Awaits) (high : ℕ) → Stage

-- the token ends here, which it may only after a whole character
abbrev pub closed : Awaits → List ℕ → Result (List ℕ × List ℕ) ℕ
closed Character bs = Ok ([], bs)
closed Private bs = Err (length bs)
closed (Continuation low high more) bs = Err (length bs)

-- the bytes of a token from this stage on, and what follows it
abbrev pub token_from : Letters → Stage → List ℕ → Result (List ℕ × List ℕ) ℕ
token_from letters (Between awaits) [] = closed awaits []
token_from letters (Between awaits) (b ∷ bs) =
    if b == percent_sign then token_from letters (Percent awaits) bs
    else if stands_for_itself b && allows letters awaits b
    then with_first b (token_from letters (Between (after letters awaits b)) bs)
    else closed awaits (b ∷ bs)
token_from letters (Percent awaits) [] = Err 0
token_from letters (Percent awaits) (d ∷ bs) =
    if is_first_digit letters awaits d then token_from letters (Digit awaits (hex_value d)) bs
    else Err (suc (length bs))
token_from letters (Digit awaits high) [] = Err 0
token_from letters (Digit awaits high) (d ∷ bs) =
    if is_second_digit letters awaits high d
    then with_first (16 * high + hex_value d)
    (token_from letters (Between (after letters awaits (16 * high + hex_value d))) bs)
    else Err (suc (length bs))

-- a percent sign whose escape does not go on is the empty text, or no bytes; a name is not empty
abbrev pub is_lone : Letters → List ℕ → Bool
is_lone OfText [] = true
is_lone OfText (d ∷ bs) = not (is_first_digit OfText Character d)
is_lone OfName bs = false
is_lone OfBytes [] = true
is_lone OfBytes (d ∷ bs) = not (is_first_digit OfBytes Character d)
is_lone OfXml [] = true
is_lone OfXml (d ∷ bs) = not (is_first_digit OfXml Character d)

-- no empty token was read, which would be its own bad byte
abbrev pub nonempty : ℕ → Result (List ℕ × List ℕ) ℕ → Result (List ℕ × List ℕ) ℕ
nonempty left (Ok ([], rest)) = Err left
nonempty left (Ok (x ∷ xs, rest)) = Ok (x ∷ xs, rest)
nonempty left (Err e) = Err e

-- a token: a lone percent sign, or the spelling of some bytes
abbrev pub token_at : Letters → List ℕ → Result (List ℕ × List ℕ) ℕ
token_at letters [] = Err 0
token_at letters (b ∷ bs) =
    if (b == percent_sign) && is_lone letters bs then Ok ([], bs)
    else nonempty (suc (length bs)) (token_from letters (Between Character) (b ∷ bs))

-- the parts of a token that readers of their own read
abbrev pub first_digit_at : Letters → Awaits → List ℕ → Result (ℕ × List ℕ) ℕ
first_digit_at letters awaits [] = Err 0
first_digit_at letters awaits (d ∷ bs) =
    if is_first_digit letters awaits d then Ok (hex_value d, bs) else Err (suc (length bs))

-- the byte whose second digit stands here
abbrev pub second_digit_at : Letters → Awaits → ℕ → List ℕ → Result (ℕ × List ℕ) ℕ
second_digit_at letters awaits high [] = Err 0
second_digit_at letters awaits high (d ∷ bs) =
    if is_second_digit letters awaits high d then Ok (16 * high + hex_value d, bs)
    else Err (suc (length bs))

-- the byte whose escape goes on here, after its percent sign
abbrev pub escape_at : Letters → Awaits → List ℕ → Result (ℕ × List ℕ) ℕ
escape_at letters awaits bs =
    first_digit_at letters awaits bs >>= (λ first. second_digit_at letters awaits first.0 first.1)

-- a byte was read
abbrev pub some_byte : ℕ × List ℕ → Result (Option (ℕ × List ℕ)) ℕ
some_byte r = Ok (Some r)

-- no byte was read, since the token ends here
abbrev pub token_end : Awaits → List ℕ → Result (Option (ℕ × List ℕ)) ℕ
token_end Character bs = Ok None
token_end Private bs = Err (length bs)
token_end (Continuation low high more) bs = Err (length bs)

-- the next byte of a token, or none where it ends
abbrev pub spelled_byte_at : Letters → Awaits → List ℕ → Result (Option (ℕ × List ℕ)) ℕ
spelled_byte_at letters awaits [] = token_end awaits []
spelled_byte_at letters awaits (b ∷ bs) =
    if b == percent_sign then escape_at letters awaits bs >>= some_byte
    else if stands_for_itself b && allows letters awaits b then Ok (Some (b, bs))
    else token_end awaits (b ∷ bs)

-- what follows an exit code
abbrev pub codes_tail : ℕ → List ℕ → Result (List ℕ × List ℕ) ℕ
codes_tail n [] = Ok (n ∷ [], [])
codes_tail n (b ∷ bs) =
    if b == comma then with_first n (codes_from None bs) else Ok (n ∷ [], b ∷ bs)

-- a token that ends the line
abbrev pub last_token_at : Letters → List ℕ → Result (List ℕ) ℕ
last_token_at letters bs = token_at letters bs >>= (λ r. end_at r.0 r.1)
