-- How many bytes characters have.
use Rattle.std.proofs.Common.{◌≡◌, ◌+◌, ℕ, List, ◌∷◌, ◌++◌, [], length, refl, ap, ◌∙◌, length-append, arith}
use Rattle.std.specs.Prelude.{encode_utf8, encode_utf8_all}
use Rattle.std.specs.Char.{len_utf8}
use Rattle.std.proofs.lemmas.Str.{encodes-append, length-encode}

abbrev pub size : List ℕ → ℕ
size cs = length (encode_utf8_all cs)

pub size_append : (cs more : List ℕ) → size (cs ++ more) ≡ size cs + size more
size_append cs more = ap length (encodes-append cs more) ∙ length-append (encode_utf8_all cs) (encode_utf8_all more)

pub size_one : (c : ℕ) → size (c ∷ []) ≡ len_utf8 c
size_one c = length-append (encode_utf8 c) [] ∙ omega (arith, length-encode c)

pub size_cons : (c width : ℕ) (cs : List ℕ) → len_utf8 c ≡ width → size (c ∷ cs) ≡ width + size cs
size_cons c width cs is = length-append (encode_utf8 c) (encode_utf8_all cs) ∙ ap (λ n. n + size cs) (length-encode c ∙ is)

-- a form after its bracket and its name
pub size_form : (n form : List ℕ) → size (37 ∷ 40 ∷ (n ++ 41 ∷ form)) ≡ 3 + (size n + size form)
size_form n form =
    let one = size_cons 37 1 (40 ∷ (n ++ 41 ∷ form)) refl in
    let two = size_cons 40 1 (n ++ 41 ∷ form) refl in
    let name = size_append n (41 ∷ form) in
    let three = size_cons 41 1 form refl in
    omega (arith, one, two, name, three)
