-- What a table of places finds is what going through the list finds.
use Rattle.std.proofs.Common.{◌≡◌, ℕ, ◌+◌, ◌≤◌, List, [], ◌∷◌, ◌++◌, Bool, true, false, cond, eqb, nat_lt, length, refl, ap, ◌∙◌, arith, length-append}
use Rattle.std.specs.Prelude.{Option, Some, None}
use Rattle.std.specs.List.{slice_get, find, position_or_len}
use Rattle.std.specs.Option.{option_map, option_or}
use Rattle.std.specs.Str.{bytes_eq}
use Rattle.std.proofs.lemmas.Bool.Decides.{nat_tests}
use Rattle.std.proofs.lemmas.List.Folds.{find_at, position_or_len_push}
use Rattle.std.proofs.lemmas.List.Sums.{prefix_len-le-length}
use Rattle.sv_expand.specs.Places.{has_name, place_of, text_at}
use Rattle.sv_expand.specs.Values.{value_of}

abbrev text : List ℕ × List ℕ → List ℕ
text pair = pair.1

map_choice : (b : Bool) (pair : List ℕ × List ℕ) (rest : Option (List ℕ)) (more : Option (List ℕ × List ℕ)) → rest ≡ option_map text more
    → cond b (Some pair.1) rest ≡ option_map text (cond b (Some pair) more)
map_choice true pair rest more is = refl
map_choice false pair rest more is = is

found : (name : List ℕ) (pairs : List (List ℕ × List ℕ)) → value_of name pairs ≡ option_map text (find (has_name name) pairs)
found name [] = refl
found name (pair ∷ pairs) = map_choice (bytes_eq pair.0 name) pair (value_of name pairs) (find (has_name name) pairs) (found name pairs)

behind_all : {A : Type 0} (xs : List A) → slice_get xs (length xs) ≡ None
behind_all [] = refl
behind_all (x ∷ xs) = behind_all xs

placed : (b : Bool) (n place : ℕ) → cond b (Some n) None ≡ Some place → n ≡ place
placed true n place is = cc
placed false n place is = cc

not_placed : (b : Bool) (n : ℕ) → cond b (Some n) None ≡ None → b ≡ false
not_placed true n is = cc
not_placed false n is = refl

at_end : (n len : ℕ) → n ≤ len → nat_lt n len ≡ false → n ≡ len
at_end n len most is = grind (arith, nat_tests)

-- the text at the place that a name has
pub at_place : (name : List ℕ) (pairs : List (List ℕ × List ℕ)) (place : ℕ) → place_of name pairs ≡ Some place
    → value_of name pairs ≡ text_at place pairs
at_place name pairs place is =
    let n = position_or_len (has_name name) pairs in
    found name pairs
    ∙ (ap (option_map text) (find_at (has_name name) pairs)
    ∙ ap (λ (k : ℕ). option_map text (slice_get pairs k)) (placed (nat_lt n (length pairs)) n place is))

pub no_place : (name : List ℕ) (pairs : List (List ℕ × List ℕ)) → place_of name pairs ≡ None → value_of name pairs ≡ None
no_place name pairs is =
    let n = position_or_len (has_name name) pairs in
    let most : n ≤ length pairs = prefix_len-le-length _ pairs in
    let end : n ≡ length pairs = at_end n (length pairs) most (not_placed (nat_lt n (length pairs)) n is) in
    found name pairs
    ∙ (ap (option_map text) (find_at (has_name name) pairs)
    ∙ (ap (λ (k : ℕ). option_map text (slice_get pairs k)) end
    ∙ ap (option_map text) (behind_all pairs)))

one_more : (b : Bool) (n len new size : ℕ) → n ≤ len → size ≡ len + 1 → new ≡ cond (eqb n len) (len + cond b 0 1) n
    → cond (nat_lt new size) (Some new) None ≡ option_or (cond (nat_lt n len) (Some n) None) (cond b (Some len) None)
one_more true n len new size most longer is = grind (arith, nat_tests)
one_more false n len new size most longer is = grind (arith, nat_tests)

-- a pair more at the end: its name has that place, where it had none
pub place_push : (name : List ℕ) (pairs : List (List ℕ × List ℕ)) (pair : List ℕ × List ℕ)
    → place_of name (pairs ++ pair ∷ []) ≡ option_or (place_of name pairs) (cond (bytes_eq pair.0 name) (Some (length pairs)) None)
place_push name pairs pair =
    one_more (bytes_eq pair.0 name) (position_or_len (has_name name) pairs) (length pairs) (position_or_len (has_name name) (pairs ++ pair ∷ []))
    (length (pairs ++ pair ∷ [])) (prefix_len-le-length _ pairs) (length-append pairs (pair ∷ [])) (position_or_len_push (has_name name) pairs pair)
