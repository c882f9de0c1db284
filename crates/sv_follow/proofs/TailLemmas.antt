-- An array of other than three values is no answer of a tail method.
use Rattle.std.proofs.Common.{arith, ◌≡◌, ◌∷◌, List, [], None, false, length, nat_lt, refl, true}
use Rattle.std.proofs.lemmas.Bool.{ltb-false, ltb-true}
use Rattle.sv_follow.specs.Tails.{tail_of}
use Rattle.sv_xmlcall.specs.Trees.{array, trees_view}
use Rattle.sv_xmlcall.specs.declared.value.Value.{Value}

pub fewer_than_three : (values : List Value) → nat_lt (length values) 3 ≡ true → None ≡ tail_of (array (trees_view values))
fewer_than_three [] fewer = refl
fewer_than_three (text ∷ []) fewer = refl
fewer_than_three (text ∷ size ∷ []) fewer = refl
fewer_than_three (text ∷ size ∷ overflow ∷ values) fewer =
    let few = ltb-true (length (text ∷ size ∷ overflow ∷ values)) 3 fewer in absurd (omega (arith, few))

pub more_than_three : (values : List Value) → nat_lt (length values) 4 ≡ false → None ≡ tail_of (array (trees_view values))
more_than_three [] more = refl
more_than_three (text ∷ []) more = refl
more_than_three (text ∷ size ∷ []) more = refl
more_than_three (text ∷ size ∷ overflow ∷ []) more =
    let many = ltb-false (length (text ∷ size ∷ overflow ∷ [])) 4 more in absurd (omega (arith, many))
more_than_three (text ∷ size ∷ overflow ∷ last ∷ values) more = refl
