-- Lists that are gathered one by one, where each is some.
use Rattle.std.proofs.Common.{◌≡◌, List, [], ◌∷◌, ◌++◌, Option, Some, None, option_map, refl, ap, sym, ◌∙◌, append_assoc, append-nil}

pub one_more : {A : Type 0} (done : List A) (one : A) (rest : Option (List A))
    → option_map (λ more. done ++ more) (option_map (λ more. one ∷ more) rest) ≡ option_map (λ more. (done ++ one ∷ []) ++ more) rest
one_more done one None = refl
one_more done one (Some rest) = ap Some (sym (append_assoc done (one ∷ []) rest))

pub no_more : {A : Type 0} (done : List A) → option_map (λ more. done ++ more) (Some []) ≡ Some done
no_more done = ap Some (append-nil done)
