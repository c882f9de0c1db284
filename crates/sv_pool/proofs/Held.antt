use Rattle.std.proofs.Common.{◌≡◌, ◌++◌, List, [], ◌∷◌, length, IsSome, Option, Some, None, is_some, refl, slice_get, arith}
use Rattle.std.proofs.lemmas.Grind.{common_steps}
use Rattle.std.specs.List.{count_by}
use Rattle.std.specs.Option.{option_to_list}
use Rattle.sv_pool.specs.PoolLists.{held_events}
use Rattle.sv_pool.specs.declared.taken.Taken.{Taken}

-- how many events are held
pub count_held : (held : List (Option Taken)) → count_by (λ place. is_some place) held ≡ length (held_events held)
count_held [] = refl
count_held (None ∷ held) = grind (arith, common_steps, count_held held)
count_held (Some taken ∷ held) = grind (arith, common_steps, count_held held)

-- no first element is no element
pub none_first : {A : Type 0} (xs : List A) → slice_get xs 0 ≡ None → xs ≡ []
none_first [] e = refl
none_first (x ∷ xs) e = cc

-- what is put in front is the front
pub front_is : {A : Type 0} (o : Option A) (xs : List A) → IsSome o → slice_get (option_to_list o ++ xs) 0 ≡ o
front_is None xs some = cc
front_is (Some x) xs some = refl
