-- The pauses between polls, one after the other.
use Rattle.std.proofs.Common.{◌≡◌, ◌<◌, ◌≤◌, ◌+◌, ◌-◌, ◌++◌, ◌∷◌, ◌∙◌, ℕ, List, [], Bool, true, false, Option, None, Some, ap, append-nil, append_assoc, arith, if◌then◌else◌, refl, replicate, sym, subst}
use Rattle.std.proofs.lemmas.List.{replicate_more}
use Rattle.sv_follow.specs.Follower.{is_anew}
use Rattle.sv_follow.specs.Rests.{Rests, rest_of}
use Rattle.sv_follow.specs.declared.follower.Follower.{Follower}
use Rattle.sv_outside.specs.Told.{GrowsWhileTold}

grows_more : (before mid after : Option (List ℕ)) (first second : List ℕ) → GrowsWhileTold before mid first
    → GrowsWhileTold mid after second → GrowsWhileTold before after (first ++ second)
grows_more None mid after first second none more =
    subst (λ (m : Option (List ℕ)). GrowsWhileTold m after second) none more
grows_more (Some told) None after first second some more =
    subst (λ (a : Option (List ℕ)). GrowsWhileTold (Some told) a (first ++ second)) (sym more) tt
grows_more (Some told) (Some now) None first second some more = tt
grows_more (Some told) (Some now) (Some later) first second some more =
    more ∙ ap (λ (l : List ℕ). l ++ second) some ∙ append_assoc told first second

nothing_grows : (told : Option (List ℕ)) → GrowsWhileTold told told []
nothing_grows None = refl
nothing_grows (Some told) = sym (append-nil told)

-- no pause
pub rests_never : (told : Option (List ℕ)) (polls : ℕ) → Rests told told polls
rests_never told polls = record { count = 0; few = omega arith; told = nothing_grows told }

-- nothing is waited for
pub no_rest : (follower : Follower) (told : Option (List ℕ)) → is_anew follower ≡ true → GrowsWhileTold told told (rest_of follower)
no_rest follower told is =
    subst (λ (b : Bool). GrowsWhileTold told told (if b then [] else 1000 ∷ [])) (sym is) (nothing_grows told)

-- a second is waited for
pub a_rest : (follower : Follower) (before after : Option (List ℕ)) → is_anew follower ≡ false
    → GrowsWhileTold before after (1000 ∷ []) → GrowsWhileTold before after (rest_of follower)
a_rest follower before after is grows =
    subst (λ (b : Bool). GrowsWhileTold before after (if b then [] else 1000 ∷ [])) (sym is) grows

rests_by : (anew : Bool) (before mid after : Option (List ℕ)) (polls : ℕ) → Rests before mid polls
    → GrowsWhileTold mid after (if anew then [] else 1000 ∷ []) → Rests before after (polls + 1)
rests_by true before mid after polls rests grows = record {
  count = rests.count;
  few = omega (arith, rests.few);
  told = subst (λ (l : List ℕ). GrowsWhileTold before after l) (append-nil (replicate rests.count 1000))
      (grows_more before mid after (replicate rests.count 1000) [] rests.told grows);
}
rests_by false before mid after polls rests grows = record {
  count = rests.count + 1;
  few = omega (arith, rests.few);
  told = subst (λ (l : List ℕ). GrowsWhileTold before after l) (replicate_more rests.count 1000)
      (grows_more before mid after (replicate rests.count 1000) (1000 ∷ []) rests.told grows);
}

-- after a further poll, of those that are left
pub rests_on : (before mid after : Option (List ℕ)) (polls left : ℕ) (follower : Follower) → 0 < left → left ≤ polls
    → Rests before mid (polls - left) → GrowsWhileTold mid after (rest_of follower) → Rests before after (polls - (left - 1))
rests_on before mid after polls left follower some within rests grows =
    subst (λ (n : ℕ). Rests before after n) (let same : polls - left + 1 ≡ polls - (left - 1) = omega (arith, some, within) in same)
    (rests_by (is_anew follower) before mid after (polls - left) rests grows)

-- where some polls are left
pub rests_over : (before after : Option (List ℕ)) (polls left : ℕ) → Rests before after (polls - left) → Rests before after polls
rests_over before after polls left rests =
    record { count = rests.count; few = omega (arith, rests.few); told = rests.told }
