-- Sorting by insertion keeps each element.
use Rattle.std.proofs.Common.{ℕ, ℤ, List, [], ◌∷◌, ◌++◌, map, sym, subst, append_assoc, append-nil}
use Rattle.std.proofs.lemmas.List.Sorted.{IsPermutation-refl, IsPermutation-to_front, IsPermutation-insert, IsPermutation-append_left, IsPermutation-trans}
use Rattle.std.specs.List.{prefix_len}
use Rattle.std.specs.List.Sorted.{IsPermutation}
use Rattle.std.specs.Ordering.{is_lt}
use Rattle.sv_base.specs.Order.{start_order}
use Rattle.sv_base.specs.declared.spec.GroupSpec.{GroupSpec}
use Rattle.sv_base.specs.declared.spec.Spec.{Spec}
use Rattle.sv_conf.specs.Configuration.{sorted_members, sorted_groups, with_sorted}
use Rattle.sv_ranks.specs.Ranks.{placed, sorted_from}

module _ {A : Type 0} (priority : A → ℤ) (name : A → List ℕ) where
  one_placed : (done : List A) (one : A) → IsPermutation (done ++ one ∷ []) (placed priority name done one)
  unfolding placed
  one_placed done one =
      IsPermutation-trans (done ++ one ∷ []) (one ∷ done) (placed priority name done one) (IsPermutation-to_front done one)
      (IsPermutation-insert done (prefix_len (λ other. is_lt (start_order priority name other one)) done) one)

  all_placed : (done more : List A) → IsPermutation (done ++ more) (sorted_from priority name done more)
  all_placed done [] = subst (λ (all : List A). IsPermutation all done) (sym (append-nil done)) (IsPermutation-refl done)
  all_placed done (one ∷ more) =
      IsPermutation-trans (done ++ one ∷ more) (placed priority name done one ++ more) (sorted_from priority name (placed priority name done one) more)
      (subst (λ (all : List A). IsPermutation all (placed priority name done one ++ more)) (append_assoc done (one ∷ []) more)
      (IsPermutation-append_left more (done ++ one ∷ []) (placed priority name done one) (one_placed done one)))
      (all_placed (placed priority name done one) more)

pub members_kept : (members : List Spec) → IsPermutation members (sorted_members members)
members_kept members = all_placed (λ (m : Spec). m.priority) (λ (m : Spec). m.name) [] members

pub groups_kept : (groups : List GroupSpec) → IsPermutation (map with_sorted groups) (sorted_groups groups)
unfolding sorted_groups
groups_kept groups = all_placed (λ (g : GroupSpec). g.priority) (λ (g : GroupSpec). g.name) [] (map with_sorted groups)
