-- Reports of one edge after the other.
use Rattle.std.proofs.Common.{◌≡◌, ℕ, ◌-◌, ◌≤◌, ◌<◌, List, [], ◌∷◌, ◌++◌, Option, Some, None, append-nil, append_assoc, arith, length, take, drop, get_or, refl, sym, ap, ◌∙◌}
use Rattle.std.proofs.Math.Seq.{take-length}
use Rattle.std.specs.List.{slice_get}
use Rattle.sv_base.specs.declared.spec.GroupSpec.{GroupSpec}
use Rattle.sv_base.specs.declared.spec.Spec.{Spec}
use Rattle.sv_child.specs.declared.step.Edge.{Edge}
use Rattle.sv_children.specs.Crew.{Crew}
use Rattle.sv_children.specs.Orders.{reports_at, reports_of}
use Rattle.sv_groups.specs.StartOrder.{pairs_of}
use Rattle.sv_out.specs.declared.order.Order.{Order}

tail_is : (edge : Option Edge) (edges : List (Option Edge)) → take (length (edge ∷ edges) - 1) (drop 1 (edge ∷ edges)) ≡ edges
tail_is edge edges = ap (λ n. take n edges) (omega arith) ∙ take-length edges

first_reported : (pair : Option (GroupSpec × Spec)) (edge : Option Edge) (edges : List (Option Edge))
    → reports_of pair (edge ∷ []) ++ reports_of pair edges ≡ reports_of pair (edge ∷ edges)
first_reported None edge edges = refl
first_reported (Some pair) None edges = refl
first_reported (Some pair) (Some edge) edges = refl

none_reported : (pair : Option (GroupSpec × Spec)) → reports_of pair [] ≡ []
none_reported None = refl
none_reported (Some pair) = refl

pub no_edge : (crew : Crew) (place : ℕ) (given : List Order) → given ≡ given ++ reports_at crew place (None ∷ [])
no_edge crew place given = by_pair (slice_get (pairs_of crew.roster) place) where
  by_pair : (pair : Option (GroupSpec × Spec)) → given ≡ given ++ reports_of pair (None ∷ [])
  by_pair None = sym (append-nil given)
  by_pair (Some pair) = sym (append-nil given)

pub reports_loop : (crew : Crew) (place : ℕ) (left : List (Option Edge)) (none : Option Edge) (given later all : List Order) → 1 ≤ length left
    → later ≡ given ++ reports_at crew place (get_or left 0 none ∷ [])
    → given ++ reports_at crew place left ≡ all
    → later ++ reports_at crew place (take (length left - 1) (drop 1 left)) ≡ all
reports_loop crew place [] none given later all some is so_far = absurd (omega arith)
reports_loop crew place (edge ∷ edges) none given later all some is so_far =
    ap (λ (t : List (Option Edge)). later ++ reports_at crew place t) (tail_is edge edges)
    ∙ ap (λ (l : List Order). l ++ reports_at crew place edges) is
    ∙ append_assoc given (reports_at crew place (edge ∷ [])) (reports_at crew place edges)
    ∙ ap (λ (l : List Order). given ++ l) (first_reported (slice_get (pairs_of crew.roster) place) edge edges)
    ∙ so_far

pub reports_end : (crew : Crew) (place : ℕ) (left : List (Option Edge)) (given all : List Order) → length left < 1
    → given ++ reports_at crew place left ≡ all → given ≡ all
reports_end crew place [] given all none is =
    sym (append-nil given) ∙ ap (λ (l : List Order). given ++ l) (sym (none_reported (slice_get (pairs_of crew.roster) place))) ∙ is
reports_end crew place (edge ∷ edges) given all none is = absurd (omega (arith, none))
