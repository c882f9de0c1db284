-- A child that takes an edge gives the order that reports it.
use Rattle.std.proofs.Common.{◌≡◌, ℕ, ◌++◌, List, [], ◌∷◌, Option, Some, None, ◌∙◌, refl, ap}
use Rattle.std.specs.Prelude.{slice_get}
use Rattle.sv_base.specs.declared.spec.GroupSpec.{GroupSpec}
use Rattle.sv_base.specs.declared.spec.Spec.{Spec}
use Rattle.sv_child.specs.Moves.{Answer}
use Rattle.sv_child.specs.declared.step.Edge.{Edge}
use Rattle.sv_children.specs.Orders.{reports_of}
use Rattle.sv_core.specs.Events.{offers_if}
use Rattle.sv_core.specs.Logging.{notes_if}
use Rattle.sv_core.specs.Moves.{changed, goes_edges, moves}
use Rattle.sv_core.specs.Sweeps.{Turn}
use Rattle.sv_core.specs.World.{World}
use Rattle.sv_cut_laws.proofs.Both.{as_they_are, later, to}
use Rattle.sv_cut_laws.proofs.Loud.{IsNatural, Loud, loud_at}
use Rattle.sv_cut_laws.proofs.Past.{edges_past, notes_past, offers_if_past}
use Rattle.sv_cut_laws.proofs.Turns.{IsLater, of_questions}
use Rattle.sv_children.specs.EdgeFacts.{fact_at, kind_of, pid_at}
use Rattle.sv_groups.specs.StartOrder.{pairs_of}
use Rattle.sv_children.specs.Lines.EdgeLines.{line_at}
use Rattle.sv_out.specs.declared.order.Order.{Order}
use Rattle.sv_out.specs.declared.order.Order.TheVariants as order

module _ (c : ℕ) (w : World) (pair : GroupSpec × Spec) (answer : Answer) (first : Edge) (more : List (Option Edge))
    (rest : World → (World → Turn) → Turn) (natural : (k : World → Turn) → IsNatural k → IsNatural (λ x. rest x k)) where
  abbrev report : Order
  report = order.State pair.0.name pair.1.name first.from first.to

  abbrev beyond : World
  beyond = changed c (Some answer) w

  abbrev told : World
  told = record beyond { given = w.given ++ report ∷ [] }

  -- what comes after the report
  abbrev behind_report : World → World
  behind_report x =
      goes_edges None c (pid_at w.children c) more
      (offers_if (kind_of first.to) (fact_at beyond.children c (pid_at w.children c) first) (notes_if (line_at beyond.children c None first) x))

  abbrev on_report : (World → Turn) → World → Turn
  on_report k x = rest (behind_report x) k

  behind_later : (a : List Order) (x : World) → behind_report (later a x) ≡ later a (behind_report x)
  behind_later a x =
      let line = line_at beyond.children c None first in
      let event = fact_at beyond.children c (pid_at w.children c) first in
      let pid = pid_at w.children c in
      ap (λ (y : World). goes_edges None c pid more (offers_if (kind_of first.to) event y)) (notes_past a as_they_are line x)
      ∙ ap (λ (y : World). goes_edges None c pid more y) (offers_if_past a as_they_are (kind_of first.to) event (notes_if line x))
      ∙ edges_past a as_they_are None c pid more (offers_if (kind_of first.to) event (notes_if line x))

  on_natural : (k : World → Turn) → IsNatural k → IsNatural (on_report k)
  on_natural k goes a x =
      to a (IsLater a) (of_questions a) (λ y. rest y k) (behind_report x) (behind_report (later a x)) (natural k goes a) (behind_later a x)

  pub edge_loud : slice_get (pairs_of w.children.roster) c ≡ Some pair → answer.step.edges ≡ Some first ∷ more
      → Loud w (λ k. rest (moves None c (Some answer) w) k)
  edge_loud at edges =
      loud_at w told [] report (λ k. rest (moves None c (Some answer) w) k) on_report refl refl
      (λ k. ap (λ (es : List (Option Edge)). rest (goes_edges None c (pid_at w.children c) es beyond) k) edges
      ∙ ap (λ (p : Option (GroupSpec × Spec)). on_report k (record beyond { given = w.given ++ reports_of p (Some first ∷ []) })) at)
      on_natural
