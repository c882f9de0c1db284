-- What the orders of a child's edges tell, where their events and lines between them tell nothing.
use Rattle.std.proofs.Common.{◌≡◌, ℕ, List, [], ◌∷◌, ◌++◌, Option, Some, None, append-nil, append_assoc, refl, sym, ap, ◌∙◌}
use Rattle.sv_base.specs.declared.state.How.{How}
use Rattle.sv_child.specs.declared.step.Edge.{Edge}
use Rattle.sv_children.specs.Crew.{Crew}
use Rattle.sv_children.specs.Orders.{reports_at}
use Rattle.sv_core.specs.Events.{offers_if}
use Rattle.sv_core.specs.Logging.{notes_if}
use Rattle.sv_core.specs.Moves.{goes_edges}
use Rattle.sv_core.specs.World.{World}
use Rattle.sv_core_laws.proofs.Reported.{adds_follow, no_reports, noted, offered_if}
use Rattle.sv_core_laws.proofs.Told.{IsSilent, reports_more, reports_skip}
use Rattle.sv_children.specs.EdgeFacts.{fact_at, kind_of}
use Rattle.sv_children.specs.Lines.EdgeLines.{line_at}
use Rattle.sv_out.specs.declared.order.Order.{Order}

-- the reports of a child's edges, with those of what their events drop between them, tell the same
pub record TellsOf (I X : Type 0) (f : I → List Order → List X) (c : ℕ) (edges : List (Option Edge)) (w v : World) : Type 0 where
  pub crew : v.children ≡ w.children
  pub more : List Order
  pub added : v.given ≡ w.given ++ more
  pub same : (i : I) → f i more ≡ f i (reports_at w.children c edges)

-- what is told by orders one after the other, and nothing by those that report no child
module _ (I X : Type 0) (f : I → List Order → List X) (both : (i : I) (one other : List Order) → f i (one ++ other) ≡ f i one ++ f i other)
    (silent : (i : I) (orders : List Order) → IsSilent orders → f i orders ≡ []) where
  pub told_edges : (how : Option How) (c pid : ℕ) (edges : List (Option Edge)) (w : World) → TellsOf I X f c edges w (goes_edges how c pid edges w)
  told_edges how c pid [] w = record {
    crew = refl;
    more = [];
    added = sym (append-nil w.given);
    same = λ i. ap (f i) (sym (no_reports w.children c));
  }
  told_edges how c pid (None ∷ edges) w =
      let rest = told_edges how c pid edges w in
      record {
        crew = rest.crew;
        more = rest.more;
        added = rest.added;
        same = λ i. rest.same i ∙ ap (f i) (sym (reports_skip w.children c edges));
      }
  told_edges how c pid (Some edge ∷ edges) w =
      let own = reports_at w.children c (Some edge ∷ []) in
      let told = record w { given = w.given ++ own } in
      let fact = fact_at w.children c pid edge in
      let line = line_at w.children c how edge in
      let lined = notes_if line told in
      let v = offers_if (kind_of edge.to) fact lined in
      let a = adds_follow told lined v (noted line told) (offered_if (kind_of edge.to) fact lined) in
      let rest = told_edges how c pid edges v in
      record {
        crew = rest.crew ∙ a.crew;
        more = own ++ (a.more ++ rest.more);
        added = rest.added ∙ ap (λ given. given ++ rest.more) a.added
            ∙ append_assoc (w.given ++ own) a.more rest.more ∙ append_assoc w.given own (a.more ++ rest.more);
        same = λ i.
            both i own (a.more ++ rest.more)
            ∙ ap (λ (xs : List X). f i own ++ xs) (both i a.more rest.more)
            ∙ ap (λ (xs : List X). f i own ++ (xs ++ f i rest.more)) (silent i a.more a.silent)
            ∙ ap (λ (xs : List X). f i own ++ xs) (rest.same i)
            ∙ ap (λ (crew : Crew). f i own ++ f i (reports_at crew c edges)) a.crew
            ∙ sym (both i own (reports_at w.children c edges))
            ∙ ap (f i) (sym (reports_more w.children c edge edges));
      }
