use Rattle.std.proofs.Common.{rules, ◌≡◌, ℕ, List, Some, None, [], ◌∷◌, ◌++◌, ap, refl, sym, ◌∙◌, ◌+◌, slice_get}
use Rattle.sv_core.proofs.Left.{clearing_none, clearing_some}
use Rattle.sv_core.proofs.Served.{clears_first, clears_none}
use Rattle.sv_core.proofs.Shown.{order_there}
use Rattle.sv_core.specs.World.{gives}
use Rattle.sv_core.specs.declared.place.Clearing.{Clearing}
use Rattle.sv_out.specs.declared.order.Order.TheVariants as order
use Rattle.sv_core.proofs.machine.Machine.clear_all.Goals as goal

pub returns-in-None-clause-clears : goal.returns-in-None-clause-clears
returns-in-None-clause-clears c = λ older w k s.
    let link = c.args.link in
    let files = c.args.files in
    let none : slice_get files c.args.from ≡ None =
    ap (λ (fs : List (List ℕ)). slice_get fs c.args.from) (sym c.as_slice.ensures) ∙ sym c.in_ok-file_at.ensures ∙ c.in-None.is in
    record { world = w; shows = s; is = clears_none link files c.args.from w k none ∙ sym (clearing_none link k w) }

pub returns-in_ok-push-in-Some-clause-clears : goal.returns-in_ok-push-in-Some-clause-clears
returns-in_ok-push-in-Some-clause-clears c = λ older w k s.
    let link = c.args.link in
    let files = c.args.files in
    let from = c.args.from in
    let file = c.in-Some.file in
    let some : slice_get files from ≡ Some file =
    ap (λ (fs : List (List ℕ)). slice_get fs from) (sym c.as_slice.ensures) ∙ sym c.in_ok-file_at.ensures ∙ c.in-Some.is in
    let p : Clearing = record { file = file; files = files; next = from + 1 } in
    let asked : c.in_ok-asked-in-Some.asked ≡ file = search rules in
    record {
      world = gives (order.ClearFile file) w;
      shows = order_there c.args.self.now _ older w (order.ClearFile file) s refl
          (c.in_ok-push-in-Some.ensures.items ∙ ap (λ (name : List ℕ). c.args.self.now.hand.given.items ++ order.ClearFile name ∷ []) asked);
      is = clears_first link files from file w k some ∙ sym (clearing_some link p k (gives (order.ClearFile file) w));
    }
