use Rattle.std.proofs.Common.{rules, ◌≡◌, ℕ, List, [], ◌∷◌, ◌++◌, ap, refl, sym, ◌∙◌}
use Rattle.sv_core.proofs.Left.{reading_some}
use Rattle.sv_core.proofs.Shown.{order_there}
use Rattle.sv_core.specs.World.{gives}
use Rattle.sv_out.specs.declared.order.Order.{Order}
use Rattle.sv_out.specs.declared.order.Order.TheVariants as order
use Rattle.sv_core.proofs.machine.Machine.read.Goals as goal

pub returns-clause-reads : goal.returns-clause-reads
returns-clause-reads c = λ older w k s.
    let part = c.args.part in
    let asked : Order = order.ReadFile part.file part.span.start part.span.length in
    let same : c.in_ok-file.file ≡ part.file = search rules in
    record {
      world = gives asked w;
      shows = order_there c.args.self.now _ older w asked s refl
          (c.in_ok-push.ensures.items
          ∙ ap (λ (name : List ℕ). c.args.self.now.hand.given.items ++ order.ReadFile name part.span.start part.span.length ∷ []) same);
      is = sym (reading_some c.args.link part k (gives asked w));
    }
