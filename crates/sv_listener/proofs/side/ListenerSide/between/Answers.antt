use Rattle.std.proofs.Common.{◌==◌, ℕ, List, length, ap, ◌∙◌}
use Rattle.sv_listener.proofs.Hearings.{between_is}
use Rattle.sv_listener.proofs.side.ListenerSide.between.Goals as goal

pub returns : goal.returns
returns c = λ stream events stands.
    c.is_empty.ensures ∙ ap (λ (b : List ℕ). length b == 0) c.as_slice.ensures.value
    ∙ between_is c.args.self.now.fault c.args.self.now.held.items stream events stands.1
