use Rattle.std.proofs.Common.{◌++◌, refl, ap, sym, ◌∙◌}
use Rattle.sv_listener.proofs.Hearings.{nothing_first}
use Rattle.sv_listener.specs.Hearing.{first_of, hearing_of}
use Rattle.sv_listener.proofs.side.ListenerSide.new.Goals as goal

pub returns : goal.returns
returns c = (
  refl,
  ((λ more. ap (λ b. hearing_of (b ++ more)) (sym c.new.ensures.items)), ap first_of c.new.ensures.items ∙ nothing_first),
)
