use Rattle.std.proofs.Common.{ap, ◌∙◌}
use Rattle.sv_methods.specs.Scenes.{Scene}
use Rattle.sv_calls.specs.Waits.{checked}
use Rattle.sv_core.proofs.machine.Machine.check.Goals as goal

pub returns : goal.returns
returns c = λ older w s.
    c.in_ok-answered.ensures ∙ ap (λ (seen : Scene). checked seen c.args.waiting.now) (c.stand-stand.ensures older w s)
