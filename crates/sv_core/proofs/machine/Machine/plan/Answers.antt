use Rattle.std.proofs.Common.{ap, sym, ◌∙◌}
use Rattle.sv_core.specs.Calling.{scene_of}
use Rattle.sv_core.specs.World.{World}
use Rattle.sv_methods.specs.MethodTable.{planned}
use Rattle.sv_methods.specs.Scenes.{Scene}
use Rattle.sv_xmlcall.specs.Trees.{call_view}
use Rattle.sv_core.proofs.machine.Machine.plan.Goals as goal

pub returns : goal.returns
returns c = λ older w s.
    let call = call_view c.args.call.now in
    c.in_ok-planned.ensures
    ∙ ap (λ (seen : Scene). planned seen call c.args.self.now.hand.moment) (c.stand-stand.ensures older w s)
    ∙ ap (λ (v : World). planned (scene_of w) call v.moment) (sym s.is)
