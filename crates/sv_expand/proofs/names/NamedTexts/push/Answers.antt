use Rattle.std.proofs.Common.{arith}
use Rattle.std.proofs.lemmas.Grind.{common_steps}
use Rattle.sv_expand.proofs.Places.{place_push}
use Rattle.sv_expand.proofs.names.NamedTexts.push.Goals as goal

pub invariant_of-self-in-Ok : goal.invariant_of-self-in-Ok
invariant_of-self-in-Ok c = λ name.
    let held = c.self.invariant name in
    let adds = c.in-Ok.ensures.ok name in
    let more = place_push name c.self.inside.pairs.items c.args.pair in
    grind (arith, common_steps)
