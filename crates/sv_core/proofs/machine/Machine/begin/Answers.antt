use Rattle.std.proofs.Common.{ap, ◌∙◌}
use Rattle.sv_core.proofs.Shown.{at_same}
use Rattle.sv_core.proofs.Standing.{turn_begun}
use Rattle.sv_core.specs.Events.{announces}
use Rattle.sv_core.specs.Turn.{after_stimulus, applies, rewinds}
use Rattle.sv_core.specs.declared.part.Cause.{Cause}
use Rattle.sv_core.proofs.machine.Machine.begin.Goals as goal

pub returns-in_ok-after_stimulus-in-Tick-clause-turn : goal.returns-in_ok-after_stimulus-in-Tick-clause-turn
returns-in_ok-after_stimulus-in-Tick-clause-turn c = λ older w s.
    let now = c.rewind.ensures.rewound older _ (c.in_ok-announce.ensures.announced older w s) in
    at_same _ older _ _ _ (turn_begun c.args.cause c.args.at c.args.self.now.hand.place w
    ∙ ap (λ (cause : Cause). applies cause (rewinds c.args.at (announces w)) after_stimulus) c.in-Tick.is)
    (c.in_ok-after_stimulus-in-Tick.ensures.rest older _ now)

pub returns-in_ok-stimulate-in_default-clause-turn : goal.returns-in_ok-stimulate-in_default-clause-turn
returns-in_ok-stimulate-in_default-clause-turn c = λ older w s.
    let now = c.rewind.ensures.rewound older _ (c.in_ok-announce.ensures.announced older w s) in
    at_same _ older _ _ _ (turn_begun c.args.cause c.args.at c.args.self.now.hand.place w)
    (c.in_ok-stimulate-in_default.ensures.turn older _ now)
