use Rattle.std.proofs.Common.{◌≡◌, Some, None, ◌∙◌, ap, sym}
use Rattle.sv_core.proofs.Shown.{at_same}
use Rattle.sv_core.proofs.Standing.{left_there, nothing_answered_at}
use Rattle.sv_core.specs.StandsFor.{rest}
use Rattle.sv_core.specs.Turn.{come}
use Rattle.sv_core.specs.declared.part.Followed.TheVariants as followed
use Rattle.sv_core.proofs.machine.Machine.go_on_with.Goals as goal

pub returns-in-None-clause-turn : goal.returns-in-None-clause-turn
returns-in-None-clause-turn c = λ older w s.
    let stood : c.args.self.now.hand.place ≡ None = sym c.take.ensures.value ∙ c.in-None.is in
    rw (stood, c.take.ensures.after) (nothing_answered_at c.args.self.now older c.args.reply w s)

pub returns-in_ok-go_on_from-in-Some-clause-turn : goal.returns-in_ok-go_on_from-in-Some-clause-turn
returns-in_ok-go_on_from-in-Some-clause-turn c = λ older w s.
    let stood : c.args.self.now.hand.place ≡ Some c.in-Some.place = sym c.take.ensures.value ∙ c.in-Some.is in
    at_same _ older _ _ _ (ap (λ p. come (rest p w) (followed.Answered c.args.reply)) stood)
    (c.in_ok-go_on_from-in-Some.ensures.turn older w (left_there c.args.self.now older _ w s))
