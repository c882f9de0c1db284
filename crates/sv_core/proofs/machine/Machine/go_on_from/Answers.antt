use Rattle.std.proofs.Common.{Some, ◌∙◌, ap}
use Rattle.sv_core.proofs.Shown.{at_same}
use Rattle.sv_core.proofs.Standing.{links_answered, pass_answered, stimulus_answered}
use Rattle.sv_core.specs.StandsFor.{rest}
use Rattle.sv_core.specs.Turn.{come}
use Rattle.sv_core.specs.declared.part.Followed.TheVariants as followed
use Rattle.sv_core.specs.declared.place.Suspended.{Suspended}
use Rattle.sv_core.proofs.machine.Machine.go_on_from.Goals as goal

pub returns-in_ok-go_on_in_stimulus-in-Stimulus-clause-turn : goal.returns-in_ok-go_on_in_stimulus-in-Stimulus-clause-turn
returns-in_ok-go_on_in_stimulus-in-Stimulus-clause-turn c = λ older w s.
    at_same _ older _ _ _
    (ap (λ (p : Suspended). come (rest (Some p) w) (followed.Answered c.args.reply)) c.in-Stimulus.is
    ∙ stimulus_answered c.in-Stimulus.paused c.args.reply w)
    (c.in_ok-go_on_in_stimulus-in-Stimulus.ensures.turn older w s)

pub returns-in_ok-go_on_in_pass-in-Pass-clause-turn : goal.returns-in_ok-go_on_in_pass-in-Pass-clause-turn
returns-in_ok-go_on_in_pass-in-Pass-clause-turn c = λ older w s.
    at_same _ older _ _ _
    (ap (λ (p : Suspended). come (rest (Some p) w) (followed.Answered c.args.reply)) c.in-Pass.is
    ∙ pass_answered c.in-Pass.paused c.args.reply w)
    (c.in_ok-go_on_in_pass-in-Pass.ensures.turn older w s)

pub returns-in_ok-go_on_in_links-in-Links-clause-turn : goal.returns-in_ok-go_on_in_links-in-Links-clause-turn
returns-in_ok-go_on_in_links-in-Links-clause-turn c = λ older w s.
    at_same _ older _ _ _
    (ap (λ (p : Suspended). come (rest (Some p) w) (followed.Answered c.args.reply)) c.in-Links.is
    ∙ links_answered c.in-Links.serving c.args.reply w)
    (c.in_ok-go_on_in_links-in-Links.ensures.turn older w s)
