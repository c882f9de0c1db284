use Rattle.std.proofs.Common.{Option, ap, subst, sym, ◌∙◌}
use Rattle.sv_core.proofs.Shown.{at_same, links_there}
use Rattle.sv_core.proofs.Standing.{link_failed, refused_is, stdin_failed}
use Rattle.sv_core.specs.Listening.{loses_stdin}
use Rattle.sv_core.specs.StandsFor.{At, rest}
use Rattle.sv_core.specs.Turn.{come}
use Rattle.sv_core.specs.declared.failure.Failure.{Failure}
use Rattle.sv_core.specs.declared.machine.Machine.{Machine}
use Rattle.sv_core.specs.declared.part.Followed.TheVariants as followed
use Rattle.sv_core.specs.declared.part.Reply.{Reply}
use Rattle.sv_core.specs.declared.place.Suspended.{Suspended}
use Rattle.sv_links.specs.LinkBook.{ended}
use Rattle.sv_links.specs.LinkBook.Ending.{Failed as Lost}
use Rattle.sv_core.proofs.machine.Machine.suffer.Goals as goal

pub returns-in_ok-go_on_with-in-RefusesQuestion-clause-turn : goal.returns-in_ok-go_on_with-in-RefusesQuestion-clause-turn
returns-in_ok-go_on_with-in-RefusesQuestion-clause-turn c = λ older w s.
    let place = c.args.self.now.hand.place in
    let new = c.go_on_with.new.self in
    at_same new older _ _ _
    (ap (λ (f : Failure). come (rest place w) (followed.Failed f)) c.in-RefusesQuestion.is ∙ refused_is place w)
    (subst (λ (reply : Reply). At new older (come (rest place w) (followed.Answered reply)) (rest new.hand.place)) c.refusal-refusal.ensures
    (c.in_ok-go_on_with-in-RefusesQuestion.ensures.turn older w s))

pub returns-in-LosesLink-clause-turn : goal.returns-in-LosesLink-clause-turn
returns-in-LosesLink-clause-turn c = λ older w s.
    let place = c.args.self.now.hand.place in
    let link = c.in-LosesLink.link in
    record {
      world = record w { links = ended link Lost w.links };
      shows = links_there c.args.self.now older w (ended link Lost) s c.lose.new.self c.lose.ensures;
      is = ap (λ (f : Failure). come (rest place w) (followed.Failed f)) c.in-LosesLink.is ∙ link_failed place link w;
    }

pub returns-in_ok-lose_stdin-in-LosesStdin-clause-turn : goal.returns-in_ok-lose_stdin-in-LosesStdin-clause-turn
returns-in_ok-lose_stdin-in-LosesStdin-clause-turn c = λ older w s.
    let place = c.args.self.now.hand.place in
    let run = c.in-LosesStdin.run' in
    let lost = c.in_ok-lose_stdin-in-LosesStdin.ensures in
    record {
      world = loses_stdin run w;
      shows = lost.loses older w s;
      is = ap (λ (f : Failure). come (rest place w) (followed.Failed f)) c.in-LosesStdin.is ∙ stdin_failed place run w
          ∙ ap (λ (p : Option Suspended). rest p (loses_stdin run w)) (sym (ap (λ (x : Machine). x.hand.place) lost.kept));
    }
