use Rattle.std.proofs.Common.{ℕ, ap, sym, ◌∙◌, subst}
use Rattle.sv_pipes.proofs.Undecided.{stands_number, stands_undecided}
use Rattle.sv_pipes.specs.Talk.{IsUndecided}
use Rattle.sv_pipes.specs.TalkPlaces.{state_of, undecided_at}
use Rattle.sv_pipes.proofs.talk.ListenerTalk.held.Goals as goal

pub returns-clause-cut : goal.returns-clause-cut
returns-clause-cut c = λ talk tokens stands.
    let me = c.args.self.now in
    let is = c.undecided.ensures.value ∙ ap (λ held. undecided_at me.place held) c.as_slice.ensures.value in
    subst (λ (count : ℕ). IsUndecided talk tokens (state_of me.place) count) (sym is)
    (stands_undecided me.place me.held.items talk tokens stands)

pub returns-clause-read : goal.returns-clause-read
returns-clause-read c = λ talk tokens stands.
    let me = c.args.self.now in
    c.undecided.ensures.value ∙ ap (λ held. undecided_at me.place held) c.as_slice.ensures.value
    ∙ stands_number me.place me.held.items talk tokens stands
