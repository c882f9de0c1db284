use Rattle.std.proofs.Common.{◌≡◌, List, [], ◌++◌, sym, ◌∙◌, ap, subst, append-nil}
use Rattle.sv_pipes.proofs.Steps.{steps_stand}
use Rattle.sv_pipes.proofs.TalkReading.{stands_read}
use Rattle.sv_pipes.specs.Talk.{said}
use Rattle.sv_pipes.specs.TalkPlaces.{Stands, Told, shown, steps}
use Rattle.sv_pipes.specs.declared.tokens.Token.{Token}
use Rattle.sv_pipes.proofs.talk.ListenerTalk.feed.Goals as goal

fed : goal.returns-in-Ok-clause-cut
fed c = λ talk tokens stands.
    let begun : steps (shown c.args.self.now []) c.args.piece.now ≡ shown c.take_all.new.self c.take_all.new.tokens.items
    = ap (λ first. steps (shown c.args.self.now first) c.args.piece.now) (sym c.new-tokens.ensures.items) ∙ sym c.in-Ok.ensures in
    let all = steps_stand c.args.piece.now (shown c.args.self.now []) tokens talk
    (subst (λ (told : List Token). Stands c.args.self.now.place c.args.self.now.held.items talk told) (sym (append-nil tokens)) stands) in
    subst (λ (told : Told). Stands told.place told.held (talk ++ said c.args.piece.now) (tokens ++ told.tokens)) begun all

pub returns-in-Ok-clause-cut : goal.returns-in-Ok-clause-cut
returns-in-Ok-clause-cut c = fed c

pub returns-in-Ok-clause-read : goal.returns-in-Ok-clause-read
returns-in-Ok-clause-read c = λ talk tokens stands.
    (stands_read c.take_all.new.self.place c.take_all.new.self.held.items (talk ++ said c.args.piece.now) (tokens ++ c.take_all.new.tokens.items)
    (fed c talk tokens stands)).0
