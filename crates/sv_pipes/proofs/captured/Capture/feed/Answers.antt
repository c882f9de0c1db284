use Rattle.std.proofs.Common.{[], List, ℕ, ◌++◌, ◌∙◌, ap, refl, subst, sym}
use Rattle.sv_pipes.proofs.Captures.{feed_stands}
use Rattle.sv_pipes.proofs.StreamReading.{stands_decided}
use Rattle.sv_pipes.specs.CapturePlaces.{Stands, reads, steps}
use Rattle.sv_pipes.specs.declared.parts.Part.{Part}
use Rattle.sv_pipes.proofs.captured.Capture.feed.Goals as goal

fed : goal.returns-clause-cut
fed c = λ limit stream decided stands.
    let run = λ (parts : List Part) (logged : List ℕ).
    steps c.args.self.now.limit (reads c.args.self.now.side c.args.self.now.matched c.args.self.now.body.items parts logged) c.args.piece.now in
    let begun = c.in_ok-take_all.ensures.steps ∙ ap (λ parts. run parts c.new-logged.result.items) c.new-parts.ensures.items
    ∙ ap (λ logged. run [] logged) c.new-logged.ensures.items in
    let was : Stands c.args.self.now.limit c.args.self.now.side c.args.self.now.matched c.args.self.now.body.items stream decided
    = subst (λ (n : ℕ). Stands n c.args.self.now.side c.args.self.now.matched c.args.self.now.body.items stream decided) (sym stands.1) stands.2 in
    let all = feed_stands c.args.self.now.limit c.take_all.new.self.limit c.args.self.now.side c.take_all.new.self.side
    c.args.self.now.matched c.take_all.new.self.matched c.args.self.now.body.items c.take_all.new.self.body.items
    c.take_all.new.parts.items c.flush.new.parts.items c.take_all.new.logged.items c.args.piece.now stream decided
    c.take_all.ensures.limit begun c.in_ok-flush.ensures.parts was in
    let same = c.take_all.ensures.limit ∙ stands.1 in (
      all.0,
      all.1,
      (
        refl,
        same,
        subst (λ (n : ℕ). Stands n c.take_all.new.self.side c.take_all.new.self.matched c.take_all.new.self.body.items (stream ++ c.args.piece.now) (decided ++ all.0)) same all.2,
      ),
    )

pub returns-clause-cut : goal.returns-clause-cut
returns-clause-cut c = fed c

pub returns-clause-read : goal.returns-clause-read
returns-clause-read c = λ limit stream decided stands.
    let all = fed c limit stream decided stands in (
      all.0,
      all.1,
      stands_decided limit c.take_all.new.self.side c.take_all.new.self.matched c.take_all.new.self.body.items (stream ++ c.args.piece.now) (decided ++ all.0) all.2.2,
    )
