use Rattle.std.proofs.Common.{◌≡◌, List, ℕ, ap, subst, sym, ◌∙◌}
use Rattle.sv_core.proofs.Shown.{all_taken, streams_there}
use Rattle.sv_core.specs.Output.{says_on, takes_all}
use Rattle.sv_core.specs.StandsFor.{Shows}
use Rattle.sv_core.specs.World.{World}
use Rattle.sv_runs.specs.Streams.StreamBook.{channel_in, fed, new_parts, owner_in}
use Rattle.sv_core.proofs.machine.Machine.hear_on.Goals as goal

pub returns-clause-hears : goal.returns-clause-hears
returns-clause-hears c = λ older w s.
    let run = c.args.run in
    let pipe = c.args.pipe in
    let said = c.as_slice.result.now in
    let book : s.streams ≡ w.streams = sym (ap (λ (v : World). v.streams) s.is) in
    let written = streams_there c.args.self.now older w (fed run pipe said) s c.feed.new.self c.in_ok-parts.ensures.kept in
    let taken = all_taken c.take_all.new.self older _ _ _ _ _ _ _
    (c.owner-owner.ensures s.streams s.streams_kept ∙ ap (owner_in run) book)
    (c.channel-channel.ensures s.streams s.streams_kept ∙ ap (channel_in run pipe) book)
    (c.as_slice-2.ensures.value ∙ c.in_ok-parts.ensures.parts s.streams s.streams_kept ∙ ap (new_parts run pipe said) book)
    (c.in_ok-take_all.ensures.takes older _ written) in
    let new = c.say_on.new.self in
    subst (λ (bytes : List ℕ). Shows new older (says_on pipe run c.args.piece.now
    (takes_all (owner_in run w.streams) (channel_in run pipe w.streams) (new_parts run pipe bytes w.streams)
    (record w { streams = fed run pipe bytes w.streams })))) c.as_slice.ensures.value
    (c.in_ok-say_on.ensures.says older _ taken)
