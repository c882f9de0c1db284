use Rattle.std.proofs.Common.{◌≡◌, ap, sym, ◌∙◌}
use Rattle.sv_core.proofs.Shown.{all_taken, runs_there, streams_there}
use Rattle.sv_core.specs.World.{World}
use Rattle.sv_runs.specs.RunBook as runs_of
use Rattle.sv_runs.specs.Streams.StreamBook.{channel_in, last_parts, owner_in, pipe_ended}
use Rattle.sv_core.proofs.machine.Machine.end_pipe.Goals as goal

pub returns-clause-ends : goal.returns-clause-ends
returns-clause-ends c = λ older w s.
    let run = c.args.run in
    let pipe = c.args.pipe in
    let book : s.streams ≡ w.streams = sym (ap (λ (v : World). v.streams) s.is) in
    let written = streams_there c.args.self.now older w (pipe_ended run pipe) s c.end.new.self c.in_ok-parts.ensures.kept in
    let booked = runs_there _ older _ (runs_of.pipe_ended run pipe) written c.end_pipe.new.self c.end_pipe.ensures in
    all_taken c.take_all.new.self older _ _ _ _ _ _ _
    (c.owner-owner.ensures s.streams s.streams_kept ∙ ap (owner_in run) book)
    (c.channel-channel.ensures s.streams s.streams_kept ∙ ap (channel_in run pipe) book)
    (c.as_slice.ensures.value ∙ c.in_ok-parts.ensures.parts s.streams s.streams_kept ∙ ap (last_parts run pipe) book)
    (c.in_ok-take_all.ensures.takes older _ booked)
