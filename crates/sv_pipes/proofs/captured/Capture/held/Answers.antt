use Rattle.std.proofs.Common.{◌+◌, ap, ◌∙◌}
use Rattle.sv_pipes.proofs.Undecided.{stream_number}
use Rattle.sv_pipes.proofs.captured.Capture.held.Goals as goal

pub returns-clause-read : goal.returns-clause-read
returns-clause-read c = λ limit stream decided stands.
    let me = c.args.self.now in
    ap (λ n. n + me.matched) (c.len.ensures ∙ me.body.ok.0)
    ∙ stream_number limit me.side me.matched me.body.items stream decided stands.2
