use Rattle.std.proofs.Common.{◌++◌, ◌∙◌, ap}
use Rattle.sv_pipes.proofs.Captures.{close_stands}
use Rattle.sv_pipes.proofs.StreamReading.{end_is}
use Rattle.sv_pipes.specs.Kept.{logged_part}
use Rattle.sv_pipes.proofs.captured.Capture.close.Goals as goal

closed : goal.returns-clause-closed
closed c = λ limit stream decided stands.
    close_stands limit c.args.self.now.side c.args.self.now.matched c.args.self.now.body.items
    c.flush.new.parts.items stream decided
    (c.in_ok-flush.ensures.parts ∙ ap (λ parts. parts ++ logged_part c.in_ok-logged.logged.items) c.new-parts.ensures.items
    ∙ ap (λ bytes. logged_part bytes) c.in_ok-logged.ensures) stands.2

pub returns-clause-closed : goal.returns-clause-closed
returns-clause-closed c = closed c

pub returns-clause-read : goal.returns-clause-read
returns-clause-read c = λ limit stream decided stands.
    let all = closed c limit stream decided stands in
    (all.0, all.1, end_is limit stream (decided ++ all.0) all.2)
