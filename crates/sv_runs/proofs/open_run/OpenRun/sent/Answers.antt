use Rattle.std.proofs.Common.{rules}
use Rattle.sv_runs.proofs.Talks.{sent_keeps}
use Rattle.sv_runs.proofs.open_run.OpenRun.sent.Goals as goal

pub returns-then-eq : goal.returns-then-eq
returns-then-eq c r k =
    sent_keeps c.args.self.now c.in-Some.talk c.sent.new.self r (search rules) (search rules) (search rules) (search rules) k
