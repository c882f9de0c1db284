use Rattle.sv_runs.proofs.Talks.{new_keeps}
use Rattle.sv_runs.proofs.open_run.OpenRun.new.Goals as goal

pub returns-then-is_listener : goal.returns-then-is_listener
returns-then-is_listener c number =
    new_keeps c.with_talk.result c.new.result number c.args.child c.args.pid c.args.is_listener c.if-is_listener.true c.new.ensures c.with_talk.ensures
