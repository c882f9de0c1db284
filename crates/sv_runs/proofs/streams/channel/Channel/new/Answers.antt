use Rattle.sv_runs.proofs.StreamsLemmas.Captured.{new_captured}
use Rattle.sv_runs.proofs.streams.channel.Channel.new.Goals as goal

pub returns-in_ok-capture : goal.returns-in_ok-capture
returns-in_ok-capture c = new_captured c.in_ok-capture.capture c.args.limit c.if-limit-eq0.false c.in_ok-capture.ensures
