use Rattle.sv_runs.proofs.StreamsLemmas.Captured.{last_parts}
use Rattle.sv_runs.proofs.streams.channel.Channel.close.Goals as goal

pub returns-in_ok-parts-in-Some-clause-parts : goal.returns-in_ok-parts-in-Some-clause-parts
returns-in_ok-parts-in-Some-clause-parts c = λ limit stream is.
    last_parts c.in-Some.capture c.in_ok-parts-in-Some.parts.items limit stream c.in_ok-parts-in-Some.ensures.read (rw c.in-Some.is at is)
