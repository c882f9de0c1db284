use Rattle.sv_runs.proofs.StreamsLemmas.Captured.{more_captured, more_parts}
use Rattle.sv_runs.proofs.streams.channel.Channel.feed.Goals as goal

pub returns-in_ok-parts-in-Some-clause-kept : goal.returns-in_ok-parts-in-Some-clause-kept
returns-in_ok-parts-in-Some-clause-kept c = λ limit stream is.
    more_captured c.in-Some.capture c.feed.new.self c.args.piece.now c.in_ok-parts-in-Some.parts.items limit stream
    c.in_ok-parts-in-Some.ensures.cut (rw c.in-Some.is at is)

pub returns-in_ok-parts-in-Some-clause-parts : goal.returns-in_ok-parts-in-Some-clause-parts
returns-in_ok-parts-in-Some-clause-parts c = λ limit stream is.
    more_parts c.in-Some.capture c.args.piece.now c.in_ok-parts-in-Some.parts.items limit stream c.in_ok-parts-in-Some.ensures.read (rw c.in-Some.is at is)
