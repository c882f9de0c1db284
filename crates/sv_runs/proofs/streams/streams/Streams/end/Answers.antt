use Rattle.std.proofs.Common.{sym}
use Rattle.sv_runs.proofs.StreamsLemmas.Changes.{away_stands, gone_stands, still_stands}
use Rattle.sv_runs.proofs.StreamsLemmas.Unchanged.{ends_number, ends_over}
use Rattle.sv_runs.specs.Streams.StreamBook.{ends}
use Rattle.sv_runs.proofs.streams.streams.Streams.end.Goals as goal

pub returns-in-None-clause-kept : goal.returns-in-None-clause-kept
returns-in-None-clause-kept c book s =
    let pipe = c.args.pipe in
    away_stands c.args.self.now.open c.get_mut.follows.lender-at-none book c.args.run (ends pipe) (ends_number pipe) (ends_over pipe)
    c.get_mut.follows.holds-at-none (sym c.in-None.ensures.value) s

pub returns-then-is_over-clause-kept : goal.returns-then-is_over-clause-kept
returns-then-is_over-clause-kept c book s =
    let pipe = c.args.pipe in
    let w = c.end.new.self in
    gone_stands c.args.self.now.open (c.get_mut.follows.lender w) c.remove.new.self book c.args.run (ends pipe) c.in-Some.open.now w
    c.is_over.result (ends_number pipe) (sym c.in-Some.ensures.value) (c.get_mut.follows.holds w) c.remove.ensures.updates
    c.in_ok-parts-in-Some.ensures.kept c.is_over.ensures c.if-is_over.true s

pub returns-else-is_over-clause-kept : goal.returns-else-is_over-clause-kept
returns-else-is_over-clause-kept c book s =
    let pipe = c.args.pipe in
    let w = c.end.new.self in
    still_stands c.args.self.now.open (c.get_mut.follows.lender w) book c.args.run (ends pipe) c.in-Some.open.now w c.is_over.result
    (ends_number pipe) (sym c.in-Some.ensures.value) (c.get_mut.follows.holds w) c.in_ok-parts-in-Some.ensures.kept c.is_over.ensures
    c.if-is_over.false s
