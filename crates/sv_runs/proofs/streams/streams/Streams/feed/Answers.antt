use Rattle.std.proofs.Common.{◌≡◌, true, sym, ◌∙◌}
use Rattle.sv_runs.proofs.StreamsLemmas.Changes.{away_stands, there_stands}
use Rattle.sv_runs.proofs.StreamsLemmas.Unchanged.{takes_number, takes_open}
use Rattle.sv_runs.specs.Streams.StreamBook.{StreamRecord, is_over, takes}
use Rattle.sv_runs.proofs.streams.streams.Streams.feed.Goals as goal

pub returns-in-None-clause-kept : goal.returns-in-None-clause-kept
returns-in-None-clause-kept c book s =
    let pipe = c.args.pipe in
    let bytes = c.args.piece.now in
    away_stands c.args.self.now.open c.get_mut.follows.lender-at-none book c.args.run (takes pipe bytes) (takes_number pipe bytes)
    (λ (s : StreamRecord) (e : is_over s ≡ true). takes_open pipe bytes s ∙ e) c.get_mut.follows.holds-at-none (sym c.in-None.ensures.value) s

pub returns-in_ok-parts-in-Some-clause-kept : goal.returns-in_ok-parts-in-Some-clause-kept
returns-in_ok-parts-in-Some-clause-kept c book s =
    let pipe = c.args.pipe in
    let bytes = c.args.piece.now in
    let w = c.feed.new.self in
    there_stands c.args.self.now.open (c.get_mut.follows.lender w) book c.args.run (takes pipe bytes) c.in-Some.open.now w
    (takes_number pipe bytes) (takes_open pipe bytes) (sym c.in-Some.ensures.value) (c.get_mut.follows.holds w)
    c.in_ok-parts-in-Some.ensures.kept s
