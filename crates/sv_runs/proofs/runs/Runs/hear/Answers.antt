use Rattle.std.proofs.Common.{sym}
use Rattle.sv_runs.specs.RunBook.{says}
use Rattle.sv_runs.proofs.Changes.{away_stands, there_stands}
use Rattle.sv_runs.proofs.Unchanged.{over_too, says_number, says_open}
use Rattle.sv_runs.proofs.runs.Runs.hear.Goals as goal

pub returns-in-None-clause-kept : goal.returns-in-None-clause-kept
returns-in-None-clause-kept c b s =
    let bytes = c.args.piece.now in
    away_stands c.args.self.now b c.args.run (says bytes) c.get_mut.follows.lender-at-none (says_number bytes) (over_too (says bytes) (says_open bytes))
    c.get_mut.follows.holds-at-none (sym c.in-None.ensures.value) s

pub returns-in_ok-tokens-in-Some-clause-kept : goal.returns-in_ok-tokens-in-Some-clause-kept
returns-in_ok-tokens-in-Some-clause-kept c b s =
    let bytes = c.args.piece.now in
    there_stands c.args.self.now b c.args.run (says bytes) (c.get_mut.follows.lender c.hear.new.self) c.in-Some.open.now c.hear.new.self
    (says_number bytes) (says_open bytes) (sym c.in-Some.ensures.value) (c.get_mut.follows.holds c.hear.new.self) c.in_ok-tokens-in-Some.ensures.kept s
