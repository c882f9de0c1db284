use Rattle.std.proofs.Common.{sym}
use Rattle.sv_runs.specs.RunBook.{gets}
use Rattle.sv_runs.proofs.Changes.{away_stands, there_stands}
use Rattle.sv_runs.proofs.Unchanged.{gets_number, gets_open, over_too}
use Rattle.sv_runs.proofs.runs.Runs.sent.Goals as goal

pub returns-in-Some : goal.returns-in-Some
returns-in-Some c b s =
    there_stands c.args.self.now b c.args.run gets (c.get_mut.follows.lender c.sent.new.self) c.in-Some.open.now c.sent.new.self
    gets_number gets_open (sym c.in-Some.ensures.value) (c.get_mut.follows.holds c.sent.new.self) c.sent.ensures s

pub returns-in_default : goal.returns-in_default
returns-in_default c b s =
    away_stands c.args.self.now b c.args.run gets c.get_mut.follows.lender-at-none gets_number (over_too gets gets_open)
    c.get_mut.follows.holds-at-none (sym c.in_default.ensures.value) s
