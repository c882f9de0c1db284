use Rattle.std.proofs.Common.{refl, sym}
use Rattle.sv_runs.specs.RunBook.{RunRecord, loses}
use Rattle.sv_runs.proofs.Changes.{away_stands, there_stands}
use Rattle.sv_runs.proofs.runs.Runs.lose.Goals as goal

pub returns-in-Some : goal.returns-in-Some
returns-in-Some c b s =
    there_stands c.args.self.now b c.args.run loses (c.get_mut.follows.lender c.lose.new.self) c.in-Some.open.now c.lose.new.self
    (λ (r : RunRecord). refl) (λ (r : RunRecord). refl) (sym c.in-Some.ensures.value) (c.get_mut.follows.holds c.lose.new.self) c.lose.ensures s

pub returns-in_default : goal.returns-in_default
returns-in_default c b s =
    away_stands c.args.self.now b c.args.run loses c.get_mut.follows.lender-at-none (λ (r : RunRecord). refl) (λ r e. e)
    c.get_mut.follows.holds-at-none (sym c.in_default.ensures.value) s
