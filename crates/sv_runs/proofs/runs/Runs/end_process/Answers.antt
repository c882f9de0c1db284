use Rattle.std.proofs.Common.{refl, sym}
use Rattle.sv_runs.specs.RunBook.{RunRecord, ends}
use Rattle.sv_runs.proofs.Changes.{away_stands, gone_stands, still_stands}
use Rattle.sv_runs.proofs.Unchanged.{ends_over}
use Rattle.sv_runs.proofs.runs.Runs.end_process.Goals as goal

pub returns-then-is_over : goal.returns-then-is_over
returns-then-is_over c b s =
    let w = c.end_process.new.self in
    gone_stands c.args.self.now b c.args.run ends (c.get_mut.follows.lender w) c.remove.new.self c.in-Some.open.now w c.is_over.result
    (λ (r : RunRecord). refl) (sym c.in-Some.ensures.value) (c.get_mut.follows.holds w) c.remove.ensures.updates c.end_process.ensures
    c.is_over.ensures c.if-is_over.true s

pub returns-else-is_over : goal.returns-else-is_over
returns-else-is_over c b s =
    let w = c.end_process.new.self in
    still_stands c.args.self.now b c.args.run ends (c.get_mut.follows.lender w) c.in-Some.open.now w c.is_over.result
    (λ (r : RunRecord). refl) (sym c.in-Some.ensures.value) (c.get_mut.follows.holds w) c.end_process.ensures
    c.is_over.ensures c.if-is_over.false s

pub returns-in_default : goal.returns-in_default
returns-in_default c b s =
    away_stands c.args.self.now b c.args.run ends c.get_mut.follows.lender-at-none (λ (r : RunRecord). refl) ends_over
    c.get_mut.follows.holds-at-none (sym c.in_default.ensures.value) s
