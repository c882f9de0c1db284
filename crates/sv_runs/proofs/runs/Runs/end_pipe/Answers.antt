use Rattle.std.proofs.Common.{sym}
use Rattle.sv_runs.specs.RunBook.{ends_pipe}
use Rattle.sv_runs.proofs.Changes.{away_stands, gone_stands, still_stands}
use Rattle.sv_runs.proofs.Unchanged.{pipe_number, pipe_over}
use Rattle.sv_runs.proofs.runs.Runs.end_pipe.Goals as goal

pub returns-then-is_over : goal.returns-then-is_over
returns-then-is_over c b s =
    let w = c.end_pipe.new.self in
    let stream = c.args.stream in
    gone_stands c.args.self.now b c.args.run (ends_pipe stream) (c.get_mut.follows.lender w) c.remove.new.self c.in-Some.open.now w c.is_over.result
    (pipe_number stream) (sym c.in-Some.ensures.value) (c.get_mut.follows.holds w) c.remove.ensures.updates c.end_pipe.ensures
    c.is_over.ensures c.if-is_over.true s

pub returns-else-is_over : goal.returns-else-is_over
returns-else-is_over c b s =
    let w = c.end_pipe.new.self in
    let stream = c.args.stream in
    still_stands c.args.self.now b c.args.run (ends_pipe stream) (c.get_mut.follows.lender w) c.in-Some.open.now w c.is_over.result
    (pipe_number stream) (sym c.in-Some.ensures.value) (c.get_mut.follows.holds w) c.end_pipe.ensures
    c.is_over.ensures c.if-is_over.false s

pub returns-in_default : goal.returns-in_default
returns-in_default c b s =
    let stream = c.args.stream in
    away_stands c.args.self.now b c.args.run (ends_pipe stream) c.get_mut.follows.lender-at-none (pipe_number stream) (pipe_over stream)
    c.get_mut.follows.holds-at-none (sym c.in_default.ensures.value) s
