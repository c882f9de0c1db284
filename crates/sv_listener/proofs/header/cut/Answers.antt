use Rattle.std.proofs.Common.{◌≡◌, ◌+◌, ℕ, suc, List, Some, ap, drop, sym, ◌∙◌, arith}
use Rattle.sv_listener.proofs.Cuts.{cut_first, cut_none}
use Rattle.sv_listener.proofs.header.cut.Goals as goal

pub returns-in-Some-clause-cut : goal.returns-in-Some-clause-cut
returns-in-Some-clause-cut c =
    let found = c.in-Some.ensures in
    let next : suc c.in-Some.count ≡ c.in-Some.count + 1 = omega arith in
    cut_first c.args.stop c.args.bytes.now c.in-Some.count found.0.high found.0.before found.1
    ∙ ap (λ (front : List ℕ). Some (front, drop (suc c.in-Some.count) c.args.bytes.now)) (sym c.split_at.ensures.front)
    ∙ ap (λ (rest : List ℕ). Some (c.split_at.result.0.now, rest))
    (ap (λ (n : ℕ). drop n c.args.bytes.now) next ∙ sym c.split_at-in-Some.ensures.back)

pub returns-in-None-clause-cut : goal.returns-in-None-clause-cut
returns-in-None-clause-cut c = cut_none c.args.stop c.args.bytes.now c.in-None.ensures
