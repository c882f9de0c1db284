use Rattle.std.proofs.Common.{◌≡◌, ◌+◌, ℕ, suc, List, ap, drop, take, sym, subst, ◌∙◌, arith}
use Rattle.sv_loop.proofs.FirstFeed.{first_there, none_there}
use Rattle.sv_loop.specs.Reading.{IsCut}
use Rattle.sv_loop.proofs.cutting.cut.Goals as goal

pub returns-in-Some : goal.returns-in-Some
returns-in-Some c =
    let found = c.in-Some.ensures in
    let next : suc c.in-Some.count ≡ c.in-Some.count + 1 = omega arith in
    let cut = first_there c.args.bytes.now c.in-Some.count found.0.high found.0.before found.1 in
    subst (λ (line : List ℕ). IsCut c.args.bytes.now line c.split_at-in-Some.result.1.now) (sym c.split_at.ensures.front)
    (subst (λ (behind : List ℕ). IsCut c.args.bytes.now (take c.in-Some.count c.args.bytes.now) behind)
    (ap (λ (n : ℕ). drop n c.args.bytes.now) next ∙ sym c.split_at-in-Some.ensures.back) cut)

pub returns-in-None : goal.returns-in-None
returns-in-None c = none_there c.args.bytes.now c.in-None.ensures
