use Rattle.std.proofs.Common.{rules, ◌≡◌, ◌∙◌, ℕ, true, ap}
use Rattle.sv_parts.specs.declared.links.live_links.LiveLinks.{LiveLinks}
use Rattle.sv_threads.proofs.Notes.{kept_none, kept_some, silent}
use Rattle.sv_threads.proofs.Passing.{passed_more, taken_last}
use Rattle.sv_threads.proofs.hearing.hear.Goals as goal
use Rattle.sv_threads.specs.Hearing.{is_quiet}

pub returns-in_err-input-clause-known : goal.returns-in_err-input-clause-known
returns-in_err-input-clause-known g c =
    taken_last _ _ _ _ _ _ _ _ _ _ _ _ _ _ c.loop.invariant.passed c.take-note.ensures.taken.1 c.settle.ensures.settles
    c.in_err-input.ensures.links.lives c.in_err-input.ensures.links.lost

pub returns-in-Some-2-clause-known : goal.returns-in-Some-2-clause-known
returns-in-Some-2-clause-known g c =
    let kept = kept_some _ ℕ _ _ _ _ c.in-Some-2.is c.in_ok-input.ensures.links in
    taken_last _ _ _ _ _ _ _ _ _ _ _ _ _ _ c.loop.invariant.passed c.take-note.ensures.taken.1 c.settle.ensures.settles
    kept.lives kept.lost

pub loop-preserved : goal.loop-preserved
loop-preserved g c =
    let kept = kept_none _ ℕ _ _ _ c.in-None-2.is c.in_ok-input.ensures.links in
    let quiet : is_quiet c.settle.new.links.count c.take-note.result ≡ true = search rules in
    record {
      passed = passed_more _ _ _ _ _ _ _ _ _ _ _ _ _ _ c.loop.invariant.passed c.take-note.ensures.taken.1 c.settle.ensures.settles
          (c.settle.ensures.count ∙ c.loop.invariant.count) quiet kept;
      clock = c.in_ok-input.ensures.clock (silent ℕ _ c.in-None-2.is) ∙ c.loop.invariant.clock;
      count = ap (λ (l : LiveLinks g.row.K.Denot). l.count) kept ∙ c.settle.ensures.count ∙ c.loop.invariant.count;
      spawner = c.settle.ensures.spawner ∙ c.loop.invariant.spawner;
    }
