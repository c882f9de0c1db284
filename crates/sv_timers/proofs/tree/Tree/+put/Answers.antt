use Rattle.std.proofs.Common.{ap, rules, subst, ◌∙◌}
use Rattle.sv_timers.proofs.DueLaws.{earlier_both, put_length}
use Rattle.sv_timers.proofs.tree.Tree.+put.Goals as goal
use Rattle.sv_timers.specs.DeadlineTree.{deadlines, IsRight}
use Rattle.sv_timers.specs.Deadlines.{earliest_of}

pub returns-then-place-count-clause-right : goal.returns-then-place-count-clause-right
returns-then-place-count-clause-right t c =
    let right = subst IsRight c.in-Fork.is c.requires.right in (
      earlier_both c.earliest.result c.earliest-then-place-count.result c.earlier.result
          (deadlines c.put.new.self) (deadlines c.in-Fork.second.value) c.earlier.ensures
          (c.earliest.ensures ∙ ap (λ t. earliest_of (deadlines t)) c.deref.ensures)
          (c.earliest-then-place-count.ensures ∙ ap (λ t. earliest_of (deadlines t)) c.deref-then-place-count.ensures),
      put_length (deadlines c.in-Fork.first.value) (deadlines c.put.new.self) c.in-Fork.count c.args.place c.args.deadline
          right.1 (search (rules)),
      c.put.ensures.right,
      right.3,
    )

pub returns-else-place-count-clause-right : goal.returns-else-place-count-clause-right
returns-else-place-count-clause-right t c =
    let right = subst IsRight c.in-Fork.is c.requires.right in (
      earlier_both c.earliest-else-place-count.result c.earliest-else-place-count-2.result c.earlier-else-place-count.result
          (deadlines c.in-Fork.first.value) (deadlines c.put-else-place-count.new.self) c.earlier-else-place-count.ensures
          (c.earliest-else-place-count.ensures ∙ ap (λ t. earliest_of (deadlines t)) c.deref-else-place-count.ensures)
          (c.earliest-else-place-count-2.ensures ∙ ap (λ t. earliest_of (deadlines t)) c.deref-else-place-count-2.ensures),
      right.1,
      right.2,
      c.put-else-place-count.ensures.right,
    )
