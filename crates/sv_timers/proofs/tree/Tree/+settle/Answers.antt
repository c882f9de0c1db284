use Rattle.std.proofs.Common.{arith, ap, subst, length, length-append}
use Rattle.sv_timers.proofs.DueLaws.{fork_looks, has_one, looks_none, none_due_by}
use Rattle.sv_timers.proofs.tree.Tree.+settle.Goals as goal
use Rattle.sv_timers.specs.DeadlineTree.{deadlines, IsRight}

pub returns-then-not-is_due : goal.returns-then-not-is_due
returns-then-not-is_due g t c =
    rw (none_due_by c.args.from c.args.now (deadlines c.args.self.now) c.earliest.result c.is_due.result c.earliest.ensures c.is_due.ensures c.if-not-is_due.true)
    (looks_none c.args.rows.now)

pub overflow_add-from : goal.overflow_add-from
overflow_add-from g t c =
    let right = subst IsRight c.in-Fork.is c.requires.right in
    let all = ap (λ t. length (deadlines t)) c.in-Fork.is in
    omega (
      arith,
      right.1,
      all,
      length-append (deadlines c.in-Fork.first.value) (deadlines c.in-Fork.second.value),
      has_one c.in-Fork.second.value,
      c.requires.numbers,
    )

pub returns-in-Fork : goal.returns-in-Fork
returns-in-Fork g t c =
    let right = subst IsRight c.in-Fork.is c.requires.right in
    fork_looks c.args.rows.now c.settle.new.rows c.settle-in-Fork.new.rows c.args.self.now c.in-Fork.first.value
    c.in-Fork.second.value c.deref.result.now c.deref-in-Fork.result.now c.args.from c.in-Fork.count c.args.now
    (ap deadlines c.in-Fork.is) right.1 c.deref.ensures c.deref-in-Fork.ensures c.settle.ensures c.settle-in-Fork.ensures
