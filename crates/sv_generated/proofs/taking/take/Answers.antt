use Rattle.sv_generated.proofs.Counting.{after_more}
use Rattle.sv_generated.proofs.taking.take.Goals as goal

pub returns-clause-after : goal.returns-clause-after
returns-clause-after c = λ first inputs is.
    after_more c.args.machine.now c.step.new.self c.args.counts.now c.add.new.self
    first inputs c.args.input c.in_ok-orders.orders.items
    c.requires.fits is c.in_ok-orders.ensures.next c.in_ok-orders.ensures.orders
    (rw c.as_slice.ensures.value at c.add.ensures.spawns) (rw c.as_slice.ensures.value at c.add.ensures.kills)
    (rw c.as_slice.ensures.value at c.add.ensures.edges)
