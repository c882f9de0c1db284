use Rattle.std.proofs.Common.{arith, ◌∙◌, sym}
use Rattle.sv_generated.proofs.Counting.{all_answered, can_answer_at, none_taken, one_answered, rests_at_end}
use Rattle.sv_generated.specs.Taken.{first_of}
use Rattle.sv_generated.proofs.taking.answer_all.Goals as goal

pub loop-init : goal.loop-init
loop-init c = record {
  goes = λ begins inputs is. none_taken c.args.machine.now c.args.counts.now (first_of begins) inputs is;
  few_kills = omega arith;
  few_edges = omega arith;
}

pub returns-then-not-awaits-clause-after : goal.returns-then-not-awaits-clause-after
returns-then-not-awaits-clause-after c = λ begins inputs is.
    all_answered c.loop.machine c.loop.counts (first_of begins) inputs c.loop.counter
    (c.loop.invariant.goes begins inputs is)
    (λ m s. sym c.if-not-awaits.true ∙ c.awaits.ensures.awaits m s)

pub answer_to-requires : goal.answer_to-requires
answer_to-requires c =
    (can_answer_at c.loop.machine c.args.machine.now c.loop.counts c.args.counts.now c.requires.asking
    c.loop.counter c.loop-test.true c.loop.invariant.goes
    (λ m s. sym c.if-not-awaits.false ∙ c.awaits.ensures.awaits m s)).room

pub take-requires-clause-fits : goal.take-requires-clause-fits
take-requires-clause-fits c =
    let can =
    can_answer_at c.loop.machine c.args.machine.now c.loop.counts c.args.counts.now c.requires.asking
    c.loop.counter c.loop-test.true c.loop.invariant.goes
    (λ m s. sym c.if-not-awaits.false ∙ c.awaits.ensures.awaits m s) in rw c.answer_to.ensures can.fits

pub loop-preserved : goal.loop-preserved
loop-preserved c =
    let can =
    can_answer_at c.loop.machine c.args.machine.now c.loop.counts c.args.counts.now c.requires.asking
    c.loop.counter c.loop-test.true c.loop.invariant.goes
    (λ m s. sym c.if-not-awaits.false ∙ c.awaits.ensures.awaits m s) in record {
      goes = λ begins inputs is.
          one_answered c.loop.machine c.take.new.machine c.loop.counts c.take.new.counts begins inputs c.loop.counter
          (c.loop.invariant.goes begins inputs is)
          (λ m s. sym c.if-not-awaits.false ∙ c.awaits.ensures.awaits m s) can.fits
          (rw c.answer_to.ensures at c.in_ok-take.ensures.after);
      few_kills = omega (arith, c.take.ensures.few_kills, c.loop.invariant.few_kills);
      few_edges = omega (arith, c.take.ensures.few_edges, c.loop.invariant.few_edges);
    }

pub returns-clause-after : goal.returns-clause-after
returns-clause-after c = λ begins inputs is.
    all_answered c.loop.machine c.loop.counts (first_of begins) inputs c.loop.counter
    (c.loop.invariant.goes begins inputs is)
    (rests_at_end c.loop.machine c.args.machine.now c.loop.counts c.args.counts.now c.requires.asking
    c.loop.counter c.loop-test.false c.loop.auto.counter-end c.loop.invariant.goes)
