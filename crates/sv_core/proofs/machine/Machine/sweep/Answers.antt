use Rattle.std.proofs.Common.{rules}
use Rattle.sv_core.proofs.Sweeps.{sweep_met, sweep_over_rest, sweep_stopped, sweep_went_on}
use Rattle.sv_core.proofs.machine.Machine.sweep.Goals as goal

pub returns-in-Some-2-clause-sweeps : goal.returns-in-Some-2-clause-sweeps
returns-in-Some-2-clause-sweeps c = λ older w k s.
    let at = c.loop-place.invariant.goes older w k s in
    let here = sweep_met c.loop-place.self c.next_met.new.self older c.args.news.now c.args.to c.loop-place.next
    c.in-Some.place _ k c.next_met.ensures.kept c.in-Some.ensures.next at in
    sweep_stopped c.next_met.new.self c.meet.new.self older c.args.news.now c.args.to c.in-Some.place _
    c.in_ok-asked.field-0 c.in-Some-2.asked k c.in-Some.ensures.next.within c.in-Some-2.is here
    (c.in_ok-asked.ensures.meets older here.world _ here.shows)

pub loop-place-preserved : goal.loop-place-preserved
loop-place-preserved c = record {
  kept = search rules;
  goes = λ older w k s.
      let at = c.loop-place.invariant.goes older w k s in
      let here = sweep_met c.loop-place.self c.next_met.new.self older c.args.news.now c.args.to c.loop-place.next
      c.in-Some.place _ k c.next_met.ensures.kept c.in-Some.ensures.next at in
      sweep_went_on c.next_met.new.self c.meet.new.self older c.args.news.now c.args.to c.in-Some.place _
      c.in_ok-asked.field-0 k c.in-Some.ensures.next.within c.in-None.is here
      (c.in_ok-asked.ensures.meets older here.world _ here.shows);
}

pub returns-clause-sweeps : goal.returns-clause-sweeps
returns-clause-sweeps c = λ older w k s.
    sweep_over_rest c.loop-place.self c.next_met.new.self older c.args.news.now c.args.to c.loop-place.next _ k
    c.next_met.ensures.kept c.in_default.ensures.next (c.loop-place.invariant.goes older w k s)
