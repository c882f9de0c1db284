use Rattle.std.proofs.Common.{rules, subst, sym}
use Rattle.sv_core.proofs.Logged.{one_more_told}
use Rattle.sv_core.specs.StandsFor.{Shows}
use Rattle.sv_core.specs.World.{World}
use Rattle.sv_core.proofs.machine.Machine.tell_drops.Goals as goal

pub loop-report-preserved : goal.loop-report-preserved
loop-report-preserved c = record {
  kept = search rules;
  goes = λ older w s.
      subst (λ (v : World). Shows c.tell_drop.new.self older v) (sym (one_more_told c.loop-report.yielded c.in-Some.report w))
      (c.in_ok-tell_drop.ensures.tells older _ (c.loop-report.invariant.goes older w s));
}
