use Rattle.std.proofs.Common.{◌≡◌, true, sym, refl, ◌∙◌}
use Rattle.sv_core.specs.MachineState.{next, accepts}
use Rattle.sv_judge.specs.JournalPlaces.Line.{Said}
use Rattle.sv_judge.specs.JournalPlaces.Stage.{Running}
use Rattle.sv_judge.proofs.judging.judge_said.Goals as goal

pub returns-in-Ok-step : goal.returns-in-Ok-step
returns-in-Ok-step c = λ m s.
    let taken : accepts m c.in-Ok.input ≡ true = sym (c.accepts.ensures.accepts m s) ∙ c.if-not-accepts.false in record {
      to = Running (next m c.in-Ok.input);
      leads = record {
        line = Said c.in-Ok.input;
        fits = c.in-Ok.ensures.fits;
        spelled = sym c.in-Ok.ensures.found;
        short = c.in-Ok.ensures.short;
        stands = rw (taken, c.in-Ok-step.ensures.orders m s) refl;
      };
      is_place = c.in-Ok-step.ensures.next m s;
    }
