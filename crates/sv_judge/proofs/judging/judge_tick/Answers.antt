use Rattle.std.proofs.Common.{◌≡◌, ◌∙◌, true, false, refl, sym}
use Rattle.sv_core.specs.MachineState.{accepts, next}
use Rattle.sv_judge.specs.JournalPlaces.Line.{Said}
use Rattle.sv_judge.specs.JournalPlaces.Stage.{Running}
use Rattle.sv_out.specs.declared.input.Input.TheVariants.{Tick}
use Rattle.sv_judge.proofs.judging.judge_tick.Goals as goal

pub returns-then-not-accepts_tick : goal.returns-then-not-accepts_tick
returns-then-not-accepts_tick c = λ m s.
    let refused : accepts m (Tick c.args.at) ≡ false = sym (c.accepts_tick.ensures.accepts m c.args.at s) ∙ c.if-not-accepts_tick.true in
    record { input = Tick c.args.at; fits = c.requires.fits; spelled = refl; short = c.requires.short; refused = rw refused refl }

pub tick_at-requires : goal.tick_at-requires
tick_at-requires c = sym (c.accepts_tick.ensures.fits c.args.at) ∙ c.if-not-accepts_tick.false

pub returns-in-Ok : goal.returns-in-Ok
returns-in-Ok c = λ m s.
    let taken : accepts m (Tick c.args.at) ≡ true = sym (c.accepts_tick.ensures.accepts m c.args.at s) ∙ c.if-not-accepts_tick.false in record {
      to = Running (next m (Tick c.args.at));
      leads = record {
        line = Said (Tick c.args.at);
        fits = c.requires.fits;
        spelled = refl;
        short = c.requires.short;
        stands = rw (taken, c.in-Ok.ensures.orders m s) refl;
      };
      is_place = c.in-Ok.ensures.next m s;
    }
