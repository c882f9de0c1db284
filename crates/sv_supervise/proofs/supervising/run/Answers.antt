use Rattle.std.proofs.Common.{◌∙◌, List, ℕ, ap, inl, inr, refl, subst, sym}
use Rattle.std.specs.Io.KnownBytes.{Appends}
use Rattle.sv_supervise.specs.MainLoop.Telling.{told}
use Rattle.sv_out.specs.Written.{AppendsFront}
use Rattle.sv_supervise.specs.Supervising.{RunsTo, machine_of}
use Rattle.sv_supervise.proofs.Ends.{broken_end, header_is, rose_later, served, unwritten_end}
use Rattle.sv_supervise.proofs.supervising.run.Goals as goal

pub returns-in-Err-Unwritten-clause-runs : goal.returns-in-Err-Unwritten-clause-runs
returns-in-Err-Unwritten-clause-runs g c = inl (record {
  still = record { given = refl; left = refl; handed = refl };
  header = header_is (λ (text : List ℕ). AppendsFront (g.J.Sink.written c.args.journal.now) (g.J.Sink.written c.begin.new.journal) text)
      c.args.lines c.args.beginning c.args.host.now c.as_slice.result.now c.as_slice-included.result.now c.as_slice.ensures.value c.as_slice-included.ensures
      (rw c.in-Err-Unwritten.field-0-is at c.in-Err-Unwritten.ensures.begins);
})

pub returns-in-Err-OutOfMemory-clause-runs : goal.returns-in-Err-OutOfMemory-clause-runs
returns-in-Err-OutOfMemory-clause-runs g c =
    inl (ap (told (g.W.World.given c.args.world.now) (g.W.World.left c.args.world.now) (g.W.World.handed c.args.world.now))
    (rw c.in-Err-OutOfMemory.field-0-is at c.in-Err-OutOfMemory.ensures.begins))

pub returns-in_default-clause-runs : goal.returns-in_default-clause-runs
returns-in_default-clause-runs g c = inr (inl (record {
  still = record { given = refl; left = refl; handed = refl };
  header = header_is (λ (text : List ℕ). Appends (g.J.Sink.written c.args.journal.now) (g.J.Sink.written c.begin.new.journal) text)
      c.args.lines c.args.beginning c.args.host.now c.as_slice.result.now c.as_slice-included.result.now c.as_slice.ensures.value c.as_slice-included.ensures
      c.in-Ok.ensures.begins;
}))

pub returns-clause-runs : goal.returns-clause-runs
returns-clause-runs g c =
    subst (RunsTo c.args.lines c.args.beginning c.args.host.now
    (told (g.W.World.given c.args.world.now) (g.W.World.left c.args.world.now) (g.W.World.handed c.args.world.now) (g.J.Sink.written c.args.journal.now))
    (told (g.W.World.given c.serve.new.world) (g.W.World.left c.serve.new.world) (g.W.World.handed c.serve.new.world) (g.J.Sink.written c.serve.new.journal)))
    (sym c.outcome_of.ensures)
    (served c.args.lines c.args.beginning c.args.host.now
    (told (g.W.World.given c.args.world.now) (g.W.World.left c.args.world.now) (g.W.World.handed c.args.world.now) (g.J.Sink.written c.args.journal.now))
    (told (g.W.World.given c.serve.new.world) (g.W.World.left c.serve.new.world) (g.W.World.handed c.serve.new.world) (g.J.Sink.written c.serve.new.journal))
    c.serve.result (record {
      mid = told (g.W.World.given c.args.world.now) (g.W.World.left c.args.world.now) (g.W.World.handed c.args.world.now) (g.J.Sink.written c.begin.new.journal);
      still = record { given = refl; left = refl; handed = refl };
      header = header_is (λ (text : List ℕ). Appends (g.J.Sink.written c.args.journal.now) (g.J.Sink.written c.begin.new.journal) text)
          c.args.lines c.args.beginning c.args.host.now c.as_slice.result.now c.as_slice-included.result.now c.as_slice.ensures.value c.as_slice-included.ensures
          c.in-Ok.ensures.begins;
      stops = c.serve.ensures.stops (machine_of c.args.beginning c.args.host.now) c.in-Ok-new.ensures refl;
    }))

pub returns-clause-world_failed : goal.returns-clause-world_failed
returns-clause-world_failed g c = λ is. c.serve.ensures.broken (broken_end c.serve.result (sym c.outcome_of.ensures ∙ is))

pub returns-clause-unwritten : goal.returns-clause-unwritten
returns-clause-unwritten g c = λ is.
    rose_later (g.J.Sink.faults c.args.journal.now) (g.J.Sink.faults c.begin.new.journal) (g.J.Sink.faults c.serve.new.journal) c.begin.ensures.cause.later
    (c.serve.ensures.unwritten (unwritten_end c.serve.result (sym c.outcome_of.ensures ∙ is)))
