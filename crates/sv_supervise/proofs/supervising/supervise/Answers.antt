use Rattle.std.proofs.Common.{inl, inr}
use Rattle.sv_supervise.specs.MainLoop.Telling.{told}
use Rattle.sv_supervise.proofs.Statuses.{completes, tells_failed, tells_unread, tells_unwritten}
use Rattle.sv_supervise.proofs.supervising.supervise.Goals as goal

pub returns-clause-supervises : goal.returns-clause-supervises
returns-clause-supervises g c = λ files holds. record {
  outcome = c.course.result;
  comes = c.course.ensures.comes files holds;
  tells = c.tell.ensures;
}

pub returns-clause-world_failed : goal.returns-clause-world_failed
returns-clause-world_failed g c = λ is. c.course.ensures.world_failed
    (tells_failed c.course.result (g.O.Sink.written c.args.out.now) (g.O.Sink.written c.tell.new.out)
    (g.O.Sink.faults c.args.out.now) (g.O.Sink.faults c.tell.new.out) c.tell.result c.tell.ensures is)

pub returns-clause-unwritten : goal.returns-clause-unwritten
returns-clause-unwritten g c = λ is.
    elim (tells_unwritten c.course.result (g.O.Sink.written c.args.out.now) (g.O.Sink.written c.tell.new.out)
    (g.O.Sink.faults c.args.out.now) (g.O.Sink.faults c.tell.new.out) c.tell.result c.tell.ensures is) [
      | inl e ↦ inl (c.course.ensures.unwritten e)
      | inr rose ↦ inr rose
    ]

pub returns-clause-unread : goal.returns-clause-unread
returns-clause-unread g c = λ is.
    let unread = tells_unread c.course.result (g.O.Sink.written c.args.out.now) (g.O.Sink.written c.tell.new.out)
    (g.O.Sink.faults c.args.out.now) (g.O.Sink.faults c.tell.new.out) c.tell.result c.tell.ensures is in
    c.course.ensures.unread unread.0 unread.1

pub returns-clause-complete : goal.returns-clause-complete
returns-clause-complete g c = λ none files holds accepted.
    completes c.args.words.now c.args.host.now files
    (told (g.W.World.given c.args.world.now) (g.W.World.left c.args.world.now) (g.W.World.handed c.args.world.now) (g.J.Sink.written c.args.journal.now))
    (told (g.W.World.given c.course.new.world) (g.W.World.left c.course.new.world) (g.W.World.handed c.course.new.world) (g.J.Sink.written c.course.new.journal))
    c.course.result (g.O.Sink.written c.args.out.now) (g.O.Sink.written c.tell.new.out) (g.O.Sink.faults c.args.out.now) (g.O.Sink.faults c.tell.new.out)
    c.tell.result accepted (c.course.ensures.comes files holds) c.tell.ensures
    (λ is. none.world (returns-clause-world_failed g c is))
    (λ is. elim (returns-clause-unwritten g c is) [ inl rose ↦ none.journal_kept rose | inr rose ↦ none.out_kept rose ])
    (λ is. none.shelf_kept (returns-clause-unread g c is))
