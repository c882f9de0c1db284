use Rattle.std.proofs.Common.{◌∙◌, sym}
use Rattle.sv_supervise.specs.MainLoop.Telling.{told}
use Rattle.sv_supervise.proofs.Ends.{begun, not_begun, reading_unbroken, reading_unread, reading_written, run_read}
use Rattle.sv_supervise.proofs.supervising.course.Goals as goal

pub returns-clause-comes : goal.returns-clause-comes
returns-clause-comes g c = λ files holds.
    begun c.args.words.now c.args.host.now files
    (told (g.W.World.given c.args.world.now) (g.W.World.left c.args.world.now) (g.W.World.handed c.args.world.now) (g.J.Sink.written c.args.journal.now))
    (told (g.W.World.given c.run.new.world) (g.W.World.left c.run.new.world) (g.W.World.handed c.run.new.world) (g.J.Sink.written c.run.new.journal))
    c.in-Ok-Some.arguments c.in-Ok.beginning c.lines_of.result c.run.result
    (sym c.in-Ok-Some.ensures ∙ c.in-Ok-Some.field-0-is) (c.in-Ok.ensures.begins files holds) c.lines_of.ensures c.run.ensures.runs

pub returns-clause-unread : goal.returns-clause-unread
returns-clause-unread g c = λ name is.
    absurd (run_read c.lines_of.result c.in-Ok.beginning c.args.host.now
    (told (g.W.World.given c.args.world.now) (g.W.World.left c.args.world.now) (g.W.World.handed c.args.world.now) (g.J.Sink.written c.args.journal.now))
    (told (g.W.World.given c.run.new.world) (g.W.World.left c.run.new.world) (g.W.World.handed c.run.new.world) (g.J.Sink.written c.run.new.journal))
    c.run.result name c.run.ensures.runs is)

pub returns-in-Err-beginning_of-clause-comes : goal.returns-in-Err-beginning_of-clause-comes
returns-in-Err-beginning_of-clause-comes g c = λ files holds.
    not_begun c.args.words.now c.args.host.now files
    (told (g.W.World.given c.args.world.now) (g.W.World.left c.args.world.now) (g.W.World.handed c.args.world.now) (g.J.Sink.written c.args.journal.now))
    c.in-Ok-Some.arguments c.in-Err-beginning_of.outcome (sym c.in-Ok-Some.ensures ∙ c.in-Ok-Some.field-0-is) (c.in-Err-beginning_of.ensures.begins files holds)

pub returns-in-Err-beginning_of-clause-world_failed : goal.returns-in-Err-beginning_of-clause-world_failed
returns-in-Err-beginning_of-clause-world_failed g c = λ is. absurd (reading_unbroken c.in-Err-beginning_of.outcome c.in-Err-beginning_of.ensures.reading is)

pub returns-in-Err-beginning_of-clause-unwritten : goal.returns-in-Err-beginning_of-clause-unwritten
returns-in-Err-beginning_of-clause-unwritten g c = λ is. absurd (reading_written c.in-Err-beginning_of.outcome c.in-Err-beginning_of.ensures.reading is)

pub returns-in-Err-beginning_of-clause-unread : goal.returns-in-Err-beginning_of-clause-unread
returns-in-Err-beginning_of-clause-unread g c = λ name is.
    c.in-Err-beginning_of.ensures.cause.rose (reading_unread c.in-Err-beginning_of.outcome name is)
