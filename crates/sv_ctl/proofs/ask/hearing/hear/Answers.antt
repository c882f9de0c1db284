use Rattle.std.proofs.Common.{Ok, Err, drop, arith}
use Rattle.sv_ctl.proofs.AskLemmas.Told.{hears_first, heard_front}
use Rattle.sv_ctl.proofs.ask.hearing.hear.Goals as goal
use Rattle.sv_ctl.specs.declared.ask.fault.AskFault.TheVariants.{BadReply, OutOfMemory}

pub pieces-init : goal.pieces-init
pieces-init g c = record {
  hears = hears_first c.new-reader.result (g.L.Link.told c.args.link.now) c.new-reader.ensures;
  later = omega arith;
}

pub returns-in-Ok-Some-clause-heard : goal.returns-in-Ok-Some-clause-heard
returns-in-Ok-Some-clause-heard g c =
    heard_front c.pieces.reader c.pieces.room c.in-Ok.count (g.L.Link.told c.args.link.now) (g.L.Link.told c.pieces.link)
    (g.L.Link.told c.read.new.self) c.read.new.into (drop c.min-most.result c.pieces.buffer) c.split_at.result.0.now
    (Ok c.in-Ok-Some.replied) c.pieces.invariant.hears c.in-Ok.count-test.1 c.in-Ok.ensures.bound.0 c.split_at.ensures.front
    c.in-Ok.ensures.told (rw c.in-Ok-Some.field-0-is at c.in-Ok-Some.ensures.answers)

pub returns-in-Err-NotAReply-clause-heard : goal.returns-in-Err-NotAReply-clause-heard
returns-in-Err-NotAReply-clause-heard g c =
    heard_front c.pieces.reader c.pieces.room c.in-Ok.count (g.L.Link.told c.args.link.now) (g.L.Link.told c.pieces.link)
    (g.L.Link.told c.read.new.self) c.read.new.into (drop c.min-most.result c.pieces.buffer) c.split_at.result.0.now
    (Err BadReply) c.pieces.invariant.hears c.in-Ok.count-test.1 c.in-Ok.ensures.bound.0 c.split_at.ensures.front
    c.in-Ok.ensures.told (rw c.in-Err-NotAReply.field-0-is at c.in-Err-NotAReply.ensures.answers)

pub returns-in-Err-OutOfMemory-clause-heard : goal.returns-in-Err-OutOfMemory-clause-heard
returns-in-Err-OutOfMemory-clause-heard g c =
    heard_front c.pieces.reader c.pieces.room c.in-Ok.count (g.L.Link.told c.args.link.now) (g.L.Link.told c.pieces.link)
    (g.L.Link.told c.read.new.self) c.read.new.into (drop c.min-most.result c.pieces.buffer) c.split_at.result.0.now
    (Err OutOfMemory) c.pieces.invariant.hears c.in-Ok.count-test.1 c.in-Ok.ensures.bound.0 c.split_at.ensures.front
    c.in-Ok.ensures.told (λ stream stands. tt)
