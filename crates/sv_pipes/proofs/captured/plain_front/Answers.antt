use Rattle.std.proofs.Common.{length, arith}
use Rattle.sv_pipes.proofs.PlainBytes.{plain_before}
use Rattle.sv_pipes.proofs.captured.plain_front.Goals as goal

pub returns-in-None-clause-plain : goal.returns-in-None-clause-plain
returns-in-None-clause-plain c = plain_before (length c.args.bytes.now) c.args.bytes.now (omega arith) c.in-None.ensures

pub returns-in-Some-clause-plain : goal.returns-in-Some-clause-plain
returns-in-Some-clause-plain c =
    plain_before c.in-Some.place c.args.bytes.now (omega (arith, c.in-Some.ensures.0.high)) c.in-Some.ensures.0.before
