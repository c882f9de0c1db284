use Rattle.std.proofs.Common.{refl, arith}
use Rattle.sv_loop.proofs.RunSteps.{held_more, holds_of, no_memory, too_long}
use Rattle.sv_loop.proofs.run.Run.hold.Goals as goal

pub returns-then-len-more-gt-LINE_LIMIT-clause-stops : goal.returns-then-len-more-gt-LINE_LIMIT-clause-stops
returns-then-len-more-gt-LINE_LIMIT-clause-stops c = λ lines at given bytes written is.
    too_long c.args.self.now lines at given bytes c.args.more.now written is (omega (arith, c.len.ensures)) c.requires

pub returns-in-Err-clause-stops : goal.returns-in-Err-clause-stops
returns-in-Err-clause-stops c = λ lines at given bytes written is.
    no_memory c.args.self.now.lines _ lines at given bytes c.args.self.now.line.items c.args.more.now written
    (holds_of c.args.self.now lines at given bytes is) refl

pub returns-in-Ok-clause-goes_on : goal.returns-in-Ok-clause-goes_on
returns-in-Ok-clause-goes_on c = λ lines at given bytes written is.
    held_more c.args.self.now _ lines at given bytes c.args.more.now written is refl refl c.in-Ok.ensures.items
    (omega (arith, c.len.ensures)) c.requires
