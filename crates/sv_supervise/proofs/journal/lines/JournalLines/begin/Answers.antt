use Rattle.std.proofs.KnownBytes.{Appends-nil}
use Rattle.sv_supervise.proofs.journal.lines.JournalLines.begin.Goals as goal

pub returns-in-Quiet-clause-begins : goal.returns-in-Quiet-clause-begins
returns-in-Quiet-clause-begins g c = rw c.in-Quiet.is (Appends-nil (g.J.Sink.written c.args.journal.now))
