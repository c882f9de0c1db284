use Rattle.std.proofs.Common.{◌≡◌}
use Rattle.sv_sockets.proofs.listening.OsListenListen.accept.Given as goal

abbrev pub invariant-loop : goal.invariant-loop
invariant-loop g l = l.self.faults ≡ l.initial.self.faults
