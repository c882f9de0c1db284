use Rattle.std.proofs.Common.{◌≡◌, length}
use Rattle.sv_pipes.specs.CapturePlaces.{shown, steps}
use Rattle.sv_pipes.proofs.captured.Capture.take_all.Given as goal

abbrev pub invariant-loop-rest : goal.invariant-loop-rest
invariant-loop-rest l = record {
  same : steps l.initial.self.limit (shown l.self l.parts.items l.logged.items) l.rest
      ≡ steps l.initial.self.limit (shown l.initial.self l.initial.parts.items l.initial.logged.items) l.piece;
  limit : l.self.limit ≡ l.initial.self.limit;
  broken : l.self.broken ≡ l.initial.self.broken;
}

abbrev pub decreases-loop-rest : goal.decreases-loop-rest
decreases-loop-rest l = length l.rest
