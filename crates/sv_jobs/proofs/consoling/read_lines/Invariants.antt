use Rattle.std.proofs.Common.{◌≤◌}
use Rattle.sv_jobs.proofs.Consoles.{HeardSoFar, HearsPiece}
use Rattle.sv_jobs.specs.HeldLines.{kept_bytes}
use Rattle.sv_lane.specs.Ends.{IsSameSeat, posted}
use Rattle.sv_jobs.proofs.consoling.read_lines.Given as goal

abbrev pub invariant-loop-byte : goal.invariant-loop-byte
invariant-loop-byte g l = record {
  hears : HearsPiece (g.S.Source.left l.fn.source) (g.S.Source.left l.source) l.piece l.byte-index (kept_bytes l.line) (posted l.fn.poster) (posted l.poster);
  later : g.S.Source.faults l.fn.source ≤ g.S.Source.faults l.source;
  seat : IsSameSeat l.fn.poster l.poster;
}

abbrev pub invariant-loop : goal.invariant-loop
invariant-loop g l = record {
  heard : HeardSoFar (g.S.Source.left l.fn.source) (g.S.Source.left l.source) (kept_bytes l.line) (posted l.fn.poster) (posted l.poster);
  later : g.S.Source.faults l.fn.source ≤ g.S.Source.faults l.source;
  seat : IsSameSeat l.fn.poster l.poster;
}
