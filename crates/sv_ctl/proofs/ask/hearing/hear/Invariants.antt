use Rattle.std.proofs.Common.{◌≤◌}
use Rattle.sv_ctl.specs.Ask.Hearing.{HearsOn}
use Rattle.sv_ctl.proofs.ask.hearing.hear.Given as goal

abbrev pub invariant-pieces : goal.invariant-pieces
invariant-pieces g l = record {
  hears : HearsOn l.reader l.room (g.L.Link.told l.initial.link) (g.L.Link.told l.link);
  later : g.L.Link.faults l.initial.link ≤ g.L.Link.faults l.link;
}

abbrev pub decreases-pieces : goal.decreases-pieces
decreases-pieces g l = l.room
