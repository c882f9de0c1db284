use Rattle.sv_events.proofs.CoverCases.{covers_one_of_three, three_ways_cover}
use Rattle.sv_events.proofs.covers.covers.Goals as goal

pub returns : goal.returns
returns c = (
  λ is. three_ways_cover c.args.parent c.args.kind (c.is_covering.ensures.0 is),
  λ covers. c.is_covering.ensures.1 (covers_one_of_three covers),
)
