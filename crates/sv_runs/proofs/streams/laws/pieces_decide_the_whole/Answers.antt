use Rattle.sv_runs.proofs.StreamsLemmas.Wholes.{whole_is_decided}
use Rattle.sv_runs.proofs.streams.laws.pieces_decide_the_whole.Goals as goal

pub returns : goal.returns
returns c = whole_is_decided
