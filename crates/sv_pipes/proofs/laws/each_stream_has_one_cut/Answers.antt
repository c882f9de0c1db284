use Rattle.sv_pipes.proofs.OneStream.{one_cut}
use Rattle.sv_pipes.proofs.laws.each_stream_has_one_cut.Goals as goal

pub returns : goal.returns
returns c = λ limit stream decided others side also shown other held tail one two.
    let same = one_cut limit stream decided others side also shown other held tail one two in
    (same.decided_are, same.side_is, same.shown_is, same.held_is)
