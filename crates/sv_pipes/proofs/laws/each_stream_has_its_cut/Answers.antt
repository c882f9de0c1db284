use Rattle.sv_pipes.proofs.StreamReading.{stream_cut}
use Rattle.sv_pipes.proofs.laws.each_stream_has_its_cut.Goals as goal

pub returns : goal.returns
returns c = stream_cut
