use Rattle.sv_pipes.proofs.StreamReading.{stream_end}
use Rattle.sv_pipes.proofs.laws.each_stream_has_its_end.Goals as goal

pub returns : goal.returns
returns c = stream_end
