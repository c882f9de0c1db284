use Rattle.sv_pipes.proofs.OneStream.{one_close}
use Rattle.sv_pipes.proofs.laws.each_stream_ends_in_one_way.Goals as goal

pub returns : goal.returns
returns c = one_close
