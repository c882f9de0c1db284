use Rattle.sv_http.proofs.Streams.{asks_unique}
use Rattle.sv_http.proofs.laws.a_stream_has_one_list_of_asks.Goals as goal

pub returns : goal.returns
returns c guard stream asks others one other = asks_unique guard stream asks others one other
