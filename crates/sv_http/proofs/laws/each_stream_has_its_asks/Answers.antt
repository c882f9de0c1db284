use Rattle.sv_http.proofs.AskReading.{asks_are}
use Rattle.sv_http.proofs.laws.each_stream_has_its_asks.Goals as goal

pub returns : goal.returns
returns c guard stream = asks_are guard stream
