use Rattle.sv_http.proofs.Advances.{stands_asks}
use Rattle.sv_http.proofs.laws.a_reader_gives_the_asks_of_its_stream.Goals as goal

pub returns : goal.returns
returns c reader stream asks stands = stands_asks reader.guard reader.place reader.head.items reader.body.items stream asks stands
