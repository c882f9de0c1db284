use Rattle.sv_http.proofs.Streams.{none_follow}
use Rattle.sv_http.proofs.laws.nothing_follows_a_refusal.Goals as goal

pub returns : goal.returns
returns c guard stream asks later refusal are = none_follow guard stream asks later refusal are
