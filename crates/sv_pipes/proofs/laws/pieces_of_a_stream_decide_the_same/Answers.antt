use Rattle.std.proofs.Common.{refl}
use Rattle.sv_pipes.proofs.OneStream.{one_standing}
use Rattle.sv_pipes.proofs.laws.pieces_of_a_stream_decide_the_same.Goals as goal

pub returns : goal.returns
returns c = λ one other limit stream decided others stands stands'.
    let same = one_standing limit limit one.side other.side one.matched other.matched one.body.items other.body.items stream decided others refl
    stands.2 stands'.2 in
    (same.0, record { side = same.1; matched = same.2; body = same.3 })
