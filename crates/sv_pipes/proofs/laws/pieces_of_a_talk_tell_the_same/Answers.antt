use Rattle.sv_pipes.proofs.OneTalk.{one_talk, stands_cut}
use Rattle.sv_pipes.specs.TalkPlaces.{state_of}
use Rattle.sv_pipes.proofs.laws.pieces_of_a_talk_tell_the_same.Goals as goal

pub returns : goal.returns
returns c = λ one other talk tokens others stands stands'.
    one_talk talk tokens others (state_of one.place) (state_of other.place) (stands_cut one.place one.held.items talk tokens stands)
    (stands_cut other.place other.held.items talk others stands')
