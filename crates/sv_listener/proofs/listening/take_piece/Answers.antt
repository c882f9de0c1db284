use Rattle.sv_listener.proofs.Listens.{unheard}
use Rattle.sv_listener.proofs.listening.take_piece.Goals as goal

pub returns-in-Err-clause-stops : goal.returns-in-Err-clause-stops
returns-in-Err-clause-stops g c =
    unheard c.args.side.now c.args.piece.now (g.K.Sink.written c.args.sink.now) (g.H.Handler.told c.args.handler.now c.args.handler.now)
    (g.met.H.Handler.nothing c.args.handler.now)
