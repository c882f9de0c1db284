use Rattle.sv_listener.proofs.Listens.{said_or_not, stopped_said}
use Rattle.sv_listener.proofs.listening.answer_all.Goals as goal

pub returns-in-Ok-clause-stops : goal.returns-in-Ok-clause-stops
returns-in-Ok-clause-stops g c =
    said_or_not c.say-said.result c.clear.new.self.items c.handle_all-handled.new.text.items c.as_slice.result.now
    (g.K.Sink.written c.args.sink.now) (g.K.Sink.written c.say-said.new.sink)
    (g.H.Handler.told c.args.handler.now c.handle_all-handled.new.handler) c.args.events.now
    c.clear.ensures.items c.as_slice.ensures.value c.in-Ok.ensures.answered c.say-said.ensures.stop c.say-said.ensures.unsaid

pub returns-in-Err-clause-stops : goal.returns-in-Err-clause-stops
returns-in-Err-clause-stops g c =
    stopped_said c.say-said.result c.in-Err.end c.clear.new.self.items c.handle_all-handled.new.text.items c.as_slice.result.now
    (g.K.Sink.written c.args.sink.now) (g.K.Sink.written c.say-said.new.sink)
    (g.H.Handler.told c.args.handler.now c.handle_all-handled.new.handler) c.args.events.now
    c.clear.ensures.items c.as_slice.ensures.value c.in-Err.ensures.stops c.say-said.ensures.said c.say-said.ensures.unsaid
