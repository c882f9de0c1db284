use Rattle.std.proofs.Common.{Some, arith}
use Rattle.sv_listener.proofs.Listens.{answers_on, stops_on}
use Rattle.sv_listener.proofs.listening.handle_all.Goals as goal

pub returns-in-Err-clause-stops : goal.returns-in-Err-clause-stops
returns-in-Err-clause-stops g c =
    stops_on c.in-Err.end (Some c.args.text.now.items) (Some c.loop-event.text.items) (Some c.answer.new.text.items)
    (g.H.Handler.told c.args.handler.now c.loop-event.handler) (g.H.Handler.told c.loop-event.handler c.answer.new.handler)
    (g.H.Handler.told c.args.handler.now c.answer.new.handler) c.args.events.now c.loop-event.event-index c.event-item.result
    (g.met.H.Handler.further c.args.handler.now c.loop-event.handler c.answer.new.handler)
    c.loop-event-test.true c.event-item.is c.loop-event.invariant.answered c.in-Err.ensures.stops

pub loop-event-preserved : goal.loop-event-preserved
loop-event-preserved g c = record {
  handler_later = omega (arith, c.loop-event.invariant.handler_later, c.in-Ok.ensures.handler_later);
  answered =
      answers_on (Some c.args.text.now.items) (Some c.loop-event.text.items) (Some c.answer.new.text.items)
      (g.H.Handler.told c.args.handler.now c.loop-event.handler) (g.H.Handler.told c.loop-event.handler c.answer.new.handler)
      (g.H.Handler.told c.args.handler.now c.answer.new.handler) c.args.events.now c.loop-event.event-index c.event-item.result
      (g.met.H.Handler.further c.args.handler.now c.loop-event.handler c.answer.new.handler)
      c.loop-event-test.true c.event-item.is c.loop-event.invariant.answered c.in-Ok.ensures.answered;
}
