use Rattle.std.proofs.Common.{◌-◌, ℕ, subst, sym, ◌∙◌, arith, take}
use Rattle.std.specs.Io.KnownBytes.{Consumes}
use Rattle.sv_listener.proofs.Listens.{HearsOn, broken, ended_between, ended_within, hears_on, hears_piece, hears_start, source_failed, stopped, too_much}
use Rattle.sv_listener.proofs.listening.hear.Goals as goal

pub loop-room-init : goal.loop-room-init
loop-room-init g c = record {
  source_later = omega arith;
  sink_later = omega arith;
  handler_later = omega arith;
  room = omega arith;
  buffer = search arith;
  hears =
      hears_start c.new-side.result (g.R.Source.left c.args.source.now) (g.K.Sink.written c.args.sink.now)
      (g.H.Handler.told c.args.handler.now c.args.handler.now) c.new-side.ensures (g.met.H.Handler.nothing c.args.handler.now);
}

pub returns-in-Err-clause-says : goal.returns-in-Err-clause-says
returns-in-Err-clause-says g c =
    source_failed c.loop-room.side c.loop-room.room (g.R.Source.left c.args.source.now) (g.R.Source.left c.loop-room.source) (g.R.Source.left c.read_piece.new.source)
    (g.K.Sink.written c.args.sink.now) (g.K.Sink.written c.loop-room.sink) (g.H.Handler.told c.args.handler.now c.loop-room.handler)
    c.loop-room.invariant.hears c.in-Err.ensures.kept

pub returns-then-between-clause-says : goal.returns-then-between-clause-says
returns-then-between-clause-says g c =
    let P : ℕ → Type 0 = λ n. Consumes (g.R.Source.left c.loop-room.source) (g.R.Source.left c.read_piece.new.source) (take n c.read_piece.new.buffer) in
    ended_between c.loop-room.side c.loop-room.room (g.R.Source.left c.args.source.now) (g.R.Source.left c.loop-room.source) (g.R.Source.left c.read_piece.new.source)
    (g.K.Sink.written c.args.sink.now) (g.K.Sink.written c.loop-room.sink) (g.H.Handler.told c.args.handler.now c.loop-room.handler)
    c.loop-room.invariant.hears (subst P c.if-count-eq0.true c.in-Ok.ensures.bytes) (c.in-Ok.ensures.end c.if-count-eq0.true)
    (λ stream events stands. sym (c.between.ensures stream events stands) ∙ c.if-between.true)

pub returns-then-count-eq0-clause-says : goal.returns-then-count-eq0-clause-says
returns-then-count-eq0-clause-says g c =
    let P : ℕ → Type 0 = λ n. Consumes (g.R.Source.left c.loop-room.source) (g.R.Source.left c.read_piece.new.source) (take n c.read_piece.new.buffer) in
    ended_within c.loop-room.side c.loop-room.room (g.R.Source.left c.args.source.now) (g.R.Source.left c.loop-room.source) (g.R.Source.left c.read_piece.new.source)
    (g.K.Sink.written c.args.sink.now) (g.K.Sink.written c.loop-room.sink) (g.H.Handler.told c.args.handler.now c.loop-room.handler)
    c.loop-room.invariant.hears (subst P c.if-count-eq0.true c.in-Ok.ensures.bytes) (c.in-Ok.ensures.end c.if-count-eq0.true)
    (λ stream events stands. sym (c.between.ensures stream events stands) ∙ c.if-between.false)

pub returns-in-Err-take_piece-clause-says : goal.returns-in-Err-take_piece-clause-says
returns-in-Err-take_piece-clause-says g c =
    stopped c.in-Err-take_piece.end c.loop-room.side c.loop-room.room (g.R.Source.left c.args.source.now) (g.R.Source.left c.loop-room.source) (g.R.Source.left c.read_piece.new.source)
    (g.K.Sink.written c.args.sink.now) (g.K.Sink.written c.loop-room.sink) (g.K.Sink.written c.take_piece.new.sink)
    (g.H.Handler.told c.args.handler.now c.loop-room.handler) (g.H.Handler.told c.loop-room.handler c.take_piece.new.handler)
    (g.H.Handler.told c.args.handler.now c.take_piece.new.handler) c.split_at.result.0.now c.in-Err-take_piece.ensures.stop
    (g.met.H.Handler.further c.args.handler.now c.loop-room.handler c.take_piece.new.handler)
    c.loop-room.invariant.hears (rw c.split_at.ensures.front c.in-Ok.ensures.bytes) c.in-Err-take_piece.ensures.stops

pub returns-then-is_some-clause-says : goal.returns-then-is_some-clause-says
returns-then-is_some-clause-says g c =
    let piece = hears_piece c.loop-room.side c.take_piece.new.side c.loop-room.room (g.R.Source.left c.args.source.now) (g.R.Source.left c.loop-room.source) (g.R.Source.left c.read_piece.new.source)
    (g.K.Sink.written c.args.sink.now) (g.K.Sink.written c.loop-room.sink) (g.K.Sink.written c.take_piece.new.sink)
    (g.H.Handler.told c.args.handler.now c.loop-room.handler) (g.H.Handler.told c.loop-room.handler c.take_piece.new.handler)
    (g.H.Handler.told c.args.handler.now c.take_piece.new.handler) c.split_at.result.0.now
    (g.met.H.Handler.further c.args.handler.now c.loop-room.handler c.take_piece.new.handler)
    c.loop-room.invariant.hears (rw c.split_at.ensures.front c.in-Ok.ensures.bytes)
    (omega (arith, c.split_at.ensures.front_len, c.in-Ok.ensures.most)) c.in-Ok-take_piece.ensures.goes in
    broken c.take_piece.new.side _ (g.R.Source.left c.args.source.now) (g.R.Source.left c.read_piece.new.source)
    (g.K.Sink.written c.args.sink.now) (g.K.Sink.written c.take_piece.new.sink) (g.H.Handler.told c.args.handler.now c.take_piece.new.handler)
    c.fault.result piece c.fault.ensures (sym c.is_some.ensures ∙ c.if-is_some.true)

pub loop-room-preserved : goal.loop-room-preserved
loop-room-preserved g c =
    let piece = hears_piece c.loop-room.side c.take_piece.new.side c.loop-room.room (g.R.Source.left c.args.source.now) (g.R.Source.left c.loop-room.source) (g.R.Source.left c.read_piece.new.source)
    (g.K.Sink.written c.args.sink.now) (g.K.Sink.written c.loop-room.sink) (g.K.Sink.written c.take_piece.new.sink)
    (g.H.Handler.told c.args.handler.now c.loop-room.handler) (g.H.Handler.told c.loop-room.handler c.take_piece.new.handler)
    (g.H.Handler.told c.args.handler.now c.take_piece.new.handler) c.split_at.result.0.now
    (g.met.H.Handler.further c.args.handler.now c.loop-room.handler c.take_piece.new.handler)
    c.loop-room.invariant.hears (rw c.split_at.ensures.front c.in-Ok.ensures.bytes)
    (omega (arith, c.split_at.ensures.front_len, c.in-Ok.ensures.most)) c.in-Ok-take_piece.ensures.goes in
    let P : ℕ → Type 0 = λ n. HearsOn c.take_piece.new.side (c.loop-room.room - n) (g.R.Source.left c.args.source.now) (g.R.Source.left c.read_piece.new.source)
    (g.K.Sink.written c.args.sink.now) (g.K.Sink.written c.take_piece.new.sink) (g.H.Handler.told c.args.handler.now c.take_piece.new.handler) in
    record {
      source_later = omega (arith, c.loop-room.invariant.source_later, c.in-Ok.ensures.cause.later);
      sink_later = omega (arith, c.loop-room.invariant.sink_later, c.in-Ok-take_piece.ensures.sink_later);
      handler_later = omega (arith, c.loop-room.invariant.handler_later, c.in-Ok-take_piece.ensures.handler_later);
      room = omega (arith, c.loop-room.invariant.room);
      buffer = c.if-count-eq0.array_long;
      hears = subst P c.split_at.ensures.front_len
          (hears_on c.take_piece.new.side _ (g.R.Source.left c.args.source.now) (g.R.Source.left c.read_piece.new.source)
          (g.K.Sink.written c.args.sink.now) (g.K.Sink.written c.take_piece.new.sink) (g.H.Handler.told c.args.handler.now c.take_piece.new.handler)
          c.fault.result piece c.fault.ensures (sym c.is_some.ensures ∙ c.if-is_some.false));
    }

pub returns-clause-says : goal.returns-clause-says
returns-clause-says g c =
    too_much c.loop-room.side c.loop-room.room (g.R.Source.left c.args.source.now) (g.R.Source.left c.loop-room.source)
    (g.K.Sink.written c.args.sink.now) (g.K.Sink.written c.loop-room.sink) (g.H.Handler.told c.args.handler.now c.loop-room.handler)
    c.loop-room.invariant.hears (omega (arith, c.loop-room-test.false))
