use Rattle.std.proofs.Common.{◌-◌, ℕ, subst, arith}
use Rattle.sv_loop.proofs.ReadAll.{reads_more, read_stops, ended_behind}
use Rattle.sv_loop.specs.Replaying.{ReadsOn}
use Rattle.sv_loop.proofs.replaying.read_all.Goals as goal

pub returns-in-Err-take_piece-clause-ended : goal.returns-in-Err-take_piece-clause-ended
returns-in-Err-take_piece-clause-ended g c =
    read_stops c.in-Err-take_piece.end c.loop-room.run c.take_piece.new.self c.loop-room.room
    (g.R.Source.left c.args.source.now) (g.R.Source.left c.loop-room.source) (g.R.Source.left c.read_piece.new.source)
    (g.K.Sink.written c.args.sink.now) (g.K.Sink.written c.loop-room.sink) (g.K.Sink.written c.take_piece.new.sink)
    c.split_at.result.0.now c.loop-room.invariant.reads (rw c.split_at.ensures.front c.in-Ok.ensures.bytes)
    (omega (arith, c.split_at.ensures.front_len, c.in-Ok.ensures.most))
    (λ l a o b s. c.in-Err-take_piece.ensures.stops l a o b s)

pub loop-room-preserved : goal.loop-room-preserved
loop-room-preserved g c = record {
  source_later = omega (arith, c.loop-room.invariant.source_later, c.in-Ok.ensures.cause.later);
  sink_later = omega (arith, c.loop-room.invariant.sink_later, c.in-Ok-take_piece.ensures.later);
  room = omega (arith, c.loop-room.invariant.room);
  few = omega (arith, c.loop-room.invariant.few, c.in-Ok-take_piece.ensures.few, c.split_at.ensures.front_len, c.in-Ok.ensures.most);
  buffer = c.if-count-eq0.array_long;
  reads =
      let P : ℕ → Type 0 = λ n. ReadsOn c.take_piece.new.self (c.loop-room.room - n) (g.R.Source.left c.args.source.now)
      (g.R.Source.left c.read_piece.new.source) (g.K.Sink.written c.args.sink.now) (g.K.Sink.written c.take_piece.new.sink) in
      subst P c.split_at.ensures.front_len
      (reads_more c.loop-room.run c.take_piece.new.self c.loop-room.room
      (g.R.Source.left c.args.source.now) (g.R.Source.left c.loop-room.source) (g.R.Source.left c.read_piece.new.source)
      (g.K.Sink.written c.args.sink.now) (g.K.Sink.written c.loop-room.sink) (g.K.Sink.written c.take_piece.new.sink)
      c.split_at.result.0.now c.loop-room.invariant.reads (rw c.split_at.ensures.front c.in-Ok.ensures.bytes)
      (omega (arith, c.split_at.ensures.front_len, c.in-Ok.ensures.most))
      (λ l a o b s. c.in-Ok-take_piece.ensures.goes_on l a o b s));
}

pub returns-clause-ended : goal.returns-clause-ended
returns-clause-ended g c =
    ended_behind c.look_behind.result c.loop-room.run c.loop-room.room
    (g.R.Source.left c.args.source.now) (g.R.Source.left c.loop-room.source) (g.R.Source.left c.look_behind.new.source)
    (g.K.Sink.written c.args.sink.now) (g.K.Sink.written c.loop-room.sink)
    (omega (arith, c.loop-room-test.false)) c.loop-room.invariant.reads c.look_behind.ensures.behind
