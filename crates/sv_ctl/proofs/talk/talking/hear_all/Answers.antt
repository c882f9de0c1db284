use Rattle.std.proofs.Common.{ℕ, List, arith, inl, inr, rules, subst, take}
use Rattle.std.proofs.KnownBytes.{Consumes-nil}
use Rattle.std.specs.Io.KnownBytes.{Consumes}
use Rattle.sv_ctl.proofs.TalkLemmas.Causes.{rises_for, rises_where}
use Rattle.sv_ctl.proofs.TalkLemmas.Hearing.{hears_failed, hears_off, hears_on, hears_whole}
use Rattle.sv_ctl.specs.Talk.Conversation.{heard_said, last_line, stops}
use Rattle.sv_ctl.specs.Talk.Conversation.InputEnd.{Whole}
use Rattle.sv_ctl.specs.Talk.Courses.{IsLost, IsUnprinted}
use Rattle.sv_ctl.specs.Talk.Doings.{Comes}
use Rattle.sv_ctl.proofs.talk.talking.hear_all.Goals as goal

pub returns-in_err-count-clause-hears : goal.returns-in_err-count-clause-hears
returns-in_err-count-clause-hears g c =
    hears_failed c.args.server.now (g.D.Dial.told c.args.dial.now) (g.D.Dial.told c.pieces.dial) (g.R.Source.left c.args.input.now)
    (g.R.Source.left c.pieces.input) (g.R.Source.left c.read_piece.new.input) (g.K.Sink.written c.args.out.now)
    (g.K.Sink.written c.pieces.out) c.args.status c.pieces.status c.pieces.line.items c.pieces.room c.from_residual.result
    c.from_residual.ensures.0 c.pieces.invariant.hears c.in_err-count.ensures.kept

pub returns-then-count-eq0-clause-hears : goal.returns-then-count-eq0-clause-hears
returns-then-count-eq0-clause-hears g c =
    let P : ℕ → Type 0 = λ n. Consumes (g.R.Source.left c.pieces.input) (g.R.Source.left c.read_piece.new.input) (take n c.read_piece.new.buffer) in
    hears_whole c.args.server.now (g.D.Dial.told c.args.dial.now) (g.D.Dial.told c.pieces.dial) (g.D.Dial.told c.finish.new.dial)
    (g.R.Source.left c.args.input.now) (g.R.Source.left c.pieces.input) (g.R.Source.left c.read_piece.new.input)
    (g.K.Sink.written c.args.out.now) (g.K.Sink.written c.pieces.out) (g.K.Sink.written c.finish.new.out)
    c.args.status c.pieces.status c.pieces.line.items c.pieces.room c.finish.result c.pieces.invariant.hears
    (subst P c.if-count-eq0.true c.in_ok-count.ensures.bytes) (inl (c.in_ok-count.ensures.end c.if-count-eq0.true))
    (subst (λ (line : List ℕ). Comes c.args.server.now (g.D.Dial.told c.pieces.dial) (g.D.Dial.told c.finish.new.dial)
    (g.K.Sink.written c.pieces.out) (g.K.Sink.written c.finish.new.out)
    (heard_said c.args.server.now.client.url Whole (last_line Whole line) c.pieces.status) stops c.finish.result)
    c.as_slice.ensures.value c.finish.ensures.comes)

pub returns-in_default : goal.returns-in_default
returns-in_default g c = record {
  hears = hears_off c.args.server.now (g.D.Dial.told c.args.dial.now) (g.D.Dial.told c.pieces.dial) (g.D.Dial.told c.hear.new.dial)
      (g.R.Source.left c.args.input.now) (g.R.Source.left c.pieces.input) (g.R.Source.left c.read_piece.new.input)
      (g.K.Sink.written c.args.out.now) (g.K.Sink.written c.pieces.out) (g.K.Sink.written c.hear.new.out)
      c.args.status c.pieces.status c.pieces.line.items c.hear.new.line.items c.split_at.result.0.now c.pieces.room c.hear.result
      c.pieces.invariant.hears (rw c.split_at.ensures.front c.in_ok-count.ensures.bytes) c.hear.ensures.comes c.in_default.not-On;
  dial_cause = rises_for (g.D.Dial.faults c.args.dial.now) (g.D.Dial.faults c.pieces.dial) (g.D.Dial.faults c.hear.new.dial)
      (IsLost c.hear.result) c.pieces.invariant.dial_later c.hear.ensures.dial_cause;
  input_cause = search rules;
  out_cause = rises_where (g.K.Sink.faults c.args.out.now) (g.K.Sink.faults c.pieces.out) (g.K.Sink.faults c.hear.new.out)
      (IsUnprinted c.hear.result) c.pieces.invariant.out_later c.hear.ensures.out_cause;
}

pub pieces-preserved : goal.pieces-preserved
pieces-preserved g c = record {
  hears = hears_on c.args.server.now (g.D.Dial.told c.args.dial.now) (g.D.Dial.told c.pieces.dial) (g.D.Dial.told c.hear.new.dial)
      (g.R.Source.left c.args.input.now) (g.R.Source.left c.pieces.input) (g.R.Source.left c.read_piece.new.input)
      (g.K.Sink.written c.args.out.now) (g.K.Sink.written c.pieces.out) (g.K.Sink.written c.hear.new.out)
      c.args.status c.pieces.status c.in-On.so_far c.pieces.line.items c.hear.new.line.items c.split_at.result.0.now c.pieces.room
      c.in_ok-count.count c.hear.result c.pieces.invariant.hears (rw c.split_at.ensures.front c.in_ok-count.ensures.bytes)
      c.split_at.ensures.front_len c.in_ok-count.ensures.most c.hear.ensures.comes c.in-On.is;
  dial_later = (rises_for (g.D.Dial.faults c.args.dial.now) (g.D.Dial.faults c.pieces.dial) (g.D.Dial.faults c.hear.new.dial)
      (IsLost c.hear.result) c.pieces.invariant.dial_later c.hear.ensures.dial_cause).later;
  input_later = omega (arith, c.pieces.invariant.input_later, c.in_ok-count.ensures.cause.later);
  out_later = (rises_where (g.K.Sink.faults c.args.out.now) (g.K.Sink.faults c.pieces.out) (g.K.Sink.faults c.hear.new.out)
      (IsUnprinted c.hear.result) c.pieces.invariant.out_later c.hear.ensures.out_cause).later;
}

pub returns-clause-hears : goal.returns-clause-hears
returns-clause-hears g c =
    hears_whole c.args.server.now (g.D.Dial.told c.args.dial.now) (g.D.Dial.told c.pieces.dial) (g.D.Dial.told c.finish-2.new.dial)
    (g.R.Source.left c.args.input.now) (g.R.Source.left c.pieces.input) (g.R.Source.left c.pieces.input)
    (g.K.Sink.written c.args.out.now) (g.K.Sink.written c.pieces.out) (g.K.Sink.written c.finish-2.new.out)
    c.args.status c.pieces.status c.pieces.line.items c.pieces.room c.finish-2.result c.pieces.invariant.hears
    (Consumes-nil (g.R.Source.left c.pieces.input)) (inr (omega (arith, c.pieces-test.false)))
    (subst (λ (line : List ℕ). Comes c.args.server.now (g.D.Dial.told c.pieces.dial) (g.D.Dial.told c.finish-2.new.dial)
    (g.K.Sink.written c.pieces.out) (g.K.Sink.written c.finish-2.new.out)
    (heard_said c.args.server.now.client.url Whole (last_line Whole line) c.pieces.status) stops c.finish-2.result)
    c.as_slice-2.ensures.value c.finish-2.ensures.comes)
