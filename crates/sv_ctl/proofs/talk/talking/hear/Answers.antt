use Rattle.std.proofs.Common.{◌++◌, get_or, refl}
use Rattle.sv_ctl.proofs.TalkLemmas.Causes.{rises_for, rises_where}
use Rattle.sv_ctl.proofs.TalkLemmas.Lines.{bytes_off, bytes_on}
use Rattle.sv_ctl.specs.Talk.Conversation.{heard_said, lines_from}
use Rattle.sv_ctl.specs.Talk.Courses.{IsLost, IsUnprinted}
use Rattle.sv_ctl.proofs.talk.talking.hear.Goals as goal

pub returns-in_default-hear_byte : goal.returns-in_default-hear_byte
returns-in_default-hear_byte g c = record {
  comes = λ end rest. bytes_off c.args.server.now (g.D.Dial.told c.args.dial.now) (g.D.Dial.told c.loop-left.dial)
      (g.D.Dial.told c.hear_byte.new.dial) (g.K.Sink.written c.args.out.now) (g.K.Sink.written c.loop-left.out)
      (g.K.Sink.written c.hear_byte.new.out) end
      (heard_said c.args.server.now.client.url end (lines_from end c.args.line.now.items (c.args.piece.now ++ rest)) c.args.status)
      c.loop-left.line.items c.hear_byte.new.line.items c.loop-left.left.now rest (get_or c.loop-left.left.now 0 0) c.loop-left.status c.hear_byte.result
      (heard_said c.args.server.now.client.url end (lines_from end c.hear_byte.new.line.items rest)) c.in-len1-up.len_at_least
      refl (c.loop-left.invariant.goes end rest) c.hear_byte.ensures.comes c.in_default-hear_byte.not-On;
  dial_cause = rises_for (g.D.Dial.faults c.args.dial.now) (g.D.Dial.faults c.loop-left.dial) (g.D.Dial.faults c.hear_byte.new.dial)
      (IsLost c.hear_byte.result) c.loop-left.invariant.dial_later c.hear_byte.ensures.dial_cause;
  out_cause = rises_where (g.K.Sink.faults c.args.out.now) (g.K.Sink.faults c.loop-left.out) (g.K.Sink.faults c.hear_byte.new.out)
      (IsUnprinted c.hear_byte.result) c.loop-left.invariant.out_later c.hear_byte.ensures.out_cause;
}

pub loop-left-preserved : goal.loop-left-preserved
loop-left-preserved g c = record {
  goes = λ end rest. bytes_on c.args.server.now (g.D.Dial.told c.args.dial.now) (g.D.Dial.told c.loop-left.dial)
      (g.D.Dial.told c.hear_byte.new.dial) (g.K.Sink.written c.args.out.now) (g.K.Sink.written c.loop-left.out)
      (g.K.Sink.written c.hear_byte.new.out) end
      (heard_said c.args.server.now.client.url end (lines_from end c.args.line.now.items (c.args.piece.now ++ rest)) c.args.status)
      c.loop-left.line.items c.hear_byte.new.line.items c.loop-left.left.now rest (get_or c.loop-left.left.now 0 0) c.loop-left.status c.in-On.so_far
      c.hear_byte.result c.in-len1-up.len_at_least refl (c.loop-left.invariant.goes end rest) c.hear_byte.ensures.comes
      c.in-On.is;
  dial_later = (rises_for (g.D.Dial.faults c.args.dial.now) (g.D.Dial.faults c.loop-left.dial) (g.D.Dial.faults c.hear_byte.new.dial)
      (IsLost c.hear_byte.result) c.loop-left.invariant.dial_later c.hear_byte.ensures.dial_cause).later;
  out_later = (rises_where (g.K.Sink.faults c.args.out.now) (g.K.Sink.faults c.loop-left.out) (g.K.Sink.faults c.hear_byte.new.out)
      (IsUnprinted c.hear_byte.result) c.loop-left.invariant.out_later c.hear_byte.ensures.out_cause).later;
}
