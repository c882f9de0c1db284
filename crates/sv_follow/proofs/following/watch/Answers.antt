use Rattle.std.proofs.Common.{arith, ◌≤◌, ◌-◌}
use Rattle.sv_ctl.proofs.TalkLemmas.Causes.{rises_for, rises_where}
use Rattle.sv_ctl.specs.Talk.Courses.{IsLost, IsUnprinted}
use Rattle.sv_follow.proofs.Resting.{rests_on, rests_over}
use Rattle.sv_follow.proofs.Watching.{polls_off, polls_on}
use Rattle.sv_follow.specs.Following.{follow_said}
use Rattle.sv_follow.proofs.following.watch.Goals as goal

pub returns-in_default : goal.returns-in_default
returns-in_default g c = record {
  comes = polls_off c.args.server.now (g.D.Dial.told c.args.dial.now) (g.D.Dial.told c.polls.dial) (g.D.Dial.told c.poll.new.dial)
      (g.K.Sink.written c.args.out.now) (g.K.Sink.written c.polls.out) (g.K.Sink.written c.poll.new.out)
      (follow_said c.args.server.now.client.url c.args.name.now c.args.stream c.args.polls) c.args.server.now.client.url
      c.args.name.now c.args.stream c.polls.left c.polls.follower c.poll.new.follower c.poll.result c.polls-test.true
      c.polls.invariant.goes c.poll.ensures.comes c.in_default.not-On;
  rests = rests_over (g.C.Clock.paused c.args.clock.now) (g.C.Clock.paused c.polls.clock) c.args.polls c.polls.left
      c.polls.invariant.rests;
  dial_cause = rises_for (g.D.Dial.faults c.args.dial.now) (g.D.Dial.faults c.polls.dial) (g.D.Dial.faults c.poll.new.dial)
      (IsLost c.poll.result) c.polls.invariant.dial_later c.poll.ensures.dial_cause;
  out_cause = rises_where (g.K.Sink.faults c.args.out.now) (g.K.Sink.faults c.polls.out) (g.K.Sink.faults c.poll.new.out)
      (IsUnprinted c.poll.result) c.polls.invariant.out_later c.poll.ensures.out_cause;
}

pub polls-preserved : goal.polls-preserved
polls-preserved g c = record {
  goes = polls_on c.args.server.now (g.D.Dial.told c.args.dial.now) (g.D.Dial.told c.polls.dial) (g.D.Dial.told c.poll.new.dial)
      (g.K.Sink.written c.args.out.now) (g.K.Sink.written c.polls.out) (g.K.Sink.written c.poll.new.out)
      (follow_said c.args.server.now.client.url c.args.name.now c.args.stream c.args.polls) c.args.server.now.client.url
      c.args.name.now c.args.stream c.polls.left c.polls.follower c.poll.new.follower c.poll.result c.in-On.field-0
      c.polls-test.true c.polls.invariant.goes c.poll.ensures.comes c.in-On.is;
  within = let bound = c.polls.invariant.within in let fewer : c.polls.left - 1 ≤ c.args.polls = omega (arith, bound) in fewer;
  rests = rests_on (g.C.Clock.paused c.args.clock.now) (g.C.Clock.paused c.polls.clock) (g.C.Clock.paused c.rest.new.clock)
      c.args.polls c.polls.left c.poll.new.follower c.polls-test.true c.polls.invariant.within c.polls.invariant.rests
      c.rest.ensures;
  dial_later = (rises_for (g.D.Dial.faults c.args.dial.now) (g.D.Dial.faults c.polls.dial) (g.D.Dial.faults c.poll.new.dial)
      (IsLost c.poll.result) c.polls.invariant.dial_later c.poll.ensures.dial_cause).later;
  out_later = (rises_where (g.K.Sink.faults c.args.out.now) (g.K.Sink.faults c.polls.out) (g.K.Sink.faults c.poll.new.out)
      (IsUnprinted c.poll.result) c.polls.invariant.out_later c.poll.ensures.out_cause).later;
}
