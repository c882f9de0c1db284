use Rattle.std.proofs.Common.{◌≤◌, ◌^◌, ◌-◌, min}
use Rattle.sv_follow.specs.Following.{follow_said, polls_said}
use Rattle.sv_follow.specs.Rests.{Rests}
use Rattle.sv_ctl.specs.Talk.Doings.{Goes}
use Rattle.sv_follow.proofs.following.watch.Given as goal

abbrev pub invariant-polls : goal.invariant-polls
invariant-polls g l = record {
  goes : Goes l.server (g.D.Dial.told l.initial.dial) (g.D.Dial.told l.dial) (g.K.Sink.written l.initial.out) (g.K.Sink.written l.out)
      (follow_said l.server.client.url l.name l.stream l.polls) (polls_said l.server.client.url l.name l.stream l.left l.follower);
  within : l.left ≤ l.polls;
  rests : Rests (g.C.Clock.paused l.initial.clock) (g.C.Clock.paused l.clock) (l.polls - l.left);
  dial_later : min (g.D.Dial.faults l.initial.dial) (2 ^ 64 - 1) ≤ g.D.Dial.faults l.dial;
  out_later : g.K.Sink.faults l.initial.out ≤ g.K.Sink.faults l.out;
}

abbrev pub decreases-polls : goal.decreases-polls
decreases-polls g l = l.left
