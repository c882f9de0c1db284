-- What was printed of the answer to a poll.
use Rattle.std.specs.Prelude.{ℕ, List, Option}
use Rattle.std.specs.Option.{ForSome}
use Rattle.sv_ctl.specs.Ask.Asking.{Calls, request_of}
use Rattle.sv_base.specs.declared.state.Stream.{Stream}
use Rattle.sv_follow.specs.Following.{poll_said}
use Rattle.sv_follow.specs.Tails.{tail_call}
use Rattle.sv_follow.specs.declared.follower.Follower.{Follower}
use Rattle.sv_out.specs.declared.connection.Exchange.{Exchange}
use Rattle.sv_ctl.specs.Talk.Answers.{Answer}
use Rattle.sv_ctl.specs.Talk.Conversation.{Talk}
use Rattle.sv_ctl.specs.Talk.Doings.{Comes}
use Rattle.sv_ctl.specs.declared.talk.course.Course.{Course}
use Rattle.sv_ctl.specs.declared.talk.server.Server.{Server}

-- the poll was made, what its answer shows was printed, and it goes on from where the reader stands
abbrev pub ShowsPoll : Answer → Option (List ℕ) → Option (List ℕ) → List ℕ → List ℕ → Follower
    → Follower → Course → Type 0
ShowsPoll answer old new url name follower now result =
    (server : Server) (channel : Stream) (before after : Option (List Exchange))
    (next : Follower → Talk)
    → ForSome before (λ exchanges.
    Calls exchanges after server.place (request_of server.client (tail_call name channel follower))
    answer)
    → Comes server before after old new (poll_said url name channel follower next)
    (λ _. next now) result
