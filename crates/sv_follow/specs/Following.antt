-- The following of a log as a conversation: a function of the answers that come, which gives the
-- calls, the text, and how it ends.
use Rattle.std.specs.Prelude.{◌≡◌, ◌∷◌, ℕ, zero, suc, List, [], Option}
use Rattle.sv_base.specs.declared.state.Stream.{Stream}
use Rattle.sv_commands.specs.declared.status.Status.TheVariants.{Done}
use Rattle.sv_follow.specs.Follower.{first}
use Rattle.sv_follow.specs.Polls.{after_answer, poll_told}
use Rattle.sv_follow.specs.Tails.{tail_call}
use Rattle.sv_follow.specs.declared.follower.Follower.{Follower}
use Rattle.sv_out.specs.declared.connection.Exchange.{Exchange}
use Rattle.sv_ctl.specs.Talk.Conversation.{Talk, ends, goes_on, having, stops}
use Rattle.sv_ctl.specs.Talk.Courses.{number}
use Rattle.sv_ctl.specs.Talk.Doings.{Comes}
use Rattle.sv_ctl.specs.declared.talk.course.Course.{Course}
use Rattle.sv_ctl.specs.declared.talk.course.Course.TheVariants.{NoMemory}
use Rattle.sv_ctl.specs.declared.talk.server.Server.{Server}

-- one poll, and what follows from where the reader stands then
abbrev pub poll_said : List ℕ → List ℕ → Stream → Follower → (Follower → Talk) → Talk
poll_said url name channel follower next [] = ends NoMemory []
poll_said url name channel follower next (answer ∷ answers) =
    having (tail_call name channel follower ∷ []) (poll_told url name follower answer).text
    (goes_on (poll_told url name follower answer).course
    (λ _. next (after_answer follower answer)) answers)

-- so many polls
abbrev pub polls_said : List ℕ → List ℕ → Stream → ℕ → Follower → Talk
polls_said url name channel zero follower = stops Done
polls_said url name channel (suc polls) follower =
    poll_said url name channel follower (polls_said url name channel polls)

-- the following of a log, over so many polls
abbrev pub follow_said : List ℕ → List ℕ → Stream → ℕ → Talk
follow_said url name channel polls = polls_said url name channel polls first

-- what a following came to, over a dial and an output, with the number of its status
pub record Follows (server : Server) (before after : Option (List Exchange))
    (old new : Option (List ℕ)) (name : List ℕ) (channel : Stream) (polls status : ℕ) : Type 0 where
  pub course : Course
  pub comes : Comes server before after old new (follow_said server.client.url name channel polls)
      stops course
  pub is_number : status ≡ number course
