-- What is said of the answer to a poll, and where the reader stands then.
use Rattle.std.specs.Prelude.{ℕ, List, true, Option, Some, None, Ok, Err}
use Rattle.sv_commands.specs.declared.status.Status.TheVariants.{Done}
use Rattle.sv_commands.specs.declared.step.Line.{Line}
use Rattle.sv_commands.specs.declared.step.Show.TheVariants.{Log}
use Rattle.sv_follow.specs.Follower.{after, shown}
use Rattle.sv_follow.specs.Printed.{printed}
use Rattle.sv_follow.specs.Tails.{tail_of}
use Rattle.sv_follow.specs.declared.follower.Follower.{Follower}
use Rattle.sv_follow.specs.declared.tails.Tail.{Tail}
use Rattle.sv_ctl.specs.Talk.Answers.{Answer, bad_reply, told_of}
use Rattle.sv_ctl.specs.declared.talk.course.Course.{Course}
use Rattle.sv_ctl.specs.declared.talk.course.Course.TheVariants.{On, Broken, Quit, Lost, NoMemory}
use Rattle.sv_ctl.specs.declared.talk.course.Course.TheVariants.{Unprinted}
use Rattle.sv_ctl.specs.declared.talk.told.Told.{Told}
use Rattle.sv_xmlcall.specs.Trees.{view}
use Rattle.sv_xmlcall.specs.declared.call.Answered.TheVariants as answered

-- how the fault of a poll is said: by the log's name, and it counts
abbrev pub line_of : List ℕ → Line
line_of name = record { name = Some name; show = Log; counts = true }

-- what would go on is over
abbrev pub ended : Course → Course
ended (On status) = Quit status
ended Broken = Broken
ended (Quit status) = Quit status
ended Lost = Lost
ended NoMemory = NoMemory
ended Unprinted = Unprinted

-- the same text, after which the log isn't followed any longer
abbrev pub over : Told → Told
over told = record { text = told.text; course = ended told.course }

-- what a poll shows, or that its answer can't be read
abbrev pub tail_told : Follower → Option Tail → Told
tail_told follower None = bad_reply
tail_told follower (Some tail) =
    record { text = printed (shown follower tail.text tail.size tail.overflow); course = On Done }

-- where the reader stands then
abbrev pub after_tail : Follower → Option Tail → Follower
after_tail follower None = follower
after_tail follower (Some tail) = after follower tail.size

-- what is said of the answer to a poll of the log of this name
abbrev pub poll_told : List ℕ → List ℕ → Follower → Answer → Told
poll_told url name follower (Ok (answered.Value value)) = tail_told follower (tail_of (view value))
poll_told url name follower (Ok (answered.Fault number content)) =
    over (told_of url (line_of name) Done (Ok (answered.Fault number content)))
poll_told url name follower (Err fault) = over (told_of url (line_of name) Done (Err fault))

-- where the reader stands after it
abbrev pub after_answer : Follower → Answer → Follower
after_answer follower (Ok (answered.Value value)) = after_tail follower (tail_of (view value))
after_answer follower (Ok (answered.Fault number content)) = follower
after_answer follower (Err fault) = follower
