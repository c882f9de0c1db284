-- What it means that an order couldn't be carried out.
use Rattle.std.specs.Prelude.{ℕ, List, [], ◌∷◌, Option, Some, None, Bool, true, false, ◌+◌, ◌-◌}
use Rattle.std.specs.Prelude.{◌^◌, ◌%◌, codes}
use Rattle.sv_core.specs.Listening.{loses_stdin}
use Rattle.sv_core.specs.World.{World}
use Rattle.sv_core.specs.declared.failure.Failure.{Failure}
use Rattle.sv_core.specs.declared.failure.Failure.TheVariants.{NeverFails, ChangesNothing}
use Rattle.sv_core.specs.declared.failure.Failure.TheVariants.{LosesStdin, LosesLink}
use Rattle.sv_core.specs.declared.failure.Failure.TheVariants.{RefusesQuestion}
use Rattle.sv_core.specs.declared.part.Followed.{Followed}
use Rattle.sv_core.specs.declared.part.Followed.TheVariants as followed
use Rattle.sv_core.specs.declared.part.Question.{Question}
use Rattle.sv_core.specs.declared.part.Question.TheVariants as question
use Rattle.sv_core.specs.declared.part.Reply.{Reply}
use Rattle.sv_core.specs.declared.part.Reply.TheVariants as reply_is
use Rattle.sv_links.specs.LinkBook.{ended}
use Rattle.sv_links.specs.LinkBook.Ending.{Failed as Lost}
use Rattle.sv_out.specs.declared.order.Order.{Order}
use Rattle.sv_out.specs.declared.order.Order.TheVariants as order

-- a report and the halt are carried out by nobody; a question is refused where it fails; a write
-- that fails closes the stdin of its run; a link of which an order fails is over; a signal that
-- doesn't get through changes nothing, and an order about a file neither
abbrev pub failure_of : Order → Failure
failure_of (order.State group name from to) = NeverFails
failure_of (order.Dropped pool serial poolserial) = NeverFails
failure_of (order.Spawn spawn) = RefusesQuestion
failure_of (order.Kill run signal group) = ChangesNothing
failure_of (order.Stdin run bytes) = LosesStdin run
failure_of (order.Append file bytes) = ChangesNothing
failure_of (order.Shift from to) = ChangesNothing
failure_of (order.Fresh file) = ChangesNothing
failure_of (order.ReadFile file start length) = RefusesQuestion
failure_of (order.ClearFile file) = RefusesQuestion
failure_of (order.Names pattern) = RefusesQuestion
failure_of (order.Size file) = RefusesQuestion
failure_of (order.Send link bytes) = LosesLink link
failure_of (order.More link) = LosesLink link
failure_of (order.Close link) = LosesLink link
failure_of order.Halt = NeverFails

-- there is such an order, and it can fail
abbrev pub can_fail : Option Failure → Bool
can_fail (Some ChangesNothing) = true
can_fail (Some (LosesStdin run)) = true
can_fail (Some (LosesLink link)) = true
can_fail (Some RefusesQuestion) = true
can_fail other = false

-- the answer of a question whose order couldn't be carried out
abbrev pub refusal : Question → Reply
refusal question.Spawn = reply_is.Refused (codes "failed")
refusal (question.Read most) = reply_is.Failed
refusal question.Clear = reply_is.Failed

-- the refusal of the question that stands, if one stands
abbrev pub refusal_of : Option Question → Reply
refusal_of None = reply_is.Refused (codes "failed")
refusal_of (Some asked) = refusal asked

-- what the failure of an order that asks nothing changes
abbrev pub failed : Failure → World → World
failed (LosesStdin run) w = loses_stdin run w
failed (LosesLink link) w = record w { links = ended link Lost w.links }
failed failure w = w

-- what followed the input of a turn where an order failed, if it is one that can be named
abbrev pub failures_told : Option Failure → List Followed
failures_told None = []
failures_told (Some failure) = followed.Failed failure ∷ []

-- how far after the order numbered `first` the order numbered `number` is; numbers are taken modulo
-- 2^64
abbrev pub behind : ℕ → ℕ → ℕ
behind first number = (number + (2 ^ 64 - first)) % 2 ^ 64
