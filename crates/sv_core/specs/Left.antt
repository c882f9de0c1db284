-- What is left of step 5 where it stopped at a question: from the request that asked outwards to
-- the links. And how each goes on with the answer.
use Rattle.std.specs.Prelude.{Option, Some, None, drop}
use Rattle.sv_calls.specs.declared.answers.read.LogRead.{LogRead}
use Rattle.sv_base.specs.declared.ids.LinkId.{LinkId}
use Rattle.sv_core.specs.Calling.{acts_left, asks_read, calls_all, calls_left, checks_wait}
use Rattle.sv_core.specs.Calling.{ends_call, read_answered}
use Rattle.sv_core.specs.Requests.{asks_clear, asks_start, clear_answered, clears_all, does_all}
use Rattle.sv_core.specs.Requests.{start_answered}
use Rattle.sv_core.specs.Serving.{gives_more, serves_all, serves_asks, serves_left}
use Rattle.sv_core.specs.Sweeps.{Turn}
use Rattle.sv_core.specs.World.{World}
use Rattle.sv_core.specs.declared.part.Question.{Question}
use Rattle.sv_core.specs.declared.part.Question.TheVariants as question
use Rattle.sv_core.specs.declared.part.Reply.{Reply}
use Rattle.sv_core.specs.declared.place.Asked.{Asked}
use Rattle.sv_core.specs.declared.place.Acting.{Acting}
use Rattle.sv_core.specs.declared.place.Asking.{Asking}
use Rattle.sv_core.specs.declared.place.Calling.{Calling}
use Rattle.sv_core.specs.declared.place.Calling.TheVariants as calling_is
use Rattle.sv_core.specs.declared.place.Clearing.{Clearing}
use Rattle.sv_core.specs.declared.place.Going.{Going}
use Rattle.sv_core.specs.declared.place.Serving.{Serving}
use Rattle.sv_core.specs.declared.place.Wanting.{Wanting}
use Rattle.sv_core.specs.declared.place.Wanting.TheVariants as wanting_is

-- ---- what is left, where something asked; and else nothing

-- of a start
unfoldable pub starting : LinkId → Option Asked → (World → Turn) → World → Turn
starting link None k w = k w
starting link (Some asked) k w = asks_start link asked.child asked.run w k

-- of files that are cleared
unfoldable pub clearing : LinkId → Option Clearing → (World → Turn) → World → Turn
clearing link None k w = k w
clearing link (Some p) k w =
    asks_clear link p.file w (λ v. clears_all link (drop p.next p.files) v k)

-- of a request
unfoldable pub wanting : LinkId → Option Wanting → (World → Turn) → World → Turn
wanting link None k w = k w
wanting link (Some (wanting_is.Start asked)) k w = starting link (Some asked) k w
wanting link (Some (wanting_is.Clear p)) k w = clearing link (Some p) k w

-- of the requests of a call
unfoldable pub acting : LinkId → Option Acting → (World → Turn) → World → Turn
acting link None k w = k w
acting link (Some p) k w = wanting link (Some p.wanting) (λ v. does_all p.left link v k) w

-- the same of a call whose wait is looked at after them
unfoldable pub acting_of : LinkId → Option Acting → (World → Turn) → World → Turn
acting_of link None k w = k w
acting_of link (Some p) k w = acting link (Some p) (λ v. k (checks_wait link v)) w

-- of a read
unfoldable pub reading : LinkId → Option LogRead → (World → Turn) → World → Turn
reading link None k w = k w
reading link (Some p) k w = asks_read link p w k

-- of a call
unfoldable pub calling : LinkId → Option Calling → (World → Turn) → World → Turn
calling link None k w = k w
calling link (Some (calling_is.Act p)) k w = acting_of link (Some p) k w
calling link (Some (calling_is.Read p)) k w = reading link (Some p) k w

-- of several calls in one
unfoldable pub going : LinkId → Option Going → (World → Turn) → World → Turn
going link None k w = k w
going link (Some p) k w = calling link (Some p.calling) (λ v. calls_all p.left link v k) w

-- the same, which are answered after them
unfoldable pub going_of : LinkId → Option Going → (World → Turn) → World → Turn
going_of link None k w = k w
going_of link (Some p) k w = going link (Some p) (λ v. k (ends_call link v)) w

-- of the requests of a link
unfoldable pub asking : LinkId → Option Asking → (World → Turn) → World → Turn
asking link None k w = k w
asking link (Some p) k w = going_of link (Some p.going) (λ v. serves_asks p.left link v k) w

-- the same of a link, which gets More after them
unfoldable pub asking_of : LinkId → Option Asking → (World → Turn) → World → Turn
asking_of link None k w = k w
asking_of link (Some p) k w = asking link (Some p) (λ v. k (gives_more link v)) w

-- of the links
unfoldable pub serving : Option Serving → (World → Turn) → World → Turn
serving None k w = k w
serving (Some p) k w =
    asking_of p.link (Some p.asking) (λ v. serves_all (drop p.next p.links.items) v k) w

-- ---- the question that stands

abbrev pub question_wanted : Wanting → Question
question_wanted (wanting_is.Start asked) = question.Spawn
question_wanted (wanting_is.Clear p) = question.Clear

abbrev pub question_called : Calling → Question
question_called (calling_is.Act p) = question_wanted p.wanting
question_called (calling_is.Read p) = question.Read p.span.length

-- ---- how it goes on with the answer

-- a request
abbrev pub wanting_answered : LinkId → Wanting → Reply → World → (World → Turn) → Turn
wanting_answered link (wanting_is.Start asked) reply w k =
    k (start_answered link asked.child asked.run reply w)
wanting_answered link (wanting_is.Clear p) reply w k =
    clears_all link (drop p.next p.files) (clear_answered link p.file reply w) k

-- the requests of a call, with the others
abbrev pub acting_answered : LinkId → Acting → Reply → World → (World → Turn) → Turn
acting_answered link p reply w k =
    wanting_answered link p.wanting reply w (λ v. acts_left p.left link v k)

-- a call
abbrev pub calling_answered : LinkId → Calling → Reply → World → (World → Turn) → Turn
calling_answered link (calling_is.Act p) reply w k = acting_answered link p reply w k
calling_answered link (calling_is.Read p) reply w k = k (read_answered link p reply w)

-- several calls in one, with their other parts
abbrev pub going_answered : LinkId → Going → Reply → World → (World → Turn) → Turn
going_answered link p reply w k =
    calling_answered link p.calling reply w (λ v. calls_left p.left link v k)

-- a link, with the others of its requests
abbrev pub asking_answered : LinkId → Asking → Reply → World → (World → Turn) → Turn
asking_answered link p reply w k =
    going_answered link p.going reply w (λ v. serves_left p.left link v k)

-- the links, with the other links
abbrev pub serving_answered : Serving → Reply → World → (World → Turn) → Turn
serving_answered p reply w k =
    asking_answered p.link p.asking reply w (λ v. serves_all (drop p.next p.links.items) v k)
