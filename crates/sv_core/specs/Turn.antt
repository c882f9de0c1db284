-- One turn of the machine, in its named steps. A step works on the world and hands it to what comes
-- next; a question stops the turn until its answer comes.
use Rattle.std.specs.Prelude.{ℕ, List, [], ◌∷◌, Bool, Option, Some, None, is_some, if◌then◌else◌}
use Rattle.sv_child.specs.Moves.{is_running}
use Rattle.sv_children.specs.Rewound.{crew_rewound}
use Rattle.sv_children.specs.Spans.{span_meant}
use Rattle.sv_children.specs.declared.news.News.TheVariants as news_is
use Rattle.sv_core.specs.Events.{announces, ticks}
use Rattle.sv_core.specs.Failure.{failed, refusal}
use Rattle.sv_core.specs.HandingOut.{hands_out}
use Rattle.sv_core.specs.Listening.{exits}
use Rattle.sv_core.specs.Output.{ends_pipe, hears_on}
use Rattle.sv_core.specs.Openings.{opens}
use Rattle.sv_core.specs.Serving.{serves_links}
use Rattle.sv_core.specs.Shutdown.{heeds, follows_plan, halts}
use Rattle.sv_core.specs.Stops.{stops_all}
use Rattle.sv_core.specs.Sweeps.{Turn, sweeps_all, sweeps_over}
use Rattle.sv_core.specs.Sweeps.Turn.{Done, Ask}
use Rattle.sv_core.specs.World.{World}
use Rattle.sv_core.specs.declared.failure.Failure.{Failure}
use Rattle.sv_core.specs.declared.failure.Failure.TheVariants.{NeverFails, ChangesNothing}
use Rattle.sv_core.specs.declared.failure.Failure.TheVariants.{LosesStdin, LosesLink}
use Rattle.sv_core.specs.declared.failure.Failure.TheVariants.{RefusesQuestion}
use Rattle.sv_core.specs.declared.part.Cause.{Cause}
use Rattle.sv_core.specs.declared.part.Cause.TheVariants as cause_is
use Rattle.sv_core.specs.declared.part.Followed.{Followed}
use Rattle.sv_core.specs.declared.part.Followed.TheVariants as followed
use Rattle.sv_core.specs.declared.part.Question.{Question}
use Rattle.sv_core.specs.declared.part.Reply.{Reply}
use Rattle.sv_links.specs.LinkBook.{ended, fed}
use Rattle.sv_links.specs.LinkBook.Ending.{Ended}

-- step 1, the turn's moment has come: all children are rewound to it
abbrev pub rewinds : ℕ → World → World
rewinds at w = record w { children = crew_rewound at w.children; moment = at }

-- step 2, the stimulus: what began the turn is applied. While the daemon ends, the console starts
-- nothing.
abbrev pub applies : Cause → World → (World → Turn) → Turn
applies cause_is.Tick w k = k w
applies (cause_is.Exit run how) w k = k (exits run how w)
applies (cause_is.Heard run stream bytes) w k = k (hears_on stream run bytes w)
applies (cause_is.PipeEnd run stream) w k = k (ends_pipe run stream w)
applies (cause_is.Opened link side) w k = k (opens link side w)
applies (cause_is.Brought link bytes) w k = k (record w { links = fed link bytes w.links })
applies (cause_is.LinkEnd link) w k = k (record w { links = ended link Ended w.links })
applies (cause_is.Start name) w k =
    if is_running w.course.mood
    then sweeps_over news_is.Start (span_meant name w.children.roster) w k else k w
applies (cause_is.Stop name) w k = k (stops_all (span_meant name w.children.roster) w)
applies (cause_is.Signal signal) w k = k (heeds signal w)

-- step 4, one pass over all children, for which time goes on
abbrev pub passes : World → (World → Turn) → Turn
passes w k = sweeps_all news_is.Time w k

-- steps 6 to 8, after the links: the stop plan, the pools, and the halt
abbrev pub after_links : World → Turn
after_links w = Done (halts (hands_out (follows_plan w)))

-- steps 5 to 8, after the pass: the links first
abbrev pub after_pass : World → Turn
after_pass w = serves_links w after_links

-- steps 3 to 8, after the stimulus: the ticks, and the pass
abbrev pub after_stimulus : World → Turn
after_stimulus w = passes (ticks w) after_pass

-- the whole turn
abbrev pub turn : Cause → ℕ → World → Turn
turn cause at w = applies cause (rewinds at (announces w)) after_stimulus

-- an order failed at a question: it is the question itself, or one that was given before
abbrev pub failed_at : Failure → World → Question → (World → Reply → Turn) → Turn
failed_at RefusesQuestion w q k = k w (refusal q)
failed_at ChangesNothing w q k = Ask (failed ChangesNothing w) q k
failed_at (LosesStdin run) w q k = Ask (failed (LosesStdin run) w) q k
failed_at (LosesLink link) w q k = Ask (failed (LosesLink link) w) q k
failed_at NeverFails w q k = Ask (failed NeverFails w) q k

-- what followed comes to a turn: an answer goes on with it, a failed order changes the world
abbrev pub come : Turn → Followed → Turn
come (Done w) (followed.Answered reply) = Done w
come (Done w) (followed.Failed failure) = Done (failed failure w)
come (Ask w q k) (followed.Answered reply) = k w reply
come (Ask w q k) (followed.Failed failure) = failed_at failure w q k

-- and so all that followed
abbrev pub came : Turn → List Followed → Turn
came t [] = t
came t (f ∷ fs) = came (come t f) fs

-- the world in which a turn stands
abbrev pub world_of : Turn → World
world_of (Done w) = w
world_of (Ask w q k) = w

-- the question at which it stopped
abbrev pub asked_of : Turn → Option Question
asked_of (Done w) = None
asked_of (Ask w q k) = Some q

-- the turn stopped at a question
abbrev pub is_asking : Turn → Bool
is_asking t = is_some (asked_of t)
