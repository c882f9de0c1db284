-- The machine and the state that it stands for go on together.
use Rattle.std.proofs.Common.{◌≡◌, ℕ, List, [], ◌∷◌, ◌++◌, Option, Some, None, Bool, true, false, ◌&&◌, length, refl, subst, sym, ap, ◌∙◌, append-nil, ◌-◌}
use Rattle.std.specs.Prelude.{is_none, is_some, nat_lt, not}
use Rattle.std.specs.List.{list_all}
use Rattle.std.proofs.Math.Seq.{drop-append_seam}
use Rattle.sv_core.proofs.LinkTests.{may_same}
use Rattle.sv_core.proofs.Left.{serving_asks}
use Rattle.sv_core.proofs.Named.{names_fresh, names_failed}
use Rattle.sv_core.proofs.Shown.{at_same}
use Rattle.sv_core.specs.Events.{announces}
use Rattle.sv_base.specs.declared.ids.LinkId.{LinkId}
use Rattle.sv_calls.specs.StandsFor as kept_calls
use Rattle.sv_calls.specs.declared.calls.Calls.{Calls}
use Rattle.sv_base.specs.declared.ids.Run.{Run}
use Rattle.sv_core.specs.Failure.{can_fail, failures_told, refusal, refusal_of}
use Rattle.sv_core.specs.Listening.{loses_stdin}
use Rattle.sv_core.specs.MachineState.{Model, can_be_named, failure_named, hand, is_accepted, may_begin_in, now, accepts, next, next_part, orders, turn_of}
use Rattle.sv_core.specs.Parts.{part_of}
use Rattle.sv_core.specs.StandsFor.{At, Shows, StandsFor, Takes, Names, Notes, asked_by, can_name, failure_kept, has_halted, is_above, is_fitting, is_sound, is_sound_part, may_begin_by, paused, question_of, rest, swept, shown, turn_after}
use Rattle.sv_core.specs.Left.{question_called, serving, serving_answered}
use Rattle.sv_core.specs.Sweeps.{Turn, asks, sweeps}
use Rattle.sv_core.specs.Sweeps.Turn.{Ask, Done}
use Rattle.sv_core.specs.Turn.{applies, asked_of, come, came, after_links, after_pass, after_stimulus, turn, rewinds, world_of, is_asking}
use Rattle.sv_core.specs.Moves.{answered}
use Rattle.sv_core.specs.World.{World}
use Rattle.sv_core.specs.declared.failure.Failure.TheVariants.{NeverFails, ChangesNothing, LosesStdin, LosesLink, RefusesQuestion}
use Rattle.sv_core.specs.declared.machine.Machine.{Machine}
use Rattle.sv_core.specs.declared.numbers.Numbers.{Numbers}
use Rattle.sv_core.specs.declared.part.Cause.{Cause}
use Rattle.sv_core.specs.declared.part.Cause.TheVariants as cause_is
use Rattle.sv_core.specs.declared.part.Part.{Part}
use Rattle.sv_core.specs.declared.part.Part.TheVariants.{Begins, Answers, Fails}
use Rattle.sv_core.specs.declared.part.Followed.{Followed}
use Rattle.sv_core.specs.declared.part.Followed.TheVariants as followed
use Rattle.sv_core.specs.declared.part.Question.{Question}
use Rattle.sv_core.specs.declared.part.Reply.{Reply}
use Rattle.sv_core.specs.declared.place.Paused.{Paused}
use Rattle.sv_core.specs.declared.place.Suspended.{Suspended}
use Rattle.sv_core.specs.declared.place.Serving.{Serving}
use Rattle.sv_core.specs.declared.place.Suspended.TheVariants.{Stimulus, Pass, Links as InLinks}
use Rattle.sv_links.specs.LinkBook.{ended}
use Rattle.sv_links.specs.LinkBook.Ending.{Failed as Lost}
use Rattle.sv_links.specs.StandsFor as kept_links
use Rattle.sv_links.specs.StandsFor.{follows}
use Rattle.sv_links.specs.declared.links.Links.{Links}
use Rattle.sv_out.specs.declared.input.Input.{Input}
use Rattle.sv_out.specs.declared.order.Order.{Order}
use Rattle.sv_pool.specs.StandsFor as kept_pools
use Rattle.sv_pool.specs.declared.pools.Pools.{Pools}
use Rattle.sv_runs.specs.StandsFor as kept_runs
use Rattle.sv_runs.specs.declared.runs.Runs.{Runs}
use Rattle.sv_runs.specs.Streams.StandsFor as kept_streams
use Rattle.sv_runs.specs.declared.streams.streams.Streams.{Streams}

-- where step 5 stopped, its question stands
links_ask : (p : Serving) (w : World)
    → rest (Some (InLinks p)) w ≡ Ask w (question_called p.asking.going.calling) (λ v reply. serving_answered p reply v after_links)
unfolding rest
links_ask p w = serving_asks p after_links w

pub world_of_rest : (place : Option Suspended) (w : World) → world_of (rest place w) ≡ w
unfolding rest paused swept asks
world_of_rest None w = refl
world_of_rest (Some (Stimulus p)) w = refl
world_of_rest (Some (Pass p)) w = refl
world_of_rest (Some (InLinks p)) w = ap world_of (links_ask p w)

pub asked_of_rest : (place : Option Suspended) (w : World) → asked_of (rest place w) ≡ question_of place
unfolding rest paused swept asks
asked_of_rest None w = refl
asked_of_rest (Some (Stimulus p)) w = refl
asked_of_rest (Some (Pass p)) w = refl
asked_of_rest (Some (InLinks p)) w = ap asked_of (links_ask p w)

pub came_more : (t : Turn) (fs more : List Followed) → came t (fs ++ more) ≡ came (came t fs) more
came_more t [] more = refl
came_more t (f ∷ fs) more = came_more (come t f) fs more

-- the turn in hand after an input is what becomes of the turn in hand
pub hand_after_part : (x : Numbers) (m : Model) (part : Part) → ((number : ℕ) → failure_kept x number ≡ failure_named m number)
    → hand (next_part m part) ≡ turn_after x part (hand m)
hand_after_part x m (Begins at cause) same = refl
hand_after_part x m (Answers reply) same = came_more (turn_of m.begun m.base) m.followed (followed.Answered reply ∷ [])
hand_after_part x m (Fails number) same =
    came_more (turn_of m.begun m.base) m.followed (failures_told (failure_named m number))
    ∙ ap (λ found. came (hand m) (failures_told found)) (sym (same number))

-- the world of the state is one that the machine shows
now_at : (x : Machine) (m : Model) (s : StandsFor x m) → now m ≡ s.hand_at.world
now_at x m s = ap world_of s.hand_at.is ∙ world_of_rest x.hand.place s.hand_at.world

now_is : (x : Machine) (m : Model) (s : StandsFor x m) → now m ≡ shown x s.older s.hand_at.shows.pools s.hand_at.shows.runs s.hand_at.shows.streams s.hand_at.shows.links s.hand_at.shows.calls
now_is x m s = now_at x m s ∙ s.hand_at.shows.is

pub given_is : (x : Machine) (m : Model) (s : StandsFor x m) → (now m).given ≡ s.older
given_is x m s = ap (λ (w : World). w.given) (now_is x m s) ∙ rw s.idle (append-nil s.older)

pub failure_is : (x : Machine) (m : Model) (s : StandsFor x m) (number : ℕ) → failure_kept x.numbers number ≡ failure_named m number
failure_is x m s number = rw (given_is x m s, s.names.failures, s.names.first) refl

hand_next : (x y : Machine) (m : Model) (input : Input) (given : List Order) (s : StandsFor x m) → Takes x input given y
    → At y (s.older ++ given) (hand (next m input)) (rest y.hand.place)
hand_next x y m input given s takes =
    at_same y (s.older ++ given) (hand (next m input)) _ (rest y.hand.place)
    (hand_after_part x.numbers m (part_of input) (failure_is x m s) ∙ ap (turn_after x.numbers (part_of input)) s.hand_at.is)
    (takes.turn s.older s.hand_at.world s.idle s.hand_at.shows)

-- a number that can be named is above those that were
named_above : (x : Machine) (m : Model) (number : ℕ) → StandsFor x m → can_be_named m number ≡ true → is_above x.numbers.last number ≡ true
named_above x m number s can = sym (s.names.above number) ∙ both_true (can_fail (failure_named m number)) (list_all (λ n. nat_lt n number) m.named) can where
  both_true : (a b : Bool) → (a && b) ≡ true → b ≡ true
  both_true true b is = is
  both_true false b is = cc

names_next : (x y : Machine) (m : Model) (part : Part) (given : List Order) (s : StandsFor x m)
    → is_accepted part (asked_of (hand m)) (may_begin_in (now m)) (can_be_named m) ≡ true
    → Notes x.numbers y.numbers part given
    → Names y.numbers (next_part m part).since (next_part m part).named (s.older ++ given)
names_next x y m (Begins at cause) given s accepted notes = names_fresh x.numbers y.numbers m.since m.named (length (now m).given) s.older given s.names (ap length (given_is x m s)) notes.first notes.failures notes.last
names_next x y m (Answers reply) given s accepted notes = names_fresh x.numbers y.numbers m.since m.named (length (now m).given) s.older given s.names (ap length (given_is x m s)) notes.first notes.failures notes.last
names_next x y m (Fails number) given s accepted notes =
    names_failed x.numbers y.numbers m.since m.named number s.older given s.names (named_above x m number s accepted) notes.first notes.failures notes.last

behind_not : (a b : Bool) → (a && b) ≡ true → b ≡ true
behind_not true b is = is
behind_not false b is = cc

pub step_stands : (x y : Machine) (m : Model) (input : Input) (given : List Order) → StandsFor x m → accepts m input ≡ true → Takes x input given y
    → StandsFor y (next m input)
step_stands x y m input given s accepted takes = record {
  whole = takes.whole ∙ s.whole;
  idle = takes.idle;
  older = s.older ++ given;
  hand_at = hand_next x y m input given s takes;
  names = names_next x y m (part_of input) given s (behind_not _ _ accepted) takes.notes;
}

pub step_orders : (x y : Machine) (m : Model) (input : Input) (given : List Order) → StandsFor x m → Takes x input given y
    → given ≡ orders m input
step_orders x y m input given s takes =
    let at = hand_next x y m input given s takes in
    let behind : (now (next m input)).given ≡ s.older ++ given =
    ap (λ (w : World). w.given) (ap world_of at.is ∙ world_of_rest y.hand.place at.world ∙ at.shows.is)
    ∙ rw takes.idle (append-nil (s.older ++ given)) in
    rw (given_is x m s, behind) (sym (drop-append_seam s.older given))

-- what is accepted of a part depends on the numbers that can be named only one by one
accepted_same : (part : Part) (asking : Option Question) (may may' : Cause → Bool) (f g : ℕ → Bool)
    → ((cause : Cause) → may cause ≡ may' cause) → ((number : ℕ) → f number ≡ g number)
    → is_accepted part asking may f ≡ is_accepted part asking may' g
accepted_same (Begins at cause) asking may may' f g begins same = ap (λ b. is_none asking && b) (begins cause)
accepted_same (Answers reply) asking may may' f g begins same = refl
accepted_same (Fails number) asking may may' f g begins same = same number

may_begin_is : (x : Machine) (m : Model) (cause : Cause) → StandsFor x m → may_begin_by x cause ≡ may_begin_in (now m) cause
may_begin_is x m cause s =
    may_same cause x.numbers.next_run x.config.servers x.links s.hand_at.shows.links s.hand_at.shows.links_kept
    ∙ ap (λ (w : World). may_begin_in w cause) (sym (now_is x m s))

can_name_is : (x : Machine) (m : Model) (number : ℕ) → StandsFor x m → can_name x.numbers number ≡ can_be_named m number
can_name_is x m number s = rw (failure_is x m s number, s.names.above number) refl

pub accepts_is : (x : Machine) (m : Model) (input : Input) → StandsFor x m → is_fitting x input ≡ accepts m input
accepts_is x m input s =
    let asked : asked_of (hand m) ≡ question_of x.hand.place =
    ap asked_of s.hand_at.is ∙ asked_of_rest x.hand.place s.hand_at.world in
    let halted : (now m).course.halted ≡ x.course.halted = ap (λ (w : World). w.course.halted) (now_is x m s) in
    rw (s.whole, asked, halted)
    (ap (λ b. not x.course.halted && b)
    (accepted_same (part_of input) (question_of x.hand.place) (may_begin_by x) (may_begin_in (now m)) (can_name x.numbers) (can_be_named m)
    (λ cause. may_begin_is x m cause s) (λ number. can_name_is x m number s)))

first_true : (a b : Bool) → (a && b) ≡ true → a ≡ true
first_true true b is = refl
first_true false b is = cc

cause_sound : (x : Machine) (cause : Cause) → may_begin_by x cause ≡ true → is_sound x.links cause ≡ true
cause_sound x cause_is.Tick may = refl
cause_sound x (cause_is.Exit run how) may = refl
cause_sound x (cause_is.Heard run stream bytes) may = refl
cause_sound x (cause_is.PipeEnd run stream) may = refl
cause_sound x (cause_is.Opened link side) may = first_true (follows x.links link) _ may
cause_sound x (cause_is.Brought link bytes) may = refl
cause_sound x (cause_is.LinkEnd link) may = refl
cause_sound x (cause_is.Start name) may = refl
cause_sound x (cause_is.Stop name) may = refl
cause_sound x (cause_is.Signal signal) may = refl

part_sound : (x : Machine) (part : Part) (asking : Option Question) (named : ℕ → Bool)
    → is_accepted part asking (may_begin_by x) named ≡ true → is_sound_part x.links part ≡ true
part_sound x (Begins at cause) asking named accepted = cause_sound x cause (behind_not _ _ accepted)
part_sound x (Answers reply) asking named accepted = refl
part_sound x (Fails number) asking named accepted = refl

-- a link that an accepted input opens has the next number
pub fitting_sound : (x : Machine) (input : Input) → is_fitting x input ≡ true → is_sound_part x.links (part_of input) ≡ true
fitting_sound x input fits =
    part_sound x (part_of input) (question_of x.hand.place) (can_name x.numbers) (behind_not _ _ (behind_not _ _ fits))

-- what the machine accepts is accepted
pub fitting_accepted : (x : Machine) (m : Model) (input : Input) → StandsFor x m → is_fitting x input ≡ true → accepts m input ≡ true
fitting_accepted x m input s fits = sym (accepts_is x m input s) ∙ fits

pub awaits_is : (x : Machine) (m : Model) → StandsFor x m → is_some (asked_by x) ≡ is_asking (hand m)
awaits_is x m s =
    let asked : asked_of (hand m) ≡ question_of x.hand.place =
    ap asked_of s.hand_at.is ∙ asked_of_rest x.hand.place s.hand_at.world in
    rw (s.whole, asked) refl

pub halted_is : (x : Machine) (m : Model) → StandsFor x m → has_halted x ≡ (now m).course.halted
halted_is x m s = rw (s.whole, now_is x m s) refl

-- where a turn was left is no part of the world
pub left_there : (y : Machine) (older : List Order) (place : Option Suspended) (w : World) → Shows y older w
    → Shows (record y { hand = record y.hand { place = place } }) older w
left_there y older place w s = record { pools = s.pools; runs = s.runs; is = s.is; pools_kept = s.pools_kept; runs_kept = s.runs_kept; streams = s.streams; streams_kept = s.streams_kept; links = s.links; links_kept = s.links_kept; calls = s.calls; calls_kept = s.calls_kept }

-- a turn begins
pub turn_begun : (cause : Cause) (at : ℕ) (place : Option Suspended) (w : World)
    → turn cause at (world_of (rest place w)) ≡ applies cause (rewinds at (announces w)) after_stimulus
turn_begun cause at place w = ap (turn cause at) (world_of_rest place w)

-- a step that stopped at a question: the turn is left there
pub left_in_stimulus : (y : Machine) (older : List Order) (t : Turn) (found : Option Paused) (p : Paused) → found ≡ Some p
    → At y older t (paused found after_stimulus)
    → At (record y { hand = record y.hand { place = Some (Stimulus p) } }) older t (rest (Some (Stimulus p)))
unfolding rest
left_in_stimulus y older t found p is at = record {
  world = at.world;
  shows = left_there y older (Some (Stimulus p)) at.world at.shows;
  is = at.is ∙ ap (λ o. paused o after_stimulus at.world) is;
}

pub left_in_pass : (y : Machine) (older : List Order) (t : Turn) (found : Option Paused) (p : Paused) → found ≡ Some p
    → At y older t (paused found after_pass)
    → At (record y { hand = record y.hand { place = Some (Pass p) } }) older t (rest (Some (Pass p)))
unfolding rest
left_in_pass y older t found p is at = record {
  world = at.world;
  shows = left_there y older (Some (Pass p)) at.world at.shows;
  is = at.is ∙ ap (λ o. paused o after_pass at.world) is;
}

pub left_in_links : (y : Machine) (older : List Order) (t : Turn) (found : Option Serving) (p : Serving) → found ≡ Some p
    → At y older t (serving found after_links)
    → At (record y { hand = record y.hand { place = Some (InLinks p) } }) older t (rest (Some (InLinks p)))
unfolding rest
left_in_links y older t found p is at = record {
  world = at.world;
  shows = left_there y older (Some (InLinks p)) at.world at.shows;
  is = at.is ∙ ap (λ o. serving o after_links at.world) is;
}

-- a step that didn't stop: the turn goes on with the next one, from the world that is shown then
pub gone_on : (y z : Machine) (older : List Order) (t : Turn) (found : Option Paused) (next f : World → Turn) → found ≡ None
    → (at : At y older t (paused found next)) → At z older (next at.world) f → At z older t f
unfolding paused
gone_on y z older t found next f is at then = record {
  world = then.world;
  shows = then.shows;
  is = at.is ∙ ap (λ o. paused o next at.world) is ∙ then.is;
}

pub gone_on_links : (y z : Machine) (older : List Order) (t : Turn) (found : Option Serving) (next f : World → Turn) → found ≡ None
    → (at : At y older t (serving found next)) → At z older (next at.world) f → At z older t f
unfolding serving
gone_on_links y z older t found next f is at then = record {
  world = then.world;
  shows = then.shows;
  is = at.is ∙ ap (λ o. serving o next at.world) is ∙ then.is;
}

-- the turn is done
pub done_there : (y : Machine) (older : List Order) (w : World) → Shows y older w
    → At (record y { hand = record y.hand { place = None } }) older (Done w) (rest None)
unfolding rest
done_there y older w s = record { world = w; shows = left_there y older None w s; is = refl }

-- step 2 goes on with the answer of its question
pub stimulus_answered : (p : Paused) (reply : Reply) (w : World)
    → come (rest (Some (Stimulus p)) w) (followed.Answered reply)
    ≡ sweeps p.news (p.to - p.stop.next) p.stop.next (answered p.stop.asked.child p.stop.asked.run reply w) after_stimulus
unfolding rest paused swept asks
stimulus_answered p reply w = refl

-- and step 4
pub pass_answered : (p : Paused) (reply : Reply) (w : World)
    → come (rest (Some (Pass p)) w) (followed.Answered reply)
    ≡ sweeps p.news (p.to - p.stop.next) p.stop.next (answered p.stop.asked.child p.stop.asked.run reply w) after_pass
unfolding rest paused swept asks
pass_answered p reply w = refl

-- and step 5
pub links_answered : (p : Serving) (reply : Reply) (w : World)
    → come (rest (Some (InLinks p)) w) (followed.Answered reply)
    ≡ serving_answered p reply w after_links
links_answered p reply w = ap (λ t. come t (followed.Answered reply)) (links_ask p w)

-- no question stands: nothing comes of an answer
pub nothing_answered : (reply : Reply) (w : World) → come (rest None w) (followed.Answered reply) ≡ rest None w
unfolding rest
nothing_answered reply w = refl

pub nothing_answered_at : (x : Machine) (older : List Order) (reply : Reply) (w : World) → Shows x older w
    → At (record x { hand = record x.hand { place = None } }) older (come (rest None w) (followed.Answered reply)) (rest None)
nothing_answered_at x older reply w s =
    record { world = w; shows = left_there x older None w s; is = nothing_answered reply w }

-- a question that is refused is answered by its refusal
pub refused_is : (place : Option Suspended) (w : World)
    → come (rest place w) (followed.Failed RefusesQuestion) ≡ come (rest place w) (followed.Answered (refusal_of (question_of place)))
unfolding rest paused swept asks
refused_is None w = refl
refused_is (Some (Stimulus p)) w = refl
refused_is (Some (Pass p)) w = refl
refused_is (Some (InLinks p)) w =
    ap (λ t. come t (followed.Failed RefusesQuestion)) (links_ask p w)
    ∙ sym (ap (λ t. come t (followed.Answered (refusal (question_called p.asking.going.calling)))) (links_ask p w))

-- a failure that changes nothing
pub nothing_failed : (place : Option Suspended) (w : World) → come (rest place w) (followed.Failed ChangesNothing) ≡ rest place w
unfolding rest paused swept asks
nothing_failed None w = refl
nothing_failed (Some (Stimulus p)) w = refl
nothing_failed (Some (Pass p)) w = refl
nothing_failed (Some (InLinks p)) w = ap (λ t. come t (followed.Failed ChangesNothing)) (links_ask p w) ∙ sym (links_ask p w)

pub never_failed : (place : Option Suspended) (w : World) → come (rest place w) (followed.Failed NeverFails) ≡ rest place w
unfolding rest paused swept asks
never_failed None w = refl
never_failed (Some (Stimulus p)) w = refl
never_failed (Some (Pass p)) w = refl
never_failed (Some (InLinks p)) w = ap (λ t. come t (followed.Failed NeverFails)) (links_ask p w) ∙ sym (links_ask p w)

-- a write that failed
pub stdin_failed : (place : Option Suspended) (run : Run) (w : World)
    → come (rest place w) (followed.Failed (LosesStdin run)) ≡ rest place (loses_stdin run w)
unfolding rest paused swept asks
stdin_failed None run w = refl
stdin_failed (Some (Stimulus p)) run w = refl
stdin_failed (Some (Pass p)) run w = refl
stdin_failed (Some (InLinks p)) run w =
    ap (λ t. come t (followed.Failed (LosesStdin run))) (links_ask p w) ∙ sym (links_ask p (loses_stdin run w))

-- an order of a link that failed
pub link_failed : (place : Option Suspended) (link : LinkId) (w : World)
    → come (rest place w) (followed.Failed (LosesLink link)) ≡ rest place (record w { links = ended link Lost w.links })
unfolding rest paused swept asks
link_failed None link w = refl
link_failed (Some (Stimulus p)) link w = refl
link_failed (Some (Pass p)) link w = refl
link_failed (Some (InLinks p)) link w =
    ap (λ t. come t (followed.Failed (LosesLink link))) (links_ask p w)
    ∙ sym (links_ask p (record w { links = ended link Lost w.links }))

-- the orders of an input are handed over
pub taken_there : (x y : Machine) (older given : List Order) (w : World)
    → y ≡ record x { numbers = record x.numbers { failures = y.numbers.failures }; hand = record x.hand { given = y.hand.given } }
    → y.hand.given.items ≡ [] → given ≡ x.hand.given.items → Shows x older w → Shows y (older ++ given) w
taken_there x y older given w same none is s =
    let all : older ++ x.hand.given.items ≡ (older ++ given) ++ y.hand.given.items =
    ap (λ (orders : List Order). older ++ orders) (sym is) ∙ sym (append-nil (older ++ given))
    ∙ ap (λ (orders : List Order). (older ++ given) ++ orders) (sym none) in
    record {
      pools = s.pools;
      runs = s.runs;
      is = s.is ∙ ap (λ (orders : List Order). record (shown x older s.pools s.runs s.streams s.links s.calls) { given = orders }) all
          ∙ ap (λ (m : Machine). shown m (older ++ given) s.pools s.runs s.streams s.links s.calls) (sym same);
      pools_kept = subst (λ (pools : Pools). kept_pools.StandsFor pools s.pools) (sym (ap (λ (m : Machine). m.pools) same)) s.pools_kept;
      runs_kept = subst (λ (runs : Runs). kept_runs.StandsFor runs s.runs) (sym (ap (λ (m : Machine). m.runs) same)) s.runs_kept;
      streams = s.streams;
      streams_kept = subst (λ (streams : Streams). kept_streams.StandsFor streams s.streams) (sym (ap (λ (m : Machine). m.streams) same)) s.streams_kept;
      links = s.links;
      links_kept = subst (λ (links : Links). kept_links.StandsFor links s.links) (sym (ap (λ (m : Machine). m.links) same)) s.links_kept;
      calls = s.calls;
      calls_kept = subst (λ (calls : Calls). kept_calls.StandsFor calls s.calls) (sym (ap (λ (m : Machine). m.calls) same)) s.calls_kept;
    }
