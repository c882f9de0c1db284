-- What the machine keeps, and which state of the model it stands for.
use Rattle.std.specs.Prelude.{◌≡◌, ◌≤◌, ℕ, List, [], ◌++◌, Option, Some, None, Bool, true, false}
use Rattle.std.specs.Prelude.{not, ◌&&◌, if◌then◌else◌, nat_lt, length, drop, map, slice_get, ◌-◌}
use Rattle.std.specs.Prelude.{◌+◌, ◌^◌, ◌%◌}
use Rattle.std.specs.List.{list_all}
use Rattle.sv_calls.specs.CallBook.{CallBook}
use Rattle.sv_calls.specs.StandsFor as kept_calls
use Rattle.sv_children.specs.declared.news.News.{News}
use Rattle.sv_core.specs.Failure.{behind, can_fail, failure_of, failures_told}
use Rattle.sv_core.specs.MachineState.{LinkTests, Model, hand, is_accepted, may_begin}
use Rattle.sv_core.specs.Parts.{part_of}
use Rattle.sv_core.specs.Left.{question_called, serving}
use Rattle.sv_core.specs.Sweeps.{Turn, asks, sweeps}
use Rattle.sv_core.specs.Sweeps.Turn.{Done}
use Rattle.sv_core.specs.Turn.{turn, come, came, world_of, after_links, after_pass, after_stimulus}
use Rattle.sv_core.specs.World.{World}
use Rattle.sv_core.specs.declared.failure.Failure.{Failure}
use Rattle.sv_core.specs.declared.machine.Machine.{Machine}
use Rattle.sv_core.specs.declared.numbers.Numbers.{Numbers}
use Rattle.sv_core.specs.declared.part.Followed.TheVariants as followed
use Rattle.sv_core.specs.declared.part.Part.{Part}
use Rattle.sv_core.specs.declared.part.Part.TheVariants.{Begins, Answers, Fails}
use Rattle.sv_core.specs.declared.part.Question.{Question}
use Rattle.sv_core.specs.declared.part.Question.TheVariants as question
use Rattle.sv_core.specs.declared.part.Cause.{Cause}
use Rattle.sv_core.specs.declared.part.Cause.TheVariants as cause_is
use Rattle.sv_core.specs.declared.place.Asked.{Asked}
use Rattle.sv_core.specs.declared.place.Paused.{Paused}
use Rattle.sv_core.specs.declared.place.Suspended.{Suspended}
use Rattle.sv_core.specs.declared.place.Suspended.TheVariants.{Stimulus, Pass, Links as InLinks}
use Rattle.sv_core.specs.declared.place.Pause.{Pause}
use Rattle.sv_links.specs.LinkBook.{LinkRecord}
use Rattle.sv_links.specs.StandsFor as kept_links
use Rattle.sv_links.specs.StandsFor.{follows, has_opened, may_bring}
use Rattle.sv_links.specs.declared.links.Links.{Links}
use Rattle.sv_out.specs.declared.input.Input.{Input}
use Rattle.sv_out.specs.declared.order.Order.{Order}
use Rattle.sv_pool.specs.EventPools.{EventPools}
use Rattle.sv_pool.specs.StandsFor as kept_pools
use Rattle.sv_runs.specs.RunBook.{RunBook}
use Rattle.sv_runs.specs.StandsFor as kept_runs
use Rattle.sv_runs.specs.Streams.StandsFor as kept_streams
use Rattle.sv_runs.specs.Streams.StreamBook.{StreamRecord}

-- the world that the machine's fields show, after these older orders and with these pools, runs,
-- output, links and calls
abbrev pub shown : Machine → List Order → EventPools → RunBook → List StreamRecord → List LinkRecord
    → CallBook → World
shown x older pools runs streams links calls = record {
  config = x.config;
  pid = x.pid;
  children = x.children;
  course = x.course;
  next_run = x.numbers.next_run;
  moment = x.hand.moment;
  clock = x.clock;
  sizes = x.sizes;
  pools = pools;
  runs = runs;
  streams = streams;
  links = links;
  calls = calls;
  given = older ++ x.hand.given.items;
}

-- the machine shows this world, after these older orders: of its pools it keeps the events that
-- wait or are held, of its runs those that aren't over, of what these wrote what isn't decided, of
-- its links those that are open or have a request in hand, and the calls in hand
pub record Shows (x : Machine) (older : List Order) (w : World) : Type 0 where
  pub pools : EventPools
  pub runs : RunBook
  pub streams : List StreamRecord
  pub links : List LinkRecord
  pub calls : CallBook
  pub is : w ≡ shown x older pools runs streams links calls
  pub pools_kept : kept_pools.StandsFor x.pools pools
  pub runs_kept : kept_runs.StandsFor x.runs runs
  pub streams_kept : kept_streams.StandsFor x.streams streams
  pub links_kept : kept_links.StandsFor x.links links
  pub calls_kept : kept_calls.StandsFor x.calls calls

-- a turn goes on from a world that the machine shows
pub record At (x : Machine) (older : List Order) (t : Turn) (f : World → Turn) : Type 0 where
  pub world : World
  pub shows : Shows x older world
  pub is : t ≡ f world

-- a step that stopped at a question, or went on
unfoldable pub stopped : Option Asked → (World → Turn) → World → Turn
stopped None k w = k w
stopped (Some asked) k w = asks asked.child asked.run w k

-- what is left of a sweep up to before this place, that stopped at a question, or that is done
unfoldable pub swept : News → ℕ → Option Pause → (World → Turn) → World → Turn
swept news to None k w = k w
swept news to (Some stop) k w =
    asks stop.asked.child stop.asked.run w (λ v. sweeps news (to - stop.next) stop.next v k)

-- the same of a sweep that was kept
unfoldable pub paused : Option Paused → (World → Turn) → World → Turn
paused None k w = k w
paused (Some p) k w = swept p.news p.to (Some p.stop) k w

-- what is left of the turn
unfoldable pub rest : Option Suspended → World → Turn
rest None w = Done w
rest (Some (Stimulus p)) w = paused (Some p) after_stimulus w
rest (Some (Pass p)) w = paused (Some p) after_pass w
rest (Some (InLinks p)) w = serving (Some p) after_links w

-- the question that stands
abbrev pub question_of : Option Suspended → Option Question
question_of None = None
question_of (Some (Stimulus p)) = Some question.Spawn
question_of (Some (Pass p)) = Some question.Spawn
question_of (Some (InLinks p)) = Some (question_called p.asking.going.calling)

-- the number is above the last one that failed
abbrev pub is_above : Option ℕ → ℕ → Bool
is_above None number = true
is_above (Some last) number = nat_lt last number

-- what is kept of the orders that can still be named
pub record Names (x : Numbers) (since : ℕ) (named : List ℕ) (older : List Order) : Type 0 where
  pub within : since ≤ length older
  pub first : x.first ≡ since % 2 ^ 64
  pub failures : x.failures.items ≡ map failure_of (drop since older)
  pub above : (number : ℕ) → list_all (λ n. nat_lt n number) named ≡ is_above x.last number

-- memory was refused in a step
abbrev pub is_broken : Machine → Bool
is_broken x = x.broken

-- the question that stands; for a broken machine none does
abbrev pub asked_by : Machine → Option Question
asked_by x = if x.broken then None else question_of x.hand.place

-- the halt was given; a broken machine has given none
abbrev pub has_halted : Machine → Bool
has_halted x = not x.broken && x.course.halted

-- a machine that isn't broken stands for a state where its half-done turn is the turn in hand
pub record StandsFor (x : Machine) (m : Model) : Type 0 where
  pub whole : x.broken ≡ false
  pub idle : x.hand.given.items ≡ []
  pub older : List Order
  pub hand_at : At x older (hand m) (rest x.hand.place)
  pub names : Names x.numbers m.since m.named older

-- what the machine knows of the order of this number
abbrev pub failure_kept : Numbers → ℕ → Option Failure
failure_kept x number = slice_get x.failures.items (behind x.first number)

-- what becomes of the turn in hand
abbrev pub turn_after : Numbers → Part → Turn → Turn
turn_after x (Begins at cause) t = turn cause at (world_of t)
turn_after x (Answers reply) t = come t (followed.Answered reply)
turn_after x (Fails number) t = came t (failures_told (failure_kept x number))

-- what is kept of earlier orders once an input is heard: nothing, but after a failed order
abbrev pub first_after : Part → Numbers → ℕ
first_after (Fails number) x = x.first
first_after part x = (x.first + length x.failures.items) % 2 ^ 64

-- what their failures would mean
abbrev pub failures_after : Part → Numbers → List Failure
failures_after (Fails number) x = x.failures.items
failures_after part x = []

-- the last that failed
abbrev pub last_after : Part → Option ℕ
last_after (Fails number) = Some number
last_after part = None

-- what a machine keeps of its orders after an input that gave these
pub record Notes (x y : Numbers) (part : Part) (given : List Order) : Type 0 where
  pub first : y.first ≡ first_after part x
  pub failures : y.failures.items ≡ failures_after part x ++ map failure_of given
  pub last : y.last ≡ last_after part

-- the turn in hand goes on from one machine to the next
abbrev pub GoesOnWith : Machine → Part → Machine → Type 0
GoesOnWith x part y = (older : List Order) (w : World) → Shows x older w
    → At y older (turn_after x.numbers part (rest x.hand.place w)) (rest y.hand.place)

-- what a machine does with an input, and which orders that gives
pub record Takes (x : Machine) (input : Input) (given : List Order) (y : Machine) : Type 0 where
  pub whole : y.broken ≡ x.broken
  pub idle : y.hand.given.items ≡ []
  pub notes : Notes x.numbers y.numbers (part_of input) given
  pub turn : (older : List Order) (w : World) → x.hand.given.items ≡ [] → Shows x older w
      → At y (older ++ given) (turn_after x.numbers (part_of input) (rest x.hand.place w))
      (rest y.hand.place)

-- the order of this number can be named now
abbrev pub can_name : Numbers → ℕ → Bool
can_name x number = can_fail (failure_kept x number) && is_above x.last number

-- what is kept of the links tells of the number of one
abbrev pub tests_by : Links → LinkTests
tests_by links = record {
  next = follows links;
  opened = has_opened links;
  brings = may_bring links;
}

-- a link that is opened has the next number
abbrev pub is_sound : Links → Cause → Bool
is_sound links (cause_is.Opened link side) = follows links link
is_sound links cause = true

-- the same of what an input is
abbrev pub is_sound_part : Links → Part → Bool
is_sound_part links (Begins at cause) = is_sound links cause
is_sound_part links part = true

-- a turn may begin so
abbrev pub may_begin_by : Machine → Cause → Bool
may_begin_by x cause = may_begin cause x.numbers.next_run (tests_by x.links) x.config.servers

-- the machine accepts the input
abbrev pub is_fitting : Machine → Input → Bool
is_fitting x input =
    not x.broken
    && (not x.course.halted
    && is_accepted (part_of input) (question_of x.hand.place) (may_begin_by x) (can_name x.numbers))
