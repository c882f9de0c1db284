-- The machine: its state, which inputs it accepts, and what comes next.
use Rattle.std.specs.Prelude.{ℕ, List, [], ◌∷◌, ◌++◌, Option, Some, None, Bool, true, false, ◌&&◌}
use Rattle.std.specs.Prelude.{not, nat_lt, is_none, is_some, length, drop, map, slice_get, ◌^◌, ◌%◌}
use Rattle.std.specs.List.{list_all}
use Rattle.sv_base.specs.declared.config.Config.{Config}
use Rattle.sv_base.specs.declared.config.Host.{Host}
use Rattle.sv_base.specs.declared.config.ServerSpec.{ServerSpec}
use Rattle.sv_base.specs.declared.ids.LinkId.{LinkId}
use Rattle.sv_base.specs.declared.ids.Run.{Run}
use Rattle.sv_base.specs.declared.state.Mood.TheVariants as mood_is
use Rattle.sv_calls.specs.CallBook.{no_calls}
use Rattle.sv_children.specs.Crew.{new_crew}
use Rattle.sv_core.specs.Failure.{behind, can_fail, failure_of, failures_told}
use Rattle.sv_core.specs.Parts.{fits, part_of}
use Rattle.sv_core.specs.Openings.{server_of}
use Rattle.sv_core.specs.Sweeps.{Turn}
use Rattle.sv_core.specs.Sweeps.Turn.{Done}
use Rattle.sv_core.specs.Turn.{turn, came, world_of, asked_of}
use Rattle.sv_core.specs.World.{World}
use Rattle.sv_core.specs.declared.failure.Failure.{Failure}
use Rattle.sv_core.specs.declared.part.Cause.{Cause}
use Rattle.sv_core.specs.declared.part.Cause.TheVariants as cause_is
use Rattle.sv_core.specs.declared.part.Followed.{Followed}
use Rattle.sv_core.specs.declared.part.Followed.TheVariants as followed
use Rattle.sv_core.specs.declared.part.Part.{Part}
use Rattle.sv_core.specs.declared.part.Part.TheVariants.{Begins, Answers, Fails}
use Rattle.sv_core.specs.declared.part.Question.{Question}
use Rattle.sv_logs.specs.Opening.{opening_sizes}
use Rattle.sv_groups.specs.StartOrder.{processes}
use Rattle.sv_links.specs.LinkBook.{LinkRecord, is_issued, is_next, takes_piece}
use Rattle.sv_out.specs.declared.input.Input.{Input}
use Rattle.sv_out.specs.declared.order.Order.{Order}
use Rattle.sv_pool.specs.EventPools as all_pools
use Rattle.sv_runs.specs.RunBook as all_runs

-- what begins a turn: its moment and its cause
pub record Begin : Type 0 where
  pub at : ℕ
  pub cause : Cause

-- the state: the world when the turn in hand began, what began it, and what followed since: answers
-- and failed orders; how many orders had been given before the last input that wasn't a failed
-- order; and the numbers of the orders that failed since
pub record Model : Type 0 where
  pub base : World
  pub begun : Option Begin
  pub followed : List Followed
  pub since : ℕ
  pub named : List ℕ

-- the turn that was begun, if one was
abbrev pub turn_of : Option Begin → World → Turn
turn_of None w = Done w
turn_of (Some begin) w = turn begin.cause begin.at w

-- the turn in hand, worked out again from its beginning
abbrev pub hand : Model → Turn
hand m = came (turn_of m.begun m.base) m.followed

-- the world as it is now
abbrev pub now : Model → World
now m = world_of (hand m)

-- a state in which no turn has begun
abbrev pub resting : World → Model
resting w = record { base = w; begun = None; followed = []; since = length w.given; named = [] }

-- the state in which the daemon begins
abbrev pub opening : Config → List (List ℕ × ℕ) → Host → Model
opening config sizes host = resting (record {
  config = config;
  pid = host.pid;
  children = new_crew config.groups;
  course = record {
    mood = mood_is.Running;
    announced = false;
    left = length config.groups;
    is_told = false;
    halted = false;
  };
  next_run = 1;
  moment = host.start;
  clock = host.start;
  sizes = opening_sizes config sizes;
  pools = all_pools.opening config.groups;
  runs = all_runs.opening (length (processes config.groups));
  streams = [];
  links = [];
  calls = no_calls;
  given = [];
})

-- the failure of the order of this number, where it was given since the last input that wasn't a
-- failed order
abbrev pub failure_named : Model → ℕ → Option Failure
failure_named m number =
    slice_get (map failure_of (drop m.since (now m).given)) (behind (m.since % 2 ^ 64) number)

-- the order of this number can be named now: it is one of those, it can fail, and its number is
-- above each that failed
abbrev pub can_be_named : Model → ℕ → Bool
can_be_named m number = can_fail (failure_named m number) && list_all (λ n. nat_lt n number) m.named

-- what is asked of the number of a link: whether it is the next, whether a link of it was opened,
-- and whether a piece of that may come
pub record LinkTests : Type 0 where
  pub next : LinkId → Bool
  pub opened : LinkId → Bool
  pub brings : LinkId → Bool

-- the same of a book of links
abbrev pub tests_of : List LinkRecord → LinkTests
tests_of links = record {
  next = λ link. is_next link links;
  opened = λ link. is_issued link links;
  brings = λ link. takes_piece link links;
}

-- a run of this number was issued
abbrev pub is_issued_run : Run → ℕ → Bool
is_issued_run run next_run = nat_lt 0 run.0 && nat_lt run.0 next_run

-- a run that a cause names was issued, and a link opened; a link is opened by the next number and
-- where there is a server, and a piece of it comes where its last order is More
abbrev pub may_begin : Cause → ℕ → LinkTests → List ServerSpec → Bool
may_begin (cause_is.Exit run how) next_run links servers = is_issued_run run next_run
may_begin (cause_is.Heard run stream bytes) next_run links servers = is_issued_run run next_run
may_begin (cause_is.PipeEnd run stream) next_run links servers = is_issued_run run next_run
may_begin (cause_is.Opened link side) next_run links servers =
    links.next link && is_some (server_of side servers)
may_begin (cause_is.Brought link bytes) next_run links servers =
    links.opened link && links.brings link
may_begin (cause_is.LinkEnd link) next_run links servers = links.opened link
may_begin cause next_run links servers = true

-- a turn begins while no question stands, and may begin; an answer is accepted where it fits the
-- question that stands; and a failed order where it can be named
abbrev pub is_accepted : Part → Option Question → (Cause → Bool) → (ℕ → Bool) → Bool
is_accepted (Begins at cause) asked may named = is_none asked && may cause
is_accepted (Answers reply) asked may named = fits asked reply
is_accepted (Fails number) asked may named = named number

-- a turn may begin so in this world
abbrev pub may_begin_in : World → Cause → Bool
may_begin_in w cause = may_begin cause w.next_run (tests_of w.links) w.config.servers

-- after the halt nothing is accepted
abbrev pub accepts : Model → Input → Bool
accepts m input =
    not (now m).course.halted
    && is_accepted (part_of input) (asked_of (hand m)) (may_begin_in (now m)) (can_be_named m)

-- a turn begins, is answered, or has an order that failed
abbrev pub next_part : Model → Part → Model
next_part m (Begins at cause) = record {
  base = now m;
  begun = Some (record { at = at; cause = cause });
  followed = [];
  since = length (now m).given;
  named = [];
}
next_part m (Answers reply) = record m {
  followed = m.followed ++ followed.Answered reply ∷ [];
  since = length (now m).given;
  named = [];
}
next_part m (Fails number) = record m {
  followed = m.followed ++ failures_told (failure_named m number);
  named = number ∷ m.named;
}

-- the state after an accepted input
abbrev pub next : Model → Input → Model
next m input = next_part m (part_of input)

-- the orders that an accepted input gives
abbrev pub orders : Model → Input → List Order
orders m input = drop (length (now m).given) (now (next m input)).given
