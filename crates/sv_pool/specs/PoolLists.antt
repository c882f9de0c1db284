-- An event pool (the manual's chapter on events, "event listener notifications") as lists of all
-- the events that it took.
use Rattle.std.specs.Prelude.{◌≡◌, ℕ, ◌+◌, ◌^◌, ◌%◌, List, [], ◌∷◌, ◌++◌, length, take, drop, map}
use Rattle.std.specs.Prelude.{replicate, Bool, nat_lt, Option, None, slice_get, slice_set}
use Rattle.std.specs.Prelude.{slice_index_or, if◌then◌else◌}
use Rattle.std.specs.List.{flat_map}
use Rattle.std.specs.Option.{option_map, option_to_list}
use Rattle.sv_events.specs.declared.event.Event.{Event}
use Rattle.sv_pool.specs.declared.taken.Taken.{Taken}
use Rattle.sv_pool.specs.declared.taken.Dropped.{Dropped}

-- a pool: how many events can wait, how many it took so far, and where each of these is
pub record Lists : Type 0 where
  pub buffer : ℕ
  pub taken : ℕ
  -- the events that wait, the next one first
  pub waiting : List Taken
  -- for each listener the event that it holds
  pub held : List (Option Taken)
  pub acknowledged : List Taken
  pub dropped : List Taken
  pub given_up : List Taken

-- a pool that took no event yet
abbrev pub opened : ℕ → ℕ → Lists
opened buffer listeners = record {
  buffer = buffer;
  taken = 0;
  waiting = [];
  held = replicate listeners None;
  acknowledged = [];
  dropped = [];
  given_up = [];
}

-- one more event may wait
abbrev pub has_room : Lists → Bool
has_room lists = nat_lt (length lists.waiting) lists.buffer

-- where the buffer is full, the oldest event that waits is dropped
abbrev pub make_room : Lists → Lists
make_room lists =
    if has_room lists then lists
    else record lists
    { waiting = drop 1 lists.waiting; dropped = lists.dropped ++ take 1 lists.waiting }

-- what is reported of an event that is dropped
abbrev pub report : Taken → Dropped
report taken = record { serial = taken.event.serial; poolserial = taken.poolserial }

-- the report of what is dropped to make room
abbrev pub dropped_for_room : Lists → Option Dropped
dropped_for_room lists =
    if has_room lists then None else option_map report (slice_get lists.waiting 0)

-- the event gets the pool's next number, modulo 2^64, and waits after the others
abbrev pub numbered : Event → ℕ → Taken
numbered event number = record { event = event; poolserial = number % 2 ^ 64 }

-- an event is taken: it waits as the last
abbrev pub accepted : Event → Lists → Lists
accepted event lists =
    record (make_room lists) {
      taken = lists.taken + 1;
      waiting = (make_room lists).waiting ++ numbered event lists.taken
          ∷ [];
    }

-- the event that a listener holds
abbrev pub holding : ℕ → List (Option Taken) → Option Taken
holding listener held = slice_index_or held listener None

-- the first event that waits goes to the listener
abbrev pub took : ℕ → Lists → Lists
took listener lists =
    record lists {
      waiting = drop 1 lists.waiting;
      held = slice_set lists.held listener (slice_get lists.waiting 0);
    }

-- the listener is done with the event that it holds
abbrev pub acknowledged : ℕ → Lists → Lists
acknowledged listener lists =
    record lists {
      held = slice_set lists.held listener None;
      acknowledged = lists.acknowledged ++ option_to_list (holding listener lists.held);
    }

-- the listener's event goes to the front
abbrev pub rejected : ℕ → Lists → Lists
rejected listener lists =
    record (make_room lists) {
      held = slice_set lists.held listener None;
      waiting = option_to_list (holding listener lists.held) ++ (make_room lists).waiting;
    }

-- the events that listeners hold
abbrev pub held_events : List (Option Taken) → List Taken
held_events held = flat_map option_to_list held

-- all that wait and are held are given up
abbrev pub forgotten : Lists → Lists
forgotten lists =
    record lists {
      waiting = [];
      held = map (λ _. None) lists.held;
      given_up = lists.given_up ++ lists.waiting ++ held_events lists.held;
    }

-- what a pool keeps of its lists: those that shrink, and the next number
pub record Kept : Type 0 where
  pub buffer : ℕ
  pub next : ℕ
  pub waiting : List Taken
  pub held : List (Option Taken)

-- a pool stands for these lists
pub record StandsFor (pool : Kept) (lists : Lists) : Type 0 where
  pub buffer : pool.buffer ≡ lists.buffer
  pub next : pool.next ≡ lists.taken % 2 ^ 64
  pub waiting : pool.waiting ≡ lists.waiting
  pub held : pool.held ≡ lists.held
