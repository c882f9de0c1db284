-- The account of an event pool: what may happen to it, and that each event that it took is in one
-- place.
use Rattle.std.specs.Prelude.{◌≡◌, ◌≤◌, ℕ, List, [], ◌∷◌, ◌++◌, length, Bool, ◌&&◌, nat_eq, nat_lt}
use Rattle.std.specs.Prelude.{is_some, is_none, if◌then◌else◌}
use Rattle.std.specs.List.{count_by}
use Rattle.sv_events.specs.declared.event.Event.{Event}
use Rattle.sv_pool.specs.declared.taken.Taken.{Taken}
use Rattle.sv_pool.specs.PoolLists.{Lists, accepted, took, acknowledged, rejected, forgotten}
use Rattle.sv_pool.specs.PoolLists.{holding, held_events}

-- what may happen to a pool
pub data Step : Type 0 where
  Accept : (event : Event) → Step
  Take : (listener : ℕ) → Step
  Acknowledge : (listener : ℕ) → Step
  Reject : (listener : ℕ) → Step
  Forget : Step

-- an event waits, and the listener is one of the pool's and holds none
abbrev pub may_take : ℕ → Lists → Bool
may_take listener lists =
    nat_lt 0 (length lists.waiting) && nat_lt listener (length lists.held)
    && is_none (holding listener lists.held)

-- the listener is one of the pool's and holds an event
abbrev pub holds_one : ℕ → Lists → Bool
holds_one listener lists =
    nat_lt listener (length lists.held) && is_some (holding listener lists.held)

-- the pool after a step; one that can't be made changes nothing
abbrev pub after : Lists → Step → Lists
after lists (Accept event) = accepted event lists
after lists (Take listener) = if may_take listener lists then took listener lists else lists
after lists (Acknowledge listener) =
    if holds_one listener lists then acknowledged listener lists else lists
after lists (Reject listener) = if holds_one listener lists then rejected listener lists else lists
after lists Forget = forgotten lists

-- after these steps
abbrev pub after_all : Lists → List Step → Lists
after_all lists [] = lists
after_all lists (step ∷ steps) = after_all (after lists step) steps

-- all events that the pool took, wherever they are
abbrev pub everywhere : Lists → List Taken
everywhere lists =
    lists.waiting ++ held_events lists.held ++ lists.acknowledged ++ lists.dropped ++ lists.given_up

-- how often a number stands among these events
abbrev pub times : ℕ → List Taken → ℕ
times number events = count_by (λ taken. nat_eq taken.poolserial number) events

-- the numbers below that of the events taken stand once each, no other stands, and no more wait
-- than can
pub record IsAccount (buffer : ℕ) (lists : Lists) : Type 0 where
  pub size : lists.buffer ≡ buffer
  pub once : (number : ℕ)
      → times number (everywhere lists) ≡ (if nat_lt number lists.taken then 1 else 0)
  pub room : length lists.waiting ≤ buffer
