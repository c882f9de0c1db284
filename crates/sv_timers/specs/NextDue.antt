-- The next child that is due, from a place of the start order on.
use Rattle.std.specs.Prelude.{◌≡◌, ◌≤◌, ◌<◌, ◌+◌, ℕ, List, [], ◌∷◌, Option, None, Some, Bool, false}
use Rattle.std.specs.Prelude.{◌&&◌, nat_eq, nat_le, if◌then◌else◌, drop, length, slice_get}
use Rattle.sv_base.specs.declared.ids.ChildId.{ChildId}
use Rattle.sv_timers.specs.Deadlines.{due_from}
use Rattle.sv_timers.specs.Looks.{looked_of, room_of}
use Rattle.sv_timers.specs.declared.list.DueList.{DueList}
use Rattle.sv_timers.specs.declared.list.Rest.{Rest}

-- the first of these children whose place isn't before this one
abbrev pub next_in : ℕ → List ChildId → Option ChildId
next_in from [] = None
next_in from (child ∷ children) = if nat_le from child.0 then Some child else next_in from children

-- the first child from this place on whose deadline has come
abbrev pub next_due : ℕ → ℕ → List (Option ℕ) → Option ChildId
next_due from now deadlines = next_in from (due_from 0 now deadlines)

-- what is left of a list of the due tells who is next, from a place on
abbrev pub IsRest : Option Rest → List ChildId → List (Option ℕ) → Type 0
IsRest None left deadlines = Unit {0}
IsRest (Some rest) left deadlines =
    (place : ℕ) → rest.from ≤ place → next_in place left ≡ next_due place rest.at deadlines

-- it tells who is next at this moment, from this place on
abbrev pub tells : Option Rest → ℕ → ℕ → Bool
tells None from now = false
tells (Some rest) from now = nat_le rest.from from && nat_eq rest.at now

-- a list of the due has room for all, and what is left of it is right
pub record IsList (list : DueList) (deadlines : List (Option ℕ)) : Type 0 where
  pub room : room_of list.looked ≡ length deadlines
  pub rest : IsRest list.rest (drop list.told (looked_of list.looked)) deadlines

-- what is left is right where a deadline changes before it
abbrev pub rest_past : Option Rest → ℕ → Option Rest
rest_past None place = None
rest_past (Some rest) place = if nat_le rest.from place then None else Some rest

-- this is the place in a list, after those that were told, of the first child from a place of the
-- start order on
pub record IsFirst (children : List ChildId) (told from place : ℕ) : Type 0 where
  pub child : ChildId
  pub there : slice_get children place ≡ Some child
  pub past : from ≤ child.0
  pub first : next_in from (drop told children) ≡ Some child
  pub left : (later : ℕ) → child.0 < later
      → next_in later (drop (place + 1) children) ≡ next_in later (drop told children)
