-- The rule of a lane, which holds at every atomic step.
use Rattle.std.specs.Prelude.{◌≡◌, ℕ, ◌<◌, ◌≤◌, List, [], length, Option, Some, None}
use mathlib.Core.Option.{some}
use lib.ListN.{get_elem?}
use Rattle.sv_lane.specs.Order.{IsInOrder, items_of, posted_by}
use Rattle.sv_lane.specs.declared.role.Role.{Role}
use Rattle.sv_lane.specs.declared.role.Role.TheVariants.{Opening, Seating, Posting, Taking}
use Rattle.sv_lane.specs.declared.role.Role.TheVariants.{Finishing, Spent}

-- a lane at one moment
pub record Account (T : Type 0) : Type 0 where
  -- the most items in the channel
  pub room : ℕ
  -- how many seats were made
  pub made : ℕ
  -- the pass of `Seats`, and that of the taker
  pub seating : ℕ
  pub taking : ℕ
  -- the pass of each seat that still posts
  pub holder : ℕ → Option ℕ
  -- what each seat posted
  pub posted : ℕ → List T
  -- what was taken, and what is in the channel, each item with its seat
  pub taken : List (ℕ × T)
  pub held : List (ℕ × T)

module _ {T : Type 0} where
  -- these are the lists of the first seats, which post no more
  abbrev pub AreClosed : Account T → List (List T) → Type 0
  AreClosed a closed =
      (seat : ℕ) → seat < length closed
      → (a.holder seat ≡ None) × (a.posted seat ≡ posted_by closed seat)

  -- a pass has this role, and what it knows is so
  abbrev pub Fits : Account T → ℕ → Role T → Type 0
  Fits a pass Opening = (pass ≡ a.seating) × (pass ≡ a.taking) × (a.made ≡ 0) × (a.held ≡ [])
  Fits a pass (Seating room made closed) =
      (pass ≡ a.seating) × (room ≡ a.room) × (made ≡ a.made)
      × (length closed ≤ made) × AreClosed a closed
  Fits a pass (Posting room seat posted) =
      (a.holder seat ≡ Some pass) × (room ≡ a.room) × (seat < a.made) × (posted ≡ a.posted seat)
  Fits a pass (Taking room taken) = (pass ≡ a.taking) × (room ≡ a.room) × (taken ≡ a.taken)
  Fits a pass (Finishing closed taken left) =
      (pass ≡ a.seating) × (pass ≡ a.taking) × (length closed ≡ a.made) × AreClosed a closed
      × (taken ≡ a.taken) × (length a.held ≤ left)
  Fits a pass Spent = Unit {0}

  -- the rule, over the items in the channel and the roles of all passes
  pub record LaneRule (items : List T) (roles : List (Role T)) : Type 0 where
    pub account : Account T
    -- the channel carries bare items; which seat each is of, only the rule knows
    pub channel : items_of account.held ≡ items
    pub within : length items ≤ account.room
    pub in_order : IsInOrder account.taken account.held account.posted
    pub unmade : (seat : ℕ) → account.made ≤ seat → account.posted seat ≡ []
    pub each : (pass : ℕ) (role : Role T)
        → get_elem? roles pass ≡ some role → Fits account pass role
