-- What a role knows, and how a step changes it.
use Rattle.std.specs.Prelude.{◌≡◌, ℕ, ◌+◌, ◌-◌, List, [], ◌∷◌, ◌++◌}
use Rattle.sv_lane.specs.declared.role.Role.{Role}
use Rattle.sv_lane.specs.declared.role.Role.TheVariants.{Seating, Posting, Taking, Finishing, Spent}

module _ {T : Type 0} where
  -- the number of a poster's seat
  abbrev pub seat_in : Role T → ℕ
  seat_in (Posting room seat posted) = seat
  seat_in role = 0

  -- what a poster posted
  abbrev pub posted_in : Role T → List T
  posted_in (Posting room seat posted) = posted
  posted_in role = []

  -- how many seats were made
  abbrev pub made_in : Role T → ℕ
  made_in (Seating room made closed) = made
  made_in role = 0

  -- what the seats posted whose posters were taken in
  abbrev pub closed_in : Role T → List (List T)
  closed_in (Seating room made closed) = closed
  closed_in (Finishing closed taken left) = closed
  closed_in role = []

  -- what was taken, each item with its seat
  abbrev pub taken_in : Role T → List (ℕ × T)
  taken_in (Taking room taken) = taken
  taken_in (Finishing closed taken left) = taken
  taken_in role = []

  -- the most items in the channel now, for the pass that took in all others
  abbrev pub left_in : Role T → ℕ
  left_in (Finishing closed taken left) = left
  left_in role = 0

  -- a poster's role, in a channel with this room
  abbrev pub IsPosting : ℕ → Role T → Type 0
  IsPosting room role = role ≡ Posting room (seat_in role) (posted_in role)

  -- the role of `Seats`, no poster of which was taken in
  abbrev pub IsSeating : ℕ → Role T → Type 0
  IsSeating room role = role ≡ Seating room (made_in role) []

  -- the taker's role
  abbrev pub IsTaking : ℕ → Role T → Type 0
  IsTaking room role = role ≡ Taking room (taken_in role)

  -- the role that took in all others
  abbrev pub IsFinishing : Role T → Type 0
  IsFinishing role = role ≡ Finishing (closed_in role) (taken_in role) (left_in role)

  -- a poster's role after a post
  abbrev pub with_posted : Role T → T → Role T
  with_posted (Posting room seat posted) item = Posting room seat (posted ++ item ∷ [])
  with_posted role item = role

  -- the taker's role after it took an item of this seat
  abbrev pub with_taken : Role T → ℕ → T → Role T
  with_taken (Taking room taken) seat item = Taking room (taken ++ (seat, item) ∷ [])
  with_taken (Finishing closed taken left) seat item =
      Finishing closed (taken ++ (seat, item) ∷ []) (left - 1)
  with_taken role seat item = role

  -- the role of `Seats` after it made a seat
  abbrev pub with_seat : Role T → Role T
  with_seat (Seating room made closed) = Seating room (made + 1) closed
  with_seat role = role

  -- the role of the poster of that seat
  abbrev pub new_seat : Role T → Role T
  new_seat (Seating room made closed) = Posting room made []
  new_seat role = Spent

  -- the role of `Seats` after it took in a poster
  abbrev pub with_closed : Role T → Role T → Role T
  with_closed (Seating room made closed) poster =
      Seating room made (closed ++ posted_in poster ∷ [])
  with_closed role poster = role

  -- the taker's role after it took in `Seats`
  abbrev pub finishing : Role T → Role T → Role T
  finishing (Taking room taken) seats = Finishing (closed_in seats) taken room
  finishing role seats = role
