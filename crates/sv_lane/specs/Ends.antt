-- What a clause says of the ends of a lane.
use Rattle.std.specs.Prelude.{◌≡◌, ℕ, List, length, slice_get, Some}
use Rattle.crossbeam_channel.specs.Claims.{view}
use Rattle.crossbeam_channel.specs.Ends.{sends_on, ruled_capacity}
use Rattle.sv_lane.specs.Roles.{seat_in, posted_in, made_in, taken_in}
use Rattle.sv_lane.specs.declared.poster.Poster.{Poster}
use Rattle.sv_lane.specs.declared.seats.Seats.{Seats}
use Rattle.sv_lane.specs.declared.taker.Taker.{Taker}

module _ {T : Type 0} where
  -- what was posted by this poster
  abbrev pub posted : Poster T → List T
  posted poster = posted_in (view poster.pass)

  -- the number of a poster's seat
  abbrev pub seat_of : Poster T → ℕ
  seat_of poster = seat_in (view poster.pass)

  -- how many seats were made
  abbrev pub made : Seats T → ℕ
  made seats = made_in (view seats.pass)

  -- what was taken, each item with its seat
  abbrev pub taken : Taker T → List (ℕ × T)
  taken taker = taken_in (view taker.pass)

  -- the most items in the channel
  abbrev pub room : Taker T → ℕ
  room taker = ruled_capacity (sends_on taker.sender)

  -- these two are of one lane
  abbrev pub IsLaneOf : Seats T → Taker T → Type 0
  IsLaneOf seats taker = sends_on seats.sender ≡ sends_on taker.sender

  -- this is a poster of this lane
  abbrev pub IsPosterOf : Seats T → Poster T → Type 0
  IsPosterOf seats poster = sends_on poster.sender ≡ sends_on seats.sender

  -- the poster of one seat, before and after
  abbrev pub IsSameSeat : Poster T → Poster T → Type 0
  IsSameSeat old new = (sends_on new.sender ≡ sends_on old.sender) × (seat_of new ≡ seat_of old)

  -- the seats of one lane, before and after
  abbrev pub AreSameSeats : Seats T → Seats T → Type 0
  AreSameSeats old new = sends_on new.sender ≡ sends_on old.sender

  -- the taker of one lane, before and after
  abbrev pub IsSameTaker : Taker T → Taker T → Type 0
  IsSameTaker old new = sends_on new.sender ≡ sends_on old.sender

  -- these are the posters of all seats that were made, in the order of their numbers
  pub record AreAllPosters (seats : Seats T) (posters : List (Poster T)) : Type 0 where
    pub count : length posters ≡ made seats
    pub each : (seat : ℕ) (p : Poster T)
        → slice_get posters seat ≡ Some p → IsPosterOf seats p × (seat_of p ≡ seat)
