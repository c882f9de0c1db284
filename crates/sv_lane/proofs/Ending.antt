-- The end of a lane: its posters in a row, and what is left of it.
use Rattle.std.proofs.Common.{◌≡◌, ℕ, ◌-◌, List, [], ◌∷◌, ◌++◌, map, length, sym, refl, ap, ◌∙◌, Some, subst}
use Rattle.std.proofs.lemmas.List.{length-map}
use Rattle.std.specs.Prelude.{slice_get}
use Rattle.sv_lane.proofs.Seated.{of_seat-append}
use Rattle.sv_lane.specs.Ends.{AreAllPosters, IsPosterOf, posted, seat_of}
use Rattle.sv_lane.specs.Order.{AreFronts, Settles, of_seat}
use Rattle.sv_lane.specs.Roles.{IsFinishing, IsTaking, closed_in, finishing, left_in, taken_in, with_taken}
use Rattle.sv_lane.specs.declared.poster.Poster.{Poster}
use Rattle.sv_lane.specs.declared.role.Role.{Role}
use Rattle.sv_lane.specs.declared.role.Role.TheVariants.{Finishing, Seating}
use Rattle.sv_lane.specs.declared.seats.Seats.{Seats}

slice_get-seam : {X : Type 0} (xs : List X) (x : X) (ys : List X) → slice_get (xs ++ x ∷ ys) (length xs) ≡ Some x
slice_get-seam [] x ys = refl
slice_get-seam (y ∷ xs) x ys = slice_get-seam xs x ys

module _ {T : Type 0} where
  -- the next poster is one of the lane, and its seat comes after those that went before
  pub next_poster : (seats : Seats T) (posters before rest after : List (Poster T)) (p : Poster T) → AreAllPosters seats posters → before ++ rest ≡ posters → rest ≡ p ∷ after → IsPosterOf seats p × (seat_of p ≡ length (map posted before))
  next_poster seats posters before rest after p all cut first =
      let here = all.each (length before) p (ap (λ (l : List (Poster T)). slice_get l (length before)) (sym cut ∙ ap (λ (l : List (Poster T)). before ++ l) first) ∙ slice_get-seam before p after) in
      (here.0, here.1 ∙ sym (length-map before posted))

  -- what is known after one more item was taken of what is left
  pub one_less : (old new : Role T) (seat : ℕ) (x : T) → IsFinishing old → new ≡ with_taken old seat x → new ≡ Finishing (closed_in old) (taken_in old ++ (seat, x) ∷ []) (left_in old - 1)
  one_less old new seat x is step = step ∙ ap (λ (u : Role T). with_taken u seat x) is

  pub finishing_still : (role : Role T) (closed : List (List T)) (taken : List (ℕ × T)) (left : ℕ) → role ≡ Finishing closed taken left → IsFinishing role
  finishing_still role closed taken left e = e ∙ sym (ap (λ (u : Role T). Finishing (closed_in u) (taken_in u) (left_in u)) e)

  -- the pass that took in the seats has what the taker took, and the lists of all seats
  pub settles_all : (room r made : ℕ) (role u both : Role T) (closed : List (List T)) (left : List T) → IsTaking room role → u ≡ Seating r made closed → both ≡ finishing role u → Settles (taken_in both) (closed_in both) left → Settles (taken_in role) closed left
  settles_all room r made role u both closed left is theirs joined =
      subst (λ (v : Role T). Settles (taken_in v) (closed_in v) left) (joined ∙ ap (λ (v : Role T). finishing v u) is ∙ ap (λ (v : Role T). Finishing (closed_in v) (taken_in role) room) theirs)

  -- what was taken of each seat is a prefix, where what is left is the rest
  pub fronts : (taken : List (ℕ × T)) (lists : List (List T)) (left : List T) → Settles taken lists left → AreFronts taken lists
  fronts taken lists left s seat = (of_seat seat s.0, sym (s.2 seat) ∙ of_seat-append seat taken s.0)
