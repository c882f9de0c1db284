-- The steps that keep the rule, for a pass whose role is known by an equation.
use Rattle.std.proofs.Common.{◌≡◌, ℕ, ◌<◌, List, [], ◌∷◌, ◌++◌, length, sym, subst}
use Rattle.std.specs.Prelude.{⊤}
use Rattle.crossbeam_channel.specs.Fifo.{Pushes, Pops, Forks, Merges, Learns}
use Rattle.sv_lane.proofs.RuleKept.{opens, posts, takes, seats, gathers, closes, empties, settles}
use Rattle.sv_lane.specs.LaneRule.{LaneRule}
use Rattle.sv_lane.specs.Order.{of_seat, posted_by}
use Rattle.sv_lane.specs.Roles.{seat_in, posted_in, made_in, taken_in, closed_in, left_in, IsPosting, IsSeating, IsTaking, IsFinishing, with_posted, with_taken, with_seat, new_seat, with_closed, finishing}
use Rattle.sv_lane.specs.declared.role.Role.{Role}
use Rattle.sv_lane.specs.declared.role.Role.TheVariants.{Opening, Seating, Taking, Spent}

module _ {T : Type 0} where
  pub learns_nothing : (pass : ℕ) (role : Role T) → Learns LaneRule pass role (λ items. ⊤)
  learns_nothing pass role items roles rule at = tt

  pub opens_as : (pass room : ℕ) (role : Role T) → role ≡ Opening → Forks LaneRule pass role (Taking room []) (Seating room 0 [])
  opens_as pass room role is = subst (λ (u : Role T). Forks LaneRule pass u (Taking room []) (Seating room 0 [])) (sym is) (opens pass room)

  pub posts_as : (room pass : ℕ) (role : Role T) (x : T) → IsPosting room role → Pushes LaneRule room pass role x (λ w. w ≡ with_posted role x)
  posts_as room pass role x is = subst (λ (u : Role T). Pushes LaneRule room pass u x (λ w. w ≡ with_posted u x)) (sym is) (posts room pass (seat_in role) (posted_in role) x)

  pub takes_as : (room pass : ℕ) (role : Role T) → IsTaking room role → Pops LaneRule pass role (λ x w. (seat : ℕ) × (w ≡ with_taken role seat x))
  takes_as room pass role is = subst (λ (u : Role T). Pops LaneRule pass u (λ x w. (seat : ℕ) × (w ≡ with_taken u seat x))) (sym is) (takes pass room (taken_in role))

  pub seats_as : (room pass : ℕ) (role : Role T) → IsSeating room role → Forks LaneRule pass role (with_seat role) (new_seat role)
  seats_as room pass role is = subst (λ (u : Role T). Forks LaneRule pass u (with_seat u) (new_seat u)) (sym is) (seats pass room (made_in role) [])

  pub gathers_as : (room made : ℕ) (closed : List (List T)) (pass : ℕ) (role : Role T) (other r : ℕ) (u : Role T) → role ≡ Seating room made closed → IsPosting r u → seat_in u ≡ length closed → Merges LaneRule pass role other u (with_closed role u) Spent
  gathers_as room made closed pass role other r u is theirs last = subst (λ (v : Role T). Merges LaneRule pass v other u (with_closed v u) Spent) (sym is)
      (subst (λ (v : Role T). Merges LaneRule pass (Seating room made closed) other v (Seating room made (closed ++ posted_in u ∷ [])) Spent) (sym theirs) (gathers pass room made closed other r (seat_in u) (posted_in u) last))

  pub closes_as : (room pass : ℕ) (role : Role T) (r made : ℕ) (closed : List (List T)) (other : ℕ) (u : Role T) → IsTaking room role → u ≡ Seating r made closed → made ≡ length closed → Merges LaneRule pass role other u (finishing role u) Spent
  closes_as room pass role r made closed other u is theirs all = subst (λ (v : Role T). Merges LaneRule pass v other u (finishing v u) Spent) (sym is)
      (subst (λ (v : Role T). Merges LaneRule pass (Taking room (taken_in role)) other v (finishing (Taking room (taken_in role)) v) Spent) (sym theirs) (closes pass room (taken_in role) other r made closed all))

  pub empties_as : (pass : ℕ) (role : Role T) → IsFinishing role → Pops LaneRule pass role (λ x w. (seat : ℕ) × (0 < left_in role) × (w ≡ with_taken role seat x))
  empties_as pass role is = subst (λ (u : Role T). Pops LaneRule pass u (λ x w. (seat : ℕ) × (0 < left_in u) × (w ≡ with_taken u seat x))) (sym is) (empties pass (closed_in role) (taken_in role) (left_in role))

  pub settles_as : (pass : ℕ) (role : Role T) → IsFinishing role → Learns LaneRule pass role (λ items. items ≡ [] → (seat : ℕ) → of_seat seat (taken_in role) ≡ posted_by (closed_in role) seat)
  settles_as pass role is = subst (λ (u : Role T). Learns LaneRule pass u (λ items. items ≡ [] → (seat : ℕ) → of_seat seat (taken_in u) ≡ posted_by (closed_in u) seat)) (sym is) (settles pass (closed_in role) (taken_in role) (left_in role))
