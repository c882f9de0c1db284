-- A sweep, one place after the other.
use Rattle.std.proofs.Common.{◌≡◌, ◌⊎◌, inl, inr, ℕ, zero, suc, List, Option, Some, None, ◌+◌, ◌-◌, ◌<◌, ◌≤◌, length, arith, ap, subst, sym, ◌∙◌}
use Rattle.std.proofs.lemmas.Bool.{cases_lt}
use Rattle.sv_children.specs.Crew.{member_at}
use Rattle.sv_children.specs.declared.news.News.{News}
use Rattle.sv_core.proofs.Unmoved.{passed}
use Rattle.sv_core.specs.StandsFor.{At, Shows, paused, stopped, swept}
use Rattle.sv_core.specs.Sweeps.{IsMet, PassBy, Turn, sweeps, sweeps_all, meets, passes_by}
use Rattle.sv_core.specs.World.{World}
use Rattle.sv_core.specs.declared.machine.Machine.{Machine}
use Rattle.sv_core.specs.declared.place.Asked.{Asked}
use Rattle.sv_core.specs.declared.place.Pause.{Pause}
use Rattle.sv_out.specs.declared.order.Order.{Order}

sweep_next : (news : News) (n place : ℕ) (w : World) (k : World → Turn) → place < n
    → sweeps news (n - place) place w k ≡ meets news place w (λ v. sweeps news (n - (place + 1)) (place + 1) v k)
sweep_next news n place w k below =
    let left : n - place ≡ suc (n - (place + 1)) = omega arith in ap (λ count. sweeps news count place w k) left

no_place_left : (news : News) (n place : ℕ) (w : World) (k : World → Turn) → n ≤ place → sweeps news (n - place) place w k ≡ k w
no_place_left news n place w k past =
    let left : n - place ≡ 0 = omega arith in ap (λ count. sweeps news count place w k) left

sweep_done : (y : Machine) (older : List Order) (news : News) (n place : ℕ) (t : Turn) (k : World → Turn) → n ≤ place
    → At y older t (λ v. sweeps news (n - place) place v k)
    → At y older t (swept news n None k)
unfolding swept
sweep_done y older news n place t k past at =
    record { world = at.world; shows = at.shows; is = at.is ∙ no_place_left news n place at.world k past }

-- the news pass by so many children
passed_all : (news : News) (n d place : ℕ) (w : World) (k : World → Turn) → place + d ≤ n
    → PassBy news w.moment w.children place (place + d)
    → sweeps news (n - place) place w k ≡ sweeps news (n - (place + d)) (place + d) w k
passed_all news n zero place w k fits by =
    let same : place ≡ place + 0 = omega arith in ap (λ p. sweeps news (n - p) p w k) same
passed_all news n (suc d) place w k fits by =
    let same : place + 1 + d ≡ place + suc d = omega arith in
    sweep_next news n place w k (omega (arith, fits))
    ∙ passed news place w (λ v. sweeps news (n - (place + 1)) (place + 1) v k) (by place (omega arith) (omega arith))
    ∙ passed_all news n d (place + 1) w k (omega (arith, fits))
    (λ other after before. by other (omega (arith, after)) (omega (arith, before)))
    ∙ ap (λ p. sweeps news (n - p) p w k) same

passed_to : (news : News) (n place to : ℕ) (w : World) (k : World → Turn) → place ≤ to → to ≤ n
    → PassBy news w.moment w.children place to
    → sweeps news (n - place) place w k ≡ sweeps news (n - to) to w k
passed_to news n place to w k after within by =
    let same : place + (to - place) ≡ to = omega (arith, after) in
    passed_all news n (to - place) place w k (omega (arith, same, within))
    (λ other from before. by other from (omega (arith, before, same)))
    ∙ ap (λ p. sweeps news (n - p) p w k) same

sweep_passed : (x : Machine) (older : List Order) (news : News) (n place to : ℕ) (t : Turn) (k : World → Turn) → place ≤ to → to ≤ n
    → PassBy news x.hand.moment x.children place to
    → At x older t (λ v. sweeps news (n - place) place v k)
    → At x older t (λ v. sweeps news (n - to) to v k)
sweep_passed x older news n place to t k after within by at = record {
  world = at.world;
  shows = at.shows;
  is = at.is ∙ passed_to news n place to at.world k after within
      (λ other from before.
      ap (λ (w : World). passes_by news (member_at w.children other) w.moment) at.shows.is ∙ by other from before);
}

-- the sweep goes on with the next place that the news don't pass by
pub sweep_met : (x y : Machine) (older : List Order) (news : News) (n from place : ℕ) (t : Turn) (k : World → Turn) → y ≡ x
    → IsMet news x.hand.moment x.children from n place
    → At x older t (λ v. sweeps news (n - from) from v k)
    → At y older t (λ v. sweeps news (n - place) place v k)
sweep_met x y older news n from place t k same met at =
    subst (λ (m : Machine). At m older t (λ v. sweeps news (n - place) place v k)) (sym same)
    (sweep_passed x older news n from place t k met.after (omega (arith, met.within)) met.before at)

-- they pass by all that are left
pub sweep_over_rest : (x y : Machine) (older : List Order) (news : News) (n place : ℕ) (t : Turn) (k : World → Turn) → y ≡ x
    → PassBy news x.hand.moment x.children place n
    → At x older t (λ v. sweeps news (n - place) place v k)
    → At y older t (swept news n None k)
sweep_over_rest x y older news n place t k same by at =
    subst (λ (m : Machine). At m older t (swept news n None k)) (sym same) (by_order (cases_lt place n)) where
      by_order : (place < n) ⊎ (n ≤ place) → At x older t (swept news n None k)
      by_order (inl below) =
          sweep_done x older news n n t k (omega arith) (sweep_passed x older news n place n t k (omega (arith, below)) (omega arith) by at)
      by_order (inr past) = sweep_done x older news n place t k past at

-- the child of a place asks: the sweep stops there, and goes on in the next place
pub sweep_stopped : (y z : Machine) (older : List Order) (news : News) (n place : ℕ) (t : Turn) (found : Option Asked) (asked : Asked)
    (k : World → Turn) → place < n → found ≡ Some asked
    → (at : At y older t (λ v. sweeps news (n - place) place v k))
    → At z older (meets news place at.world (λ v. sweeps news (n - (place + 1)) (place + 1) v k))
    (stopped found (λ v. sweeps news (n - (place + 1)) (place + 1) v k))
    → At z older t (swept news n (Some (record { next = place + 1; asked = asked })) k)
unfolding stopped swept
sweep_stopped y z older news n place t found asked k below is at met = record {
  world = met.world;
  shows = met.shows;
  is = at.is ∙ sweep_next news n place at.world k below ∙ met.is
      ∙ ap (λ o. stopped o (λ v. sweeps news (n - (place + 1)) (place + 1) v k) met.world) is;
}

-- it doesn't ask: the sweep goes on
pub sweep_went_on : (y z : Machine) (older : List Order) (news : News) (n place : ℕ) (t : Turn) (found : Option Asked)
    (k : World → Turn) → place < n → found ≡ None
    → (at : At y older t (λ v. sweeps news (n - place) place v k))
    → At z older (meets news place at.world (λ v. sweeps news (n - (place + 1)) (place + 1) v k))
    (stopped found (λ v. sweeps news (n - (place + 1)) (place + 1) v k))
    → At z older t (λ v. sweeps news (n - (place + 1)) (place + 1) v k)
unfolding stopped
sweep_went_on y z older news n place t found k below is at met = record {
  world = met.world;
  shows = met.shows;
  is = at.is ∙ sweep_next news n place at.world k below ∙ met.is
      ∙ ap (λ o. stopped o (λ v. sweeps news (n - (place + 1)) (place + 1) v k) met.world) is;
}

-- what is left of a sweep that stopped is kept
pub sweep_kept : (y : Machine) (older : List Order) (news : News) (to : ℕ) (t : Turn) (found : Option Pause) (stop : Pause)
    (k : World → Turn) → found ≡ Some stop
    → At y older t (swept news to found k) → At y older t (paused (Some (record { news = news; to = to; stop = stop })) k)
unfolding paused
sweep_kept y older news to t found stop k is at =
    record { world = at.world; shows = at.shows; is = at.is ∙ ap (λ o. swept news to o k at.world) is }

pub sweep_over : (y : Machine) (older : List Order) (news : News) (to : ℕ) (t : Turn) (found : Option Pause) (k : World → Turn)
    → found ≡ None → At y older t (swept news to found k) → At y older t (paused None k)
unfolding paused swept
sweep_over y older news to t found k is at =
    record { world = at.world; shows = at.shows; is = at.is ∙ ap (λ o. swept news to o k at.world) is }

-- a sweep over all children of the machine
pub all_swept : (y : Machine) (older : List Order) (news : News) (n : ℕ) (w : World) (k : World → Turn) → Shows y older w
    → n ≡ length y.children.all → sweeps_all news w k ≡ sweeps news (n - 0) 0 w k
all_swept y older news n w k s is =
    ap (λ (m : ℕ). sweeps news (m - 0) 0 w k) (ap (λ (v : World). length v.children.all) s.is ∙ sym is)
