-- What is known of all children stays right as one changes, and as all are rewound.
use Rattle.std.proofs.Common.{◌≡◌, ℕ, zero, suc, ◌+◌, ◌<◌, ◌≤◌, List, [], ◌∷◌, ◌++◌, Bool, true, false, ◌&&◌, Option, None, Some, length, map, replicate, max, if◌then◌else◌, arith, refl, sym, ap, subst, ◌∙◌}
use Rattle.std.specs.Prelude.{nat_eq, nat_le, slice_get, slice_set}
use Rattle.std.proofs.lemmas.Bool.{and_parts, both_ways, eqb-true, eqb-false, eq-eqb, le-leb, leb-true, ne_eqb}
use Rattle.std.proofs.lemmas.List.{map-append}
use Rattle.std.proofs.lemmas.Option.{same_Some}
use Rattle.sv_base.specs.declared.spec.GroupSpec.{GroupSpec}
use Rattle.sv_base.specs.declared.spec.Spec.{Spec}
use Rattle.sv_children.proofs.Waking.{rewound_settled, settled_later, settled_same}
use Rattle.sv_child.specs.Moves.{new_child}
use Rattle.sv_child.specs.Rewind.{rewound}
use Rattle.sv_children.specs.Wake.{is_settled, wake_moment}
use Rattle.sv_child.specs.declared.child.Child.{Child}
use Rattle.sv_children.proofs.Places.{set_elsewhere}
use Rattle.sv_children.specs.Awake.{wakes_of}
use Rattle.sv_children.specs.Crew.{Crew}
use Rattle.sv_children.specs.Rewound.{all_rewound, crew_rewound}
use Rattle.sv_children.specs.Watch.{AreSettled, Watches, and_also, but_not, is_nobody, may_be}
use Rattle.sv_children.specs.declared.watch.Unsettled.{Unsettled}
use Rattle.sv_children.specs.declared.watch.Unsettled.TheVariants.{Nobody, One, Several}
use Rattle.sv_children.specs.declared.watch.Watch.{Watch}
use Rattle.sv_groups.specs.StartOrder.{pairs_in, pairs_of, processes}

-- ---- when each wakes

pub wakes_count : (pairs : List (GroupSpec × Spec)) (cs : List Child) → length (wakes_of pairs cs) ≡ length cs
wakes_count pairs [] = refl
wakes_count [] (c ∷ cs) = ap suc (wakes_count [] cs)
wakes_count (p ∷ ps) (c ∷ cs) = ap suc (wakes_count ps cs)

-- one child changes
pub wakes_set : (pairs : List (GroupSpec × Spec)) (cs : List Child) (place : ℕ) (pair : GroupSpec × Spec) (y : Child)
    → slice_get pairs place ≡ Some pair
    → slice_set (wakes_of pairs cs) place (wake_moment pair.1 y) ≡ wakes_of pairs (slice_set cs place y)
wakes_set pairs [] place pair y at = refl
wakes_set [] (c ∷ cs) place pair y at = cc
wakes_set (p ∷ ps) (c ∷ cs) zero pair y at =
    ap (λ (q : GroupSpec × Spec). wake_moment q.1 y ∷ wakes_of ps cs) (sym (same_Some p pair at))
wakes_set (p ∷ ps) (c ∷ cs) (suc place) pair y at =
    ap (λ (ws : List (Option ℕ)). wake_moment p.1 c ∷ ws) (wakes_set ps cs place pair y at)

pub wakes_read : (pairs : List (GroupSpec × Spec)) (cs : List Child) (place : ℕ) (pair : GroupSpec × Spec) (c : Child)
    → slice_get pairs place ≡ Some pair → slice_get cs place ≡ Some c
    → Some (wake_moment pair.1 c) ≡ slice_get (wakes_of pairs cs) place
wakes_read pairs [] place pair c at there = cc
wakes_read [] (x ∷ xs) place pair c at there = cc
wakes_read (p ∷ ps) (x ∷ xs) zero pair c at there =
    ap (λ (q : GroupSpec × Spec). Some (wake_moment q.1 c)) (sym (same_Some p pair at))
    ∙ ap (λ (y : Child). Some (wake_moment p.1 y)) (sym (same_Some x c there))
wakes_read (p ∷ ps) (x ∷ xs) (suc place) pair c at there = wakes_read ps xs place pair c at there

pub wakes_without : (pairs : List (GroupSpec × Spec)) (cs : List Child) (place : ℕ) → slice_get pairs place ≡ None → place < length cs
    → Some None ≡ slice_get (wakes_of pairs cs) place
wakes_without pairs [] place at within = absurd (omega (arith, within))
wakes_without [] (x ∷ xs) zero at within = refl
wakes_without [] (x ∷ xs) (suc place) at within = wakes_without [] xs place at (omega (arith, within))
wakes_without (p ∷ ps) (x ∷ xs) zero at within = cc
wakes_without (p ∷ ps) (x ∷ xs) (suc place) at within = wakes_without ps xs place at (omega (arith, within))

-- ---- they are written down, one after the other

-- so many are as in the first list, and the others as in the second
abbrev pub first_of_both : ℕ → List (Option ℕ) → List (Option ℕ) → List (Option ℕ)
first_of_both zero ys xs = xs
first_of_both (suc n) (y ∷ ys) (x ∷ xs) = y ∷ first_of_both n ys xs
first_of_both (suc n) [] xs = xs
first_of_both (suc n) (y ∷ ys) [] = []

pub both_count : (n : ℕ) (ys xs : List (Option ℕ)) → length (first_of_both n ys xs) ≡ length xs
both_count zero ys xs = refl
both_count (suc n) [] xs = refl
both_count (suc n) (y ∷ ys) [] = refl
both_count (suc n) (y ∷ ys) (x ∷ xs) = ap suc (both_count n ys xs)

pub both_more : (n : ℕ) (ys xs : List (Option ℕ)) (y : Option ℕ) → n < length xs → Some y ≡ slice_get ys n
    → slice_set (first_of_both n ys xs) n y ≡ first_of_both (n + 1) ys xs
both_more zero [] xs y within at = cc
both_more zero (z ∷ zs) [] y within at = absurd (omega (arith, within))
both_more zero (z ∷ zs) (x ∷ xs) y within at = ap (λ (w : Option ℕ). w ∷ xs) (same_Some y z at)
both_more (suc n) [] xs y within at = cc
both_more (suc n) (z ∷ zs) [] y within at = absurd (omega (arith, within))
both_more (suc n) (z ∷ zs) (x ∷ xs) y within at =
    let next : suc n + 1 ≡ suc (n + 1) = omega arith in
    rw next (ap (λ (ws : List (Option ℕ)). z ∷ ws) (both_more n zs xs y (omega (arith, within)) at))

pub both_all : (n : ℕ) (ys xs : List (Option ℕ)) → length ys ≡ length xs → length xs ≤ n → first_of_both n ys xs ≡ ys
both_all zero [] [] same past = refl
both_all zero [] (x ∷ xs) same past = absurd (omega (arith, past))
both_all zero (y ∷ ys) xs same past = absurd (omega (arith, past, same))
both_all (suc n) [] [] same past = refl
both_all (suc n) [] (x ∷ xs) same past = absurd (omega (arith, same))
both_all (suc n) (y ∷ ys) [] same past = absurd (omega (arith, same))
both_all (suc n) (y ∷ ys) (x ∷ xs) same past =
    ap (λ (ws : List (Option ℕ)). y ∷ ws) (both_all n ys xs (omega (arith, same)) (omega (arith, past)))

-- ---- who is settled

same_place : (n : ℕ) → nat_eq n n ≡ true
same_place n = eq-eqb n n refl

-- who may be unsettled once the child of a place changed
abbrev pub unsettled_by : Bool → Unsettled → ℕ → Unsettled
unsettled_by true unsettled place = but_not unsettled place
unsettled_by false unsettled place = and_also unsettled place

-- of the child that changed it is known
own_known : (b : Bool) (unsettled : Unsettled) (place : ℕ) → may_be (unsettled_by b unsettled place) place ≡ false → b ≡ true
own_known true unsettled place e = refl
own_known false Nobody place e = absurd (both_ways (nat_eq place place) e (same_place place))
own_known false (One own) place e = by (nat_eq own place) refl e where
  by : (c : Bool) → nat_eq own place ≡ c → may_be (if c then One own else Several) place ≡ false → false ≡ true
  by true same e = sym e ∙ same
  by false other e = sym e
own_known false Several place e = sym e

-- and of each other it was
other_known : (b : Bool) (unsettled : Unsettled) (place other : ℕ) → (place ≡ other → ⊥)
    → may_be (unsettled_by b unsettled place) other ≡ false → may_be unsettled other ≡ false
other_known true Nobody place other apart e = refl
other_known true (One own) place other apart e = by (nat_eq own place) refl e where
  by : (c : Bool) → nat_eq own place ≡ c → may_be (if c then Nobody else One own) other ≡ false → nat_eq own other ≡ false
  by true same e = ne_eqb own other (λ is. apart (sym (eqb-true own place same) ∙ is))
  by false differs e = e
other_known true Several place other apart e = e
other_known false Nobody place other apart e = refl
other_known false (One own) place other apart e = by (nat_eq own place) e where
  by : (c : Bool) → may_be (if c then One own else Several) other ≡ false → nat_eq own other ≡ false
  by true e = e
  by false e = absurd (both_ways true e refl)
other_known false Several place other apart e = e

read_set : (cs : List Child) (place : ℕ) (y child : Child) → slice_get (slice_set cs place y) place ≡ Some child → y ≡ child
read_set [] place y child at = cc
read_set (c ∷ cs) zero y child at = same_Some y child at
read_set (c ∷ cs) (suc place) y child at = read_set cs place y child at

-- one child changes, at a moment that may be later
pub settled_set : (pairs : List (GroupSpec × Spec)) (cs : List Child) (unsettled : Unsettled) (at later place : ℕ)
    (group : GroupSpec) (spec : Spec) (y : Child)
    → slice_get pairs place ≡ Some (group, spec) → at ≤ later
    → AreSettled pairs cs unsettled at
    → AreSettled pairs (slice_set cs place y) (unsettled_by (is_settled spec y later) unsettled place) later
settled_set pairs cs unsettled at later place group spec y here order settled other pair child is_pair is_child known =
    by (nat_eq place other) refl where
      by : (b : Bool) → nat_eq place other ≡ b → is_settled pair.1 child later ≡ true
      by false e =
          let apart : place ≡ other → ⊥ = eqb-false place other e in
          settled_later pair.1 child at later
          (settled other pair child is_pair (sym (set_elsewhere cs place other y apart) ∙ is_child)
          (other_known (is_settled spec y later) unsettled place other apart known))
          (le-leb at later order)
      by true e =
          let same : place ≡ other = eqb-true place other e in
          let spec_is : (group, spec) ≡ pair = same_Some (group, spec) pair (sym here ∙ ap (slice_get pairs) same ∙ is_pair) in
          let child_is : y ≡ child = read_set cs place y child (ap (slice_get (slice_set cs place y)) same ∙ is_child) in
          let own : is_settled spec y later ≡ true =
          own_known (is_settled spec y later) unsettled place
          (ap (may_be (unsettled_by (is_settled spec y later) unsettled place)) same ∙ known) in
          ap (λ (p : GroupSpec × Spec). is_settled p.1 child later) (sym spec_is)
          ∙ ap (λ (c : Child). is_settled spec c later) (sym child_is) ∙ own

-- each child has its place
pub agenda_count : (pairs : List (GroupSpec × Spec)) (cs : List Child) (watch : Watch) → Watches pairs cs watch
    → length watch.agenda ≡ length cs
agenda_count pairs cs watch w = ap length w.agenda ∙ wakes_count pairs cs

-- what is known after a change
pub watched : (pairs : List (GroupSpec × Spec)) (cs : List Child) (old new : Watch) (place now : ℕ) (group : GroupSpec) (spec : Spec) (y : Child)
    → slice_get pairs place ≡ Some (group, spec)
    → new.agenda ≡ slice_set old.agenda place (wake_moment spec y)
    → new.at ≡ max old.at now
    → new.unsettled ≡ (if is_settled spec y new.at then but_not old.unsettled place else and_also old.unsettled place)
    → Watches pairs cs old → Watches pairs (slice_set cs place y) new
watched pairs cs old new place now group spec y here agenda at unsettled w = record {
  agenda = agenda ∙ ap (λ (ws : List (Option ℕ)). slice_set ws place (wake_moment spec y)) w.agenda
      ∙ wakes_set pairs cs place (group, spec) y here;
  settled = subst (λ (u : Unsettled). AreSettled pairs (slice_set cs place y) u new.at)
      (sym (unsettled ∙ by_test (is_settled spec y new.at)))
      (settled_set pairs cs old.unsettled old.at new.at place group spec y here (omega (arith, at)) w.settled);
} where
  by_test : (b : Bool) → (if b then but_not old.unsettled place else and_also old.unsettled place) ≡ unsettled_by b old.unsettled place
  by_test true = refl
  by_test false = refl

-- ---- all are rewound

-- the processes of a roster, without their groups
own_of : (g : GroupSpec) (ms : List Spec) → map (λ (p : GroupSpec × Spec). p.1) (map (λ (m : Spec). (g, m)) ms) ≡ ms
own_of g [] = refl
own_of g (m ∷ ms) = ap (λ (xs : List Spec). m ∷ xs) (own_of g ms)

pub processes_are : (gs : List GroupSpec) → processes gs ≡ map (λ (p : GroupSpec × Spec). p.1) (pairs_of gs)
processes_are [] = refl
processes_are (g ∷ gs) =
    ap (λ (xs : List Spec). g.members ++ xs) (processes_are gs)
    ∙ ap (λ (xs : List Spec). xs ++ map (λ (p : GroupSpec × Spec). p.1) (pairs_of gs)) (sym (own_of g g.members))
    ∙ sym (map-append (λ (p : GroupSpec × Spec). p.1) (pairs_in g) (pairs_of gs))

-- each is settled then
rewound_all_settled : (pairs : List (GroupSpec × Spec)) (cs : List Child) (at place : ℕ) (pair : GroupSpec × Spec) (child : Child)
    → slice_get pairs place ≡ Some pair
    → slice_get (all_rewound at (map (λ (p : GroupSpec × Spec). p.1) pairs) cs) place ≡ Some child
    → is_settled pair.1 child at ≡ true
rewound_all_settled pairs [] at place pair child here there = cc
rewound_all_settled [] (c ∷ cs) at place pair child here there = cc
rewound_all_settled (p ∷ ps) (c ∷ cs) at zero pair child here there =
    ap (λ (q : GroupSpec × Spec). is_settled q.1 child at) (sym (same_Some p pair here))
    ∙ ap (λ (x : Child). is_settled p.1 x at) (sym (same_Some (rewound p.1 c at) child there))
    ∙ rewound_settled p.1 c at
rewound_all_settled (p ∷ ps) (c ∷ cs) at (suc place) pair child here there = rewound_all_settled ps cs at place pair child here there

pub all_settled : (gs : List GroupSpec) (cs all : List Child) (at : ℕ) → all ≡ all_rewound at (processes gs) cs
    → AreSettled (pairs_of gs) all Nobody at
all_settled gs cs all at is place pair child here there known =
    rewound_all_settled (pairs_of gs) cs at place pair child here
    (ap (λ (specs : List Spec). slice_get (all_rewound at specs cs) place) (sym (processes_are gs))
    ∙ ap (λ (xs : List Child). slice_get xs place) (sym is) ∙ there)

rewound_count : (at : ℕ) (ss : List Spec) (cs : List Child) → length (all_rewound at ss cs) ≡ length cs
rewound_count at ss [] = refl
rewound_count at [] (c ∷ cs) = refl
rewound_count at (s ∷ ss) (c ∷ cs) = ap suc (rewound_count at ss cs)

pub agenda_fits : (pairs : List (GroupSpec × Spec)) (ss : List Spec) (cs all : List Child) (at : ℕ) (watch : Watch)
    → Watches pairs cs watch → all ≡ all_rewound at ss cs → length watch.agenda ≡ length all
agenda_fits pairs ss cs all at watch w is =
    ap length w.agenda ∙ wakes_count pairs cs ∙ sym (rewound_count at ss cs) ∙ ap length (sym is)

-- and where all were settled each is what it was
same_rewound : (pairs : List (GroupSpec × Spec)) (cs : List Child) (from at : ℕ) → from ≤ at
    → ((place : ℕ) (pair : GroupSpec × Spec) (child : Child) → slice_get pairs place ≡ Some pair → slice_get cs place ≡ Some child
    → is_settled pair.1 child from ≡ true)
    → all_rewound at (map (λ (p : GroupSpec × Spec). p.1) pairs) cs ≡ cs
same_rewound pairs [] from at order settled = refl
same_rewound [] (c ∷ cs) from at order settled = refl
same_rewound (p ∷ ps) (c ∷ cs) from at order settled =
    ap (λ (x : Child). x ∷ all_rewound at (map (λ (q : GroupSpec × Spec). q.1) ps) cs)
    (settled_same p.1 c at (settled_later p.1 c from at (settled 0 p c refl refl) (le-leb from at order)))
    ∙ ap (λ (xs : List Child). c ∷ xs) (same_rewound ps cs from at order (λ place. settled (suc place)))

nobody_is : (unsettled : Unsettled) (place : ℕ) → is_nobody unsettled ≡ true → may_be unsettled place ≡ false
nobody_is Nobody place e = refl
nobody_is (One own) place e = cc
nobody_is Several place e = cc

pub stays_same : (gs : List GroupSpec) (cs : List Child) (watch : Watch) (at : ℕ)
    → (is_nobody watch.unsettled && nat_le watch.at at) ≡ true
    → Watches (pairs_of gs) cs watch → cs ≡ all_rewound at (processes gs) cs
stays_same gs cs watch at e w =
    let parts = and_parts (is_nobody watch.unsettled) (nat_le watch.at at) e in
    sym (ap (λ (specs : List Spec). all_rewound at specs cs) (processes_are gs)
    ∙ same_rewound (pairs_of gs) cs watch.at at (leb-true watch.at at parts.1)
    (λ place pair child here there. w.settled place pair child here there (nobody_is watch.unsettled place parts.0)))

-- none was ever started
new_settled : (n place now : ℕ) (spec : Spec) (child : Child) → slice_get (replicate n new_child) place ≡ Some child
    → is_settled spec child now ≡ true
new_settled zero place now spec child at = cc
new_settled (suc n) zero now spec child at =
    ap (λ (c : Child). is_settled spec c now) (sym (same_Some new_child child at))
new_settled (suc n) (suc place) now spec child at = new_settled n place now spec child at

pub new_are_settled : (pairs : List (GroupSpec × Spec)) (cs : List Child) (n now : ℕ) → cs ≡ replicate n new_child
    → AreSettled pairs cs Nobody now
new_are_settled pairs cs n now is place pair child here there known =
    new_settled n place now pair.1 child (ap (λ (xs : List Child). slice_get xs place) (sym is) ∙ there)

pub crew_stays : (gs : List GroupSpec) (cs : List Child) (watch : Watch) (at : ℕ) (crew : Crew)
    → record { roster = gs; all = cs } ≡ crew
    → (is_nobody watch.unsettled && nat_le watch.at at) ≡ true
    → Watches (pairs_of gs) cs watch → crew ≡ crew_rewound at crew
crew_stays gs cs watch at crew view e w =
    subst (λ (k : Crew). k ≡ crew_rewound at k) view
    (ap (λ (xs : List Child). record { roster = gs; all = xs }) (stays_same gs cs watch at e w))
