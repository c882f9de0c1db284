-- Children that are rewound to a moment once more stay as they are, and each keeps its state and its run.
use Rattle.std.proofs.Common.{◌≡◌, ℕ, zero, suc, ◌-◌, ◌&&◌, List, [], ◌∷◌, Bool, true, Option, Some, drop, take, ◌∙◌, refl, ap, subst}
use Rattle.std.specs.Prelude.{slice_get}
use Rattle.std.specs.List.{list_all}
use Rattle.std.proofs.lemmas.Option.{same_Some}
use Rattle.sv_base.specs.declared.ids.Run.{Run}
use Rattle.sv_base.specs.declared.spec.Spec.{Spec}
use Rattle.sv_base.specs.declared.state.State.{State}
use Rattle.sv_child.specs.Moves.{is_at_rest}
use Rattle.sv_child.specs.Rewind.{rewound}
use Rattle.sv_child.specs.declared.child.Child.{Child}
use Rattle.sv_children.proofs.Waking.{rewound_settled, settled_same}
use Rattle.sv_children.specs.Crew.{Crew}
use Rattle.sv_children.specs.Rewound.{all_rewound, crew_rewound}
use Rattle.sv_children.specs.Spans.{are_at_rest}
use Rattle.sv_cut_laws.proofs.HaveRuns.{HaveRuns, has_run}
use Rattle.sv_groups.specs.StartOrder.{processes}
use Rattle.sv_groups.specs.declared.order.Span.{Span}

-- each of these children has the state and the run of the one in its place
abbrev pub SameChildren : List Child → List Child → Type 0
SameChildren [] [] = Unit {0}
SameChildren [] (y ∷ ys) = ⊥
SameChildren (x ∷ xs) [] = ⊥
SameChildren (x ∷ xs) (y ∷ ys) = ((y.state ≡ x.state) × (y.run ≡ x.run)) × SameChildren xs ys

same_all : (xs : List Child) → SameChildren xs xs
same_all [] = tt
same_all (x ∷ xs) = ((refl, refl), same_all xs)

rewound_all : (at : ℕ) (ss : List Spec) (cs : List Child) → SameChildren cs (all_rewound at ss cs)
rewound_all at [] [] = tt
rewound_all at (s ∷ ss) [] = tt
rewound_all at [] (c ∷ cs) = ((refl, refl), same_all cs)
rewound_all at (s ∷ ss) (c ∷ cs) = ((refl, refl), rewound_all at ss cs)

pub same_crew : (at : ℕ) (crew : Crew) → SameChildren crew.all (crew_rewound at crew).all
same_crew at crew = rewound_all at (processes crew.roster) crew.all

twice : (at : ℕ) (ss : List Spec) (cs : List Child) → all_rewound at ss (all_rewound at ss cs) ≡ all_rewound at ss cs
twice at [] [] = refl
twice at (s ∷ ss) [] = refl
twice at [] (c ∷ cs) = refl
twice at (s ∷ ss) (c ∷ cs) =
    ap (λ (x : Child). x ∷ all_rewound at ss (all_rewound at ss cs)) (settled_same s (rewound s c at) at (rewound_settled s c at))
    ∙ ap (λ (xs : List Child). rewound s c at ∷ xs) (twice at ss cs)

pub rewound_twice : (at : ℕ) (crew : Crew) → crew_rewound at (crew_rewound at crew) ≡ crew_rewound at crew
rewound_twice at crew = ap (λ (cs : List Child). record crew { all = cs }) (twice at (processes crew.roster) crew.all)

-- ---- what depends on states and runs alone

drop_same : (n : ℕ) (xs ys : List Child) → SameChildren xs ys → SameChildren (drop n xs) (drop n ys)
drop_same zero xs ys same = same
drop_same (suc n) [] [] same = tt
drop_same (suc n) [] (y ∷ ys) same = absurd same
drop_same (suc n) (x ∷ xs) [] same = absurd same
drop_same (suc n) (x ∷ xs) (y ∷ ys) same = drop_same n xs ys same.1

rest_same : (n : ℕ) (xs ys : List Child) → SameChildren xs ys
    → list_all (λ (c : Child). is_at_rest c.state) (take n ys) ≡ list_all (λ (c : Child). is_at_rest c.state) (take n xs)
rest_same zero xs ys same = refl
rest_same (suc n) [] [] same = refl
rest_same (suc n) [] (y ∷ ys) same = absurd same
rest_same (suc n) (x ∷ xs) [] same = absurd same
rest_same (suc n) (x ∷ xs) (y ∷ ys) same =
    ap (λ (s : State). is_at_rest s && list_all (λ (c : Child). is_at_rest c.state) (take n ys)) same.0.0
    ∙ ap (λ (b : Bool). is_at_rest x.state && b) (rest_same n xs ys same.1)

pub at_rest_same : (span : Span) (xs ys : List Child) → SameChildren xs ys → are_at_rest span ys ≡ are_at_rest span xs
at_rest_same span xs ys same = rest_same (span.to - span.from) (drop span.from xs) (drop span.from ys) (drop_same span.from xs ys same)

pub runs_same : (xs ys : List Child) → SameChildren xs ys → HaveRuns xs → HaveRuns ys
runs_same [] [] same runs = runs
runs_same [] (y ∷ ys) same runs = absurd same
runs_same (x ∷ xs) [] same runs = absurd same
runs_same (x ∷ xs) (y ∷ ys) same runs = λ place child at. by_place place child at (runs_same xs ys same.1 (λ place child at. runs (suc place) child at)) where
  by_place : (place : ℕ) (child : Child) → slice_get (y ∷ ys) place ≡ Some child → HaveRuns ys → has_run child.state child.run ≡ true
  by_place zero child at rest =
      subst (λ (c : Child). has_run c.state c.run ≡ true) (same_Some y child at)
      (ap (λ (s : State). has_run s y.run) same.0.0 ∙ ap (λ (r : Option Run). has_run x.state r) same.0.1 ∙ runs zero x refl)
  by_place (suc place) child at rest = rest place child at
