-- What the step of one child reports of each child is a walk through the diagram.
use Rattle.std.proofs.Common.{◌≡◌, ℕ, zero, suc, List, [], ◌∷◌, Bool, true, false, ◌&&◌, Option, Some, None, refl, subst, sym, ◌∙◌}
use Rattle.std.specs.Prelude.{nat_eq, replicate, slice_get, slice_set}
use Rattle.std.specs.Str.{bytes_eq}
use Rattle.std.proofs.lemmas.Bool.{eqb-true, eqb-false}
use Rattle.std.proofs.lemmas.Option.{same_Some}
use Rattle.std.proofs.lemmas.Slice.Eq.{bytes_eq-Decides}
use Rattle.sv_base.specs.Roster.{is_roster}
use Rattle.sv_base.specs.declared.ids.Run.{Run}
use Rattle.sv_base.specs.declared.signal.Signal.{Signal}
use Rattle.sv_base.specs.declared.spec.GroupSpec.{GroupSpec}
use Rattle.sv_base.specs.declared.spec.Spec.{Spec}
use Rattle.sv_base.specs.declared.state.Mood.{Mood}
use Rattle.sv_base.specs.declared.state.State.{State}
use Rattle.sv_base.specs.declared.state.State.TheVariants.{Stopped}
use Rattle.sv_child.proofs.Walks.{walk_row}
use Rattle.sv_child.specs.ChildTable.{Stimulus, happens}
use Rattle.sv_child.specs.Diagram.{IsWalk}
use Rattle.sv_child.specs.Moves.{Answer, new_child}
use Rattle.sv_child.specs.declared.child.Child.{Child}
use Rattle.sv_child.specs.declared.step.Edge.{Edge}
use Rattle.sv_children.proofs.Apart.{only_in_roster}
use Rattle.sv_children.proofs.Places.{set_elsewhere, set_here}
use Rattle.sv_children.specs.Crew.{Crew, member_of}
use Rattle.sv_children.specs.News.{moved, said, said_at, said_to}
use Rattle.sv_children.specs.Orders.{kill, kill_at, kill_of, reports, reports_at}
use Rattle.sv_children.specs.Reported.{edges_told, state_at, state_of}
use Rattle.sv_children.specs.Rewound.{all_rewound}
use Rattle.sv_groups.specs.StartOrder.{pairs_of}

-- ---- reports of one child and of another

pub both_not : (a b : Bool) → (a ≡ true → b ≡ true → ⊥) → (a && b) ≡ false
both_not true true not_both = absurd (not_both refl refl)
both_not true false not_both = refl
both_not false b not_both = refl

pub same_bytes : (bytes : List ℕ) → bytes_eq bytes bytes ≡ true
same_bytes bytes = (bytes_eq-Decides bytes bytes).1 refl

-- what is reported of a child is a walk where its edges are
told_own : (group name : List ℕ) (from to : State) (edges : List (Option Edge)) → IsWalk from edges to
    → IsWalk from (edges_told group name (reports group name edges)) to
told_own group name from to [] w = w
told_own group name from to (None ∷ edges) w = told_own group name from to edges w
told_own group name from to (Some edge ∷ edges) w =
    rw (same_bytes group, same_bytes name) (w.0, w.1, told_own group name edge.to to edges w.2)

-- what is reported of another child says nothing of this one
told_other : (own_group own_name group name : List ℕ) (state : State) (edges : List (Option Edge))
    → (own_group ≡ group → own_name ≡ name → ⊥)
    → IsWalk state (edges_told group name (reports own_group own_name edges)) state
told_other own_group own_name group name state [] other = refl
told_other own_group own_name group name state (None ∷ edges) other = told_other own_group own_name group name state edges other
told_other own_group own_name group name state (Some edge ∷ edges) other =
    let test : (bytes_eq own_group group && bytes_eq own_name name) ≡ false =
    both_not (bytes_eq own_group group) (bytes_eq own_name name)
    (λ same_group same_name. other ((bytes_eq-Decides own_group group).0 same_group) ((bytes_eq-Decides own_name name).0 same_name)) in
    rw test (told_other own_group own_name group name state edges other)

-- a signal reports nothing
told_by_run : (child : Option Child) (signal : Signal) (all : Bool) (group name : List ℕ) (state : State)
    → IsWalk state (edges_told group name (kill_of child signal all)) state
told_by_run None signal all group name state = refl
told_by_run (Some child) signal all group name state = by_run child.run where
  by_run : (run : Option Run) → IsWalk state (edges_told group name (kill run signal all)) state
  by_run None = refl
  by_run (Some run) = refl

pub told_kill : (crew : Crew) (c : ℕ) (signal : Signal) (all : Bool) (group name : List ℕ) (state : State)
    → IsWalk state (edges_told group name (kill_at crew c signal all)) state
told_kill crew c signal all group name state = told_by_run (slice_get crew.all c) signal all group name state

-- ---- one child is written

-- what is known of a child to which the table said something
record Known (crew : Crew) (c : ℕ) (answer : Answer) : Type 0 where
  pair : GroupSpec × Spec
  child : Child
  at_pair : slice_get (pairs_of crew.roster) c ≡ Some pair
  at_child : slice_get crew.all c ≡ Some child
  walk : IsWalk child.state answer.step.edges answer.child.state

known_by : (pair : Option (GroupSpec × Spec)) (child : Option Child) (stimulus : Child → Option Stimulus) (mood : Mood) (now : ℕ)
    (crew : Crew) (c : ℕ) (answer : Answer)
    → slice_get (pairs_of crew.roster) c ≡ pair → slice_get crew.all c ≡ child
    → said_to stimulus (member_of pair child) mood now ≡ Some answer → Known crew c answer
known_by None child stimulus mood now crew c answer is_pair is_child is = cc
known_by (Some pair) None stimulus mood now crew c answer is_pair is_child is = cc
known_by (Some pair) (Some child) stimulus mood now crew c answer is_pair is_child is = by_stimulus (stimulus child) is where
  by_stimulus : (s : Option Stimulus) → said s pair.1 child mood now ≡ Some answer → Known crew c answer
  by_stimulus None is = cc
  by_stimulus (Some s) is =
      let same : happens pair.1 child s mood now ≡ answer = same_Some (happens pair.1 child s mood now) answer is in
      record {
        pair = pair;
        child = child;
        at_pair = is_pair;
        at_child = is_child;
        walk = subst (λ (a : Answer). IsWalk child.state a.step.edges a.child.state) same
            (walk_row s child.state pair.1 child mood now refl);
      }

moved_here : (cs : List Child) (c : ℕ) (x n : Child) (edges : List (Option Edge)) (group name : List ℕ) → slice_get cs c ≡ Some x
    → IsWalk x.state edges n.state
    → IsWalk (state_of (slice_get cs c)) (edges_told group name (reports group name edges)) (state_of (slice_get (slice_set cs c n) c))
moved_here cs c x n edges group name there walk =
    rw (there, set_here cs c x n there) (told_own group name x.state n.state edges walk)

moved_known : (crew : Crew) (c place : ℕ) (answer : Answer) (p : GroupSpec × Spec) → Known crew c answer
    → is_roster crew.roster ≡ true → slice_get (pairs_of crew.roster) place ≡ Some p
    → IsWalk (state_at crew place) (edges_told p.0.name p.1.name (reports_at crew c answer.step.edges))
    (state_at (moved c (Some answer) crew) place)
moved_known crew c place answer p k roster is = rw k.at_pair (by_place (nat_eq c place) refl) where
  Walks : ℕ → GroupSpec × Spec → Type 0
  Walks at q =
      IsWalk (state_of (slice_get crew.all at)) (edges_told q.0.name q.1.name (reports k.pair.0.name k.pair.1.name answer.step.edges))
      (state_of (slice_get (slice_set crew.all c answer.child) at))

  here : slice_get (pairs_of crew.roster) c ≡ Some p → Walks c p
  here at =
      subst (λ q. Walks c q) (same_Some k.pair p (sym k.at_pair ∙ at))
      (moved_here crew.all c k.child answer.child answer.step.edges k.pair.0.name k.pair.1.name k.at_child k.walk)

  by_place : (b : Bool) → nat_eq c place ≡ b → Walks place p
  by_place true e = subst (λ at. slice_get (pairs_of crew.roster) at ≡ Some p → Walks at p) (eqb-true c place e) here is
  by_place false e =
      rw (set_elsewhere crew.all c place answer.child (eqb-false c place e))
      (told_other k.pair.0.name k.pair.1.name p.0.name p.1.name (state_of (slice_get crew.all place)) answer.step.edges
      (λ group name. eqb-false c place e (only_in_roster crew.roster place c p k.pair roster is k.at_pair group name)))

-- the step of one child, as it is reported, is a walk of each
pub moved_walk : (stimulus : Child → Option Stimulus) (mood : Mood) (now : ℕ) (crew : Crew) (c place : ℕ) (answer : Answer) (p : GroupSpec × Spec)
    → said_at stimulus c mood now crew ≡ Some answer
    → is_roster crew.roster ≡ true → slice_get (pairs_of crew.roster) place ≡ Some p
    → IsWalk (state_at crew place) (edges_told p.0.name p.1.name (reports_at crew c answer.step.edges))
    (state_at (moved c (Some answer) crew) place)
moved_walk stimulus mood now crew c place answer p is roster at =
    moved_known crew c place answer p
    (known_by (slice_get (pairs_of crew.roster) c) (slice_get crew.all c) stimulus mood now crew c answer refl refl is) roster at

-- ---- all children are rewound, or are new

pub state_rewound : (at : ℕ) (specs : List Spec) (cs : List Child) (place : ℕ)
    → state_of (slice_get (all_rewound at specs cs) place) ≡ state_of (slice_get cs place)
state_rewound at [] [] place = refl
state_rewound at (s ∷ ss) [] place = refl
state_rewound at [] (c ∷ cs) place = refl
state_rewound at (s ∷ ss) (c ∷ cs) zero = refl
state_rewound at (s ∷ ss) (c ∷ cs) (suc place) = state_rewound at ss cs place

pub state_new : (n place : ℕ) → state_of (slice_get (replicate n new_child) place) ≡ Stopped
state_new zero place = refl
state_new (suc n) zero = refl
state_new (suc n) (suc place) = state_new n place
