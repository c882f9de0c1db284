-- Who is next to have woken, by the moments at which the children wake.
use Rattle.std.proofs.Common.{◌≡◌, ℕ, zero, suc, ◌+◌, ◌<◌, ◌≤◌, List, [], ◌∷◌, Bool, true, false, Option, None, Some, length, if◌then◌else◌, arith, refl, sym, ap, subst, ◌∙◌}
use Rattle.std.specs.Prelude.{MatchOption, nat_le, slice_get}
use Rattle.std.proofs.lemmas.Bool.{le-leb, leb-false, leb-true}
use Rattle.std.proofs.lemmas.Option.{same_Some}
use Rattle.sv_base.specs.declared.ids.ChildId.{ChildId}
use Rattle.sv_base.specs.declared.spec.GroupSpec.{GroupSpec}
use Rattle.sv_base.specs.declared.spec.Spec.{Spec}
use Rattle.sv_child.specs.Moves.{is_reached}
use Rattle.sv_children.specs.Wake.{wake_moment}
use Rattle.sv_child.specs.declared.child.Child.{Child}
use Rattle.sv_children.proofs.Watching.{wakes_count}
use Rattle.sv_children.specs.Awake.{IsNextAwake, NoneAwake, is_member_awake, place_of, wakes_of}
use Rattle.sv_children.specs.Crew.{Crew, Member, member_at, member_of}
use Rattle.sv_groups.specs.StartOrder.{pairs_of}
use Rattle.sv_timers.specs.Deadlines.{due_from, is_due}
use Rattle.sv_timers.specs.NextDue.{next_due, next_in}

-- ---- along a list of deadlines

-- what stands in a place, if one does
abbrev pub entry : Option (Option ℕ) → Option ℕ
entry None = None
entry (Some deadline) = deadline

nothing_is : (x : ChildId) → Some x ≡ None → ⊥
nothing_is x e = cc

not_none : (from : ℕ) (x : ChildId) (xs : List ChildId) → from ≤ x.0 → next_in from (x ∷ xs) ≡ None → ⊥
not_none from x xs there e = nothing_is x (rw (le-leb from x.0 there) at e)

none_left : (from : ℕ) (x : ChildId) (xs : List ChildId) → next_in from (x ∷ xs) ≡ None → next_in from xs ≡ None
none_left from x xs e = by (nat_le from x.0) e where
  by : (b : Bool) → (if b then Some x else next_in from xs) ≡ None → next_in from xs ≡ None
  by true e = absurd (nothing_is x e)
  by false e = e

nobody_due : (first from now : ℕ) (ds : List (Option ℕ)) → next_in from (due_from first now ds) ≡ None
    → (i : ℕ) → from ≤ first + i → is_due (entry (slice_get ds i)) now ≡ false
nobody_due first from now [] none i order = refl
nobody_due first from now (d ∷ ds) none zero order = by (is_due d now) none where
  by : (b : Bool) → next_in from (if b then record { 0 = first } ∷ due_from (first + 1) now ds else due_from (first + 1) now ds) ≡ None
      → b ≡ false
  by true e = absurd (not_none from (record { 0 = first }) (due_from (first + 1) now ds) (omega (arith, order)) e)
  by false e = refl
nobody_due first from now (d ∷ ds) none (suc i) order =
    nobody_due (first + 1) from now ds (by (is_due d now) none) i (omega (arith, order)) where
      by : (b : Bool) → next_in from (if b then record { 0 = first } ∷ due_from (first + 1) now ds else due_from (first + 1) now ds) ≡ None
          → next_in from (due_from (first + 1) now ds) ≡ None
      by true e = none_left from (record { 0 = first }) (due_from (first + 1) now ds) e
      by false e = e

-- where the first that is due stands
record Found (first from now : ℕ) (ds : List (Option ℕ)) (place : ℕ) : Type 0 where
  offset : ℕ
  at : place ≡ first + offset
  within : offset < length ds
  after : from ≤ place
  due : is_due (entry (slice_get ds offset)) now ≡ true
  before : (i : ℕ) → from ≤ first + i → i < offset → is_due (entry (slice_get ds i)) now ≡ false

-- one place further
further : (first from now place : ℕ) (d : Option ℕ) (ds : List (Option ℕ)) → (from ≤ first → is_due d now ≡ false)
    → Found (first + 1) from now ds place → Found first from now (d ∷ ds) place
further first from now place d ds none f = record {
  offset = suc f.offset;
  at = omega (arith, f.at);
  within = omega (arith, f.within);
  after = f.after;
  due = f.due;
  before = earlier;
} where
  earlier : (i : ℕ) → from ≤ first + i → i < suc f.offset → is_due (entry (slice_get (d ∷ ds) i)) now ≡ false
  earlier zero order before = none (omega (arith, order))
  earlier (suc i) order before = f.before i (omega (arith, order)) (omega (arith, before))

someone_due : (first from now : ℕ) (ds : List (Option ℕ)) (c : ChildId) → next_in from (due_from first now ds) ≡ Some c
    → Found first from now ds c.0
someone_due first from now [] c is = cc
someone_due first from now (d ∷ ds) c is =
    by_due (is_due d now) refl (λ next. someone_due (first + 1) from now ds c next) is where
      by_due : (b : Bool) → is_due d now ≡ b
          → (next_in from (due_from (first + 1) now ds) ≡ Some c → Found (first + 1) from now ds c.0)
          → next_in from (if b then record { 0 = first } ∷ due_from (first + 1) now ds else due_from (first + 1) now ds) ≡ Some c
          → Found first from now (d ∷ ds) c.0
      by_due false e others is = further first from now c.0 d ds (λ order. e) (others is)
      by_due true e others is = by_place (nat_le from first) refl is where
        by_place : (b : Bool) → nat_le from first ≡ b
            → (if b then Some (record { 0 = first }) else next_in from (due_from (first + 1) now ds)) ≡ Some c
            → Found first from now (d ∷ ds) c.0
        by_place true l is =
            let same : first ≡ c.0 = ap (λ (x : ChildId). x.0) (same_Some (record { 0 = first }) c is) in
            record {
              offset = 0;
              at = omega (arith, same);
              within = omega arith;
              after = omega (arith, same, leb-true from first l);
              due = e;
              before = λ i order before. absurd (omega (arith, before));
            }
        by_place false l is =
            further first from now c.0 d ds (λ order. absurd (omega (arith, order, leb-false from first l))) (others is)

-- ---- along the children

-- when a child wakes, if it is there
abbrev pub wake_of : Option Member → Option ℕ
wake_of None = None
wake_of (Some m) = wake_moment m.spec m.child

no_member : (pair : Option (GroupSpec × Spec)) → None ≡ wake_of (member_of pair None)
no_member None = refl
no_member (Some pair) = refl

wakes_entry : (pairs : List (GroupSpec × Spec)) (cs : List Child) (i : ℕ)
    → entry (slice_get (wakes_of pairs cs) i) ≡ wake_of (member_of (slice_get pairs i) (slice_get cs i))
wakes_entry pairs [] i = no_member (slice_get pairs i)
wakes_entry [] (c ∷ cs) zero = refl
wakes_entry [] (c ∷ cs) (suc i) = wakes_entry [] cs i
wakes_entry (p ∷ ps) (c ∷ cs) zero = refl
wakes_entry (p ∷ ps) (c ∷ cs) (suc i) = wakes_entry ps cs i

same_test : (deadline : Option ℕ) (now : ℕ) → is_due deadline now ≡ is_reached deadline now
same_test None now = refl
same_test (Some at) now = refl

awake_is : (m : Option Member) (now : ℕ) → is_due (wake_of m) now ≡ is_member_awake m now
awake_is None now = refl
awake_is (Some m) now = same_test (wake_moment m.spec m.child) now

due_is : (now : ℕ) (crew : Crew) (i : ℕ)
    → is_due (entry (slice_get (wakes_of (pairs_of crew.roster) crew.all) i)) now ≡ is_member_awake (member_at crew i) now
due_is now crew i =
    ap (λ (o : Option ℕ). is_due o now) (wakes_entry (pairs_of crew.roster) crew.all i) ∙ awake_is (member_at crew i) now

-- ---- the next one

pub awake_none : (now : ℕ) (crew : Crew) (from : ℕ) (wakes : List (Option ℕ)) → wakes ≡ wakes_of (pairs_of crew.roster) crew.all
    → None ≡ next_due from now wakes → (to : ℕ) → NoneAwake now crew from to
awake_none now crew from wakes is none to place order within =
    sym (due_is now crew place)
    ∙ nobody_due 0 from now (wakes_of (pairs_of crew.roster) crew.all) (ap (next_due from now) (sym is) ∙ sym none) place (omega (arith, order))

pub awake_some : (now : ℕ) (crew : Crew) (from : ℕ) (wakes : List (Option ℕ)) (child : ChildId)
    → wakes ≡ wakes_of (pairs_of crew.roster) crew.all
    → Some child ≡ next_due from now wakes → IsNextAwake now crew from child.0
awake_some now crew from wakes child is some =
    let f : Found 0 from now (wakes_of (pairs_of crew.roster) crew.all) child.0 =
    someone_due 0 from now (wakes_of (pairs_of crew.roster) crew.all) child (ap (next_due from now) (sym is) ∙ sym some) in
    let here : f.offset ≡ child.0 = omega (arith, f.at) in
    record {
      after = f.after;
      within = omega (arith, f.within, f.at, wakes_count (pairs_of crew.roster) crew.all);
      awake = sym (due_is now crew child.0)
          ∙ ap (λ i. is_due (entry (slice_get (wakes_of (pairs_of crew.roster) crew.all) i)) now) (sym here) ∙ f.due;
      before = λ place order below. sym (due_is now crew place) ∙ f.before place (omega (arith, order)) (omega (arith, below, f.at));
    }

pub awake_next : (now : ℕ) (inside crew : Crew) (from : ℕ) (wakes : List (Option ℕ)) (found : Option ChildId) (place : Option ℕ)
    → inside ≡ crew → wakes ≡ wakes_of (pairs_of inside.roster) inside.all
    → found ≡ next_due from now wakes → place ≡ place_of found
    → MatchOption place ((to : ℕ) → NoneAwake now crew from to) (λ at. IsNextAwake now crew from at)
awake_next now inside crew from wakes found place view is next told =
    subst (λ (k : Crew). MatchOption place ((to : ℕ) → NoneAwake now k from to) (λ at. IsNextAwake now k from at)) view
    (subst (λ (p : Option ℕ). MatchOption p ((to : ℕ) → NoneAwake now inside from to) (λ at. IsNextAwake now inside from at)) (sym told)
    (by_found found next)) where
      by_found : (f : Option ChildId) → f ≡ next_due from now wakes
          → MatchOption (place_of f) ((to : ℕ) → NoneAwake now inside from to) (λ at. IsNextAwake now inside from at)
      by_found None e = awake_none now inside from wakes is e
      by_found (Some child) e = awake_some now inside from wakes child is e
