-- The child of a place, on the crew that the fields show.
use Rattle.std.proofs.Common.{◌≡◌, ℕ, List, ◌++◌, Bool, Option, Some, None, append-nil, refl, sym, ap, ◌∙◌}
use Rattle.std.proofs.lemmas.List.{set-get_or}
use Rattle.std.proofs.lemmas.Option.{get_or_from_slice_get}
use Rattle.std.specs.List.{slice_get, slice_set}
use Rattle.sv_base.specs.declared.signal.Signal.{Signal}
use Rattle.sv_base.specs.declared.spec.GroupSpec.{GroupSpec}
use Rattle.sv_base.specs.declared.spec.Spec.{Spec}
use Rattle.sv_base.specs.declared.state.Mood.{Mood}
use Rattle.sv_child.specs.ChildTable.{Stimulus}
use Rattle.sv_child.specs.Moves.{Answer}
use Rattle.sv_child.specs.declared.child.Child.{Child}
use Rattle.sv_child.specs.declared.step.Step.{Step}
use Rattle.sv_children.specs.Crew.{Crew, Member, member_at}
use Rattle.sv_children.specs.News.{child_after, children_after, moved, said, said_at, said_to, step_of}
use Rattle.sv_children.specs.Orders.{kill, kill_at, kill_of}
use Rattle.sv_groups.specs.StartOrder.{pairs_of}
use Rattle.sv_out.specs.declared.order.Order.{Order}

pub there : (crew : Crew) (place : ℕ) (p : GroupSpec × Spec) (x : Child)
    → slice_get (pairs_of crew.roster) place ≡ Some p → slice_get crew.all place ≡ Some x
    → member_at crew place ≡ Some (record { group = p.0; spec = p.1; child = x })
there crew place p x pair child = rw (pair, child) refl

-- ---- what is said to it

-- writing back what was there changes nothing
set_same : (children : List Child) (place : ℕ) (x : Child) → slice_get children place ≡ Some x → slice_set children place x ≡ children
set_same children place x at =
    ap (λ y. slice_set children place y) (sym (get_or_from_slice_get children place x x at)) ∙ set-get_or children place x

written : (answer : Option Answer) (place : ℕ) (children : List Child) (x : Child) → slice_get children place ≡ Some x
    → slice_set children place (child_after answer x) ≡ children_after place answer children
written None place children x at = set_same children place x at
written (Some answer) place children x at = refl

-- the child that is there is past its step
pub moved_there : (stimulus : Child → Option Stimulus) (place : ℕ) (mood : Mood) (now : ℕ) (crew : Crew) (p : GroupSpec × Spec) (x y : Child)
    → slice_get (pairs_of crew.roster) place ≡ Some p → slice_get crew.all place ≡ Some x
    → y ≡ child_after (said (stimulus x) p.1 x mood now) x
    → record crew { all = slice_set crew.all place y } ≡ moved place (said_at stimulus place mood now crew) crew
moved_there stimulus place mood now crew p x y pair child is =
    let answer = said (stimulus x) p.1 x mood now in
    let here : said_at stimulus place mood now crew ≡ answer =
    ap (λ (m : Option Member). said_to stimulus m mood now) (there crew place p x pair child) in
    ap (λ (cs : List Child). record crew { all = cs })
    (ap (slice_set crew.all place) is
    ∙ written answer place crew.all x child
    ∙ ap (λ (a : Option Answer). children_after place a crew.all) (sym here))

pub heard_there : (stimulus : Child → Option Stimulus) (place : ℕ) (mood : Mood) (now : ℕ) (crew : Crew) (p : GroupSpec × Spec) (x : Child) (step : Option Step)
    → slice_get (pairs_of crew.roster) place ≡ Some p → slice_get crew.all place ≡ Some x
    → step ≡ step_of (said (stimulus x) p.1 x mood now)
    → step ≡ step_of (said_at stimulus place mood now crew)
heard_there stimulus place mood now crew p x step pair child is =
    is ∙ ap (λ (m : Option Member). step_of (said_to stimulus m mood now)) (sym (there crew place p x pair child))

-- ---- its signal

pub none_killed : (crew : Crew) (place : ℕ) (signal : Signal) (group : Bool) (given : List Order) → slice_get crew.all place ≡ None
    → given ≡ given ++ kill_at crew place signal group
none_killed crew place signal group given is =
    sym (append-nil given) ∙ ap (λ (c : Option Child). given ++ kill_of c signal group) (sym is)

pub one_killed : (crew : Crew) (place : ℕ) (signal : Signal) (group : Bool) (given later : List Order) (x : Child)
    → slice_get crew.all place ≡ Some x
    → later ≡ given ++ kill x.run signal group
    → later ≡ given ++ kill_at crew place signal group
one_killed crew place signal group given later x is is_later =
    is_later ∙ ap (λ (c : Option Child). given ++ kill_of c signal group) (sym is)
