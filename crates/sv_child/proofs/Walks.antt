-- Each row of the child table, and so each life, is a walk through the diagram.
use Rattle.std.proofs.Common.{◌≡◌, ◌&&◌, ◌++◌, ◌∷◌, [], Bool, List, None, Option, Some, false, if◌then◌else◌, refl, subst, sym, true, ℕ}
use Rattle.sv_base.specs.declared.spec.Spec.{Spec}
use Rattle.sv_base.specs.declared.state.Mood.{Mood}
use Rattle.sv_base.specs.declared.state.State.{State}
use Rattle.sv_base.specs.declared.state.State.TheVariants.{Stopped, Starting, Running, Backoff, Stopping, Exited, Fatal}
use Rattle.sv_child.specs.ChildTable.{Stimulus, row}
use Rattle.sv_child.specs.ChildTable.Stimulus.{Start, Stop, Spawned, Spawn_failed, Ended, Time}
use Rattle.sv_child.specs.Diagram.{IsWalk}
use Rattle.sv_child.specs.Life.{Happening, befalls, child_after, edges_of}
use Rattle.sv_child.specs.Life.Happening.{Stimulated, Rewound}
use Rattle.sv_child.specs.Moves.{Answer, backs_off, entered, exited, exited_too_quickly, goes, has_tired, is_first_start, is_killed, is_reached, is_running, leads_over, nothing, restarts, starts}
use Rattle.sv_child.specs.declared.child.Child.{Child}
use Rattle.sv_child.specs.declared.step.Edge.{Edge}

-- an answer's edges lead from this state to the child's
abbrev pub Walks : State → Answer → Type 0
Walks state answer = IsWalk state answer.step.edges answer.child.state

pub walk_if : (state : State) (b : Bool) (x y : Answer) → Walks state x → Walks state y → Walks state (if b then x else y)
walk_if state true x y one other = one
walk_if state false x y one other = other

pub walk_row : (stimulus : Stimulus) (state : State) (spec : Spec) (child : Child) (mood : Mood) (now : ℕ) → child.state ≡ state → Walks state (row stimulus state spec child mood now)
walk_row Start Stopped spec child mood now e = (refl, tt, refl)
walk_row Start Exited spec child mood now e = (refl, tt, refl)
walk_row Start Fatal spec child mood now e = (refl, tt, refl)
walk_row Stop Starting spec child mood now e = (refl, tt, refl)
walk_row Stop Running spec child mood now e = (refl, tt, refl)
walk_row Stop Backoff spec child mood now e = (refl, tt, refl)
walk_row (Spawned run pid) Starting spec child mood now e = sym e
walk_row (Spawn_failed fault) Starting spec child mood now e = (refl, tt, refl)
walk_row (Ended how) Starting spec child mood now e =
    walk_if Starting (is_reached child.deadline now) (record {
      child = entered (entered (exited child how now) Running) Exited;
      step = leads_over Starting Running Exited;
    }) (backs_off (exited child how now) exited_too_quickly now) (refl, tt, (refl, tt, refl)) (refl, tt, refl)
walk_row (Ended how) Running spec child mood now e = (refl, tt, refl)
walk_row (Ended how) Stopping spec child mood now e = (refl, tt, refl)
walk_row Time Stopped spec child mood now e =
    walk_if Stopped (is_first_start spec child && is_running mood) (starts Stopped child now) (nothing child) (refl, tt, refl) (sym e)
walk_row Time Starting spec child mood now e =
    walk_if Starting (is_reached child.deadline now) (goes Starting child Running) (nothing child) (refl, tt, refl) (sym e)
walk_row Time Backoff spec child mood now e =
    walk_if Backoff (has_tired spec child) (goes Backoff child Fatal) (if is_reached child.deadline now && is_running mood then starts Backoff child now else nothing child) (refl, tt, refl) (walk_if Backoff (is_reached child.deadline now && is_running mood) (starts Backoff child now) (nothing child) (refl, tt, refl) (sym e))
walk_row Time Stopping spec child mood now e =
    walk_if Stopping (is_reached child.deadline now) (is_killed spec child now) (nothing child) (sym e) (sym e)
walk_row Time Exited spec child mood now e =
    walk_if Exited (is_running mood && restarts spec child) (starts Exited child now) (nothing child) (refl, tt, refl) (sym e)
walk_row stimulus state spec child mood now e = sym e

-- what befalls a child is a walk
pub walk_of : (spec : Spec) (child : Child) (happening : Happening) → Walks child.state (befalls spec child happening)
walk_of spec child (Stimulated stimulus mood now) = walk_row stimulus child.state spec child mood now refl
walk_of spec child (Rewound now) = refl

-- two walks, one after the other
pub walk_append : (from by to : State) (one other : List (Option Edge)) → IsWalk from one by → IsWalk by other to → IsWalk from (one ++ other) to
walk_append from by to [] other e w = let P : State → Type 0 = λ s. IsWalk s other to in subst P (sym e) w
walk_append from by to (None ∷ one) other v w = walk_append from by to one other v w
walk_append from by to (Some edge ∷ one) other v w = (v.0, v.1, walk_append edge.to by to one other v.2 w)

-- a life is a walk
pub walk_life : (spec : Spec) (child : Child) (happenings : List Happening) → IsWalk child.state (edges_of spec child happenings) (child_after spec child happenings).state
walk_life spec child [] = refl
walk_life spec child (h ∷ hs) =
    walk_append child.state (befalls spec child h).child.state (child_after spec (befalls spec child h).child hs).state (befalls spec child h).step.edges (edges_of spec (befalls spec child h).child hs) (walk_of spec child h) (walk_life spec (befalls spec child h).child hs)
