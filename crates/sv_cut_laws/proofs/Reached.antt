-- Whatever the machine is told, its children have their runs where no question stands.
use Rattle.std.proofs.Common.{◌≡◌, ◌∙◌, List, [], ◌∷◌, Bool, true, false, if◌then◌else◌, refl, sym, subst}
use Rattle.std.specs.Prelude.{is_none, not}
use Rattle.sv_core.specs.Deeds.{after}
use Rattle.sv_core.specs.Failure.{failed, failures_told, refusal}
use Rattle.sv_core.specs.MachineState.{Model, accepts, can_be_named, failure_named, hand, is_accepted, may_begin_in, next, next_part, now, turn_of}
use Rattle.sv_core.specs.Parts.{part_of}
use Rattle.sv_core.specs.Sweeps.{Turn}
use Rattle.sv_core.specs.Sweeps.Turn.{Done, Ask}
use Rattle.sv_core.specs.Turn.{asked_of, came, come, failed_at, world_of}
use Rattle.sv_core.specs.World.{World}
use Rattle.sv_core.specs.declared.failure.Failure.{Failure}
use Rattle.sv_core.specs.declared.failure.Failure.TheVariants.{NeverFails, ChangesNothing, LosesStdin, LosesLink, RefusesQuestion}
use Rattle.sv_core.specs.declared.part.Followed.{Followed}
use Rattle.sv_core.specs.declared.part.Followed.TheVariants as followed
use Rattle.sv_core.specs.declared.part.Part.{Part}
use Rattle.sv_core.specs.declared.part.Part.TheVariants.{Begins, Answers, Fails}
use Rattle.sv_core.specs.declared.part.Question.{Question}
use Rattle.sv_core.specs.declared.part.Reply.{Reply}
use Rattle.sv_cut_laws.proofs.Alike.{both, came_more}
use Rattle.sv_cut_laws.proofs.Keeps.{AllRun, Keeps, same_runs, turn_keeps}
use Rattle.sv_cut_laws.proofs.SameCrew.{failed_crew}
use Rattle.sv_out.specs.declared.input.Input.{Input}

-- where no question stands the children have their runs
pub runs_so : (t : Turn) → is_none (asked_of t) ≡ true → Keeps t → AllRun (world_of t)
runs_so (Done w) none keeps = keeps
runs_so (Ask w q k) none keeps = absurd cc

-- ---- what follows

failed_at_keeps : (failure : Failure) (w : World) (q : Question) (k : World → Reply → Turn) → Keeps (Ask w q k) → Keeps (failed_at failure w q k)
failed_at_keeps RefusesQuestion w q k keeps = keeps w refl (refusal q)
failed_at_keeps ChangesNothing w q k keeps = keeps
failed_at_keeps (LosesStdin run) w q k keeps = λ v is reply. keeps v (is ∙ failed_crew (LosesStdin run) w) reply
failed_at_keeps (LosesLink link) w q k keeps = keeps
failed_at_keeps NeverFails w q k keeps = keeps

come_keeps : (t : Turn) (f : Followed) → Keeps t → Keeps (come t f)
come_keeps (Done w) (followed.Answered reply) keeps = keeps
come_keeps (Done w) (followed.Failed failure) keeps = same_runs w (failed failure w) (failed_crew failure w) keeps
come_keeps (Ask w q k) (followed.Answered reply) keeps = keeps w refl reply
come_keeps (Ask w q k) (followed.Failed failure) keeps = failed_at_keeps failure w q k keeps

came_keeps : (t : Turn) (fs : List Followed) → Keeps t → Keeps (came t fs)
came_keeps t [] keeps = keeps
came_keeps t (f ∷ fs) keeps = came_keeps (come t f) fs (come_keeps t f keeps)

-- ---- all inputs

-- a part of a turn is accepted so
abbrev IsTaken : Model → Part → Type 0
IsTaken m part = is_accepted part (asked_of (hand m)) (may_begin_in (now m)) (can_be_named m) ≡ true

part_keeps : (m : Model) (part : Part) → IsTaken m part → Keeps (hand m) → Keeps (hand (next_part m part))
part_keeps m (Begins at cause) taken keeps =
    turn_keeps cause at (now m) (runs_so (hand m) (both (is_none (asked_of (hand m))) (may_begin_in (now m) cause) taken).0 keeps)
part_keeps m (Answers reply) taken keeps =
    subst (λ (t : Turn). Keeps t) (sym (came_more (turn_of m.begun m.base) m.followed (followed.Answered reply ∷ [])))
    (come_keeps (hand m) (followed.Answered reply) keeps)
part_keeps m (Fails number) taken keeps =
    let told = failures_told (failure_named m number) in
    subst (λ (t : Turn). Keeps t) (sym (came_more (turn_of m.begun m.base) m.followed told)) (came_keeps (hand m) told keeps)

next_keeps : (m : Model) (i : Input) → accepts m i ≡ true → Keeps (hand m) → Keeps (hand (next m i))
next_keeps m i accepted keeps =
    let taken = both (not (now m).course.halted) (is_accepted (part_of i) (asked_of (hand m)) (may_begin_in (now m)) (can_be_named m)) accepted in
    part_keeps m (part_of i) taken.1 keeps

pub after_keeps : (m : Model) (inputs : List Input) → Keeps (hand m) → Keeps (hand (after m inputs))
after_keeps m [] keeps = keeps
after_keeps m (i ∷ inputs) keeps = by_test (accepts m i) refl (after_keeps (next m i) inputs) (after_keeps m inputs keeps) where
  by_test : (b : Bool) → accepts m i ≡ b → (Keeps (hand (next m i)) → Keeps (hand (after (next m i) inputs))) → Keeps (hand (after m inputs))
      → Keeps (hand (if b then after (next m i) inputs else after m inputs))
  by_test true accepted rest left = rest (next_keeps m i accepted keeps)
  by_test false accepted rest left = left
