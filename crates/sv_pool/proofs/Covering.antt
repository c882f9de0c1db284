-- What covers what, as an answer and as a relation.
use Rattle.std.proofs.Common.{◌≡◌, ◌↔◌, ℕ, List, [], ◌∷◌, Bool, true, false, IsTrue, Option, Some, None, get_or, inl, inr, refl, sym, ap, ◌∙◌}
use Rattle.std.specs.Prelude.{◌||◌}
use Rattle.std.proofs.lemmas.Bool.{false≢true, cases_Bool, or_cases, eq-eqb, eqb-true}
use Rattle.sv_base.specs.declared.kind.Kind.{Kind}
use Rattle.sv_base.specs.declared.kind.Kind.TheVariants.{Event, ProcessState, ProcessStateStarting, ProcessStateRunning, ProcessStateBackoff, ProcessStateStopping, ProcessStateExited, ProcessStateStopped, ProcessStateFatal, ProcessStateUnknown, ProcessCommunication, ProcessCommunicationStdout, ProcessCommunicationStderr, ProcessLog, ProcessLogStdout, ProcessLogStderr, RemoteCommunication, SupervisorStateChange, SupervisorStateChangeRunning, SupervisorStateChangeStopping, Tick, Tick5, Tick60, Tick3600, ProcessGroup, ProcessGroupAdded, ProcessGroupRemoved}
use Rattle.sv_events.specs.Covers.{Covers, parent_of}
use Rattle.sv_events.proofs.CoverCases.{IsCovering, covers_one_of_three, three_ways_cover}
use Rattle.sv_pool.specs.Covering.{covers, is_parent, is_same, number_of}

-- the event types by their numbers; none has the number 0
abbrev all_kinds : List Kind
all_kinds =
    Event
    ∷ Event
    ∷ ProcessState
    ∷ ProcessStateStarting
    ∷ ProcessStateRunning
    ∷ ProcessStateBackoff
    ∷ ProcessStateStopping
    ∷ ProcessStateExited
    ∷ ProcessStateStopped
    ∷ ProcessStateFatal
    ∷ ProcessStateUnknown
    ∷ ProcessCommunication
    ∷ ProcessCommunicationStdout
    ∷ ProcessCommunicationStderr
    ∷ ProcessLog
    ∷ ProcessLogStdout
    ∷ ProcessLogStderr
    ∷ RemoteCommunication
    ∷ SupervisorStateChange
    ∷ SupervisorStateChangeRunning
    ∷ SupervisorStateChangeStopping
    ∷ Tick
    ∷ Tick5
    ∷ Tick60
    ∷ Tick3600
    ∷ ProcessGroup
    ∷ ProcessGroupAdded
    ∷ ProcessGroupRemoved
    ∷ []

found_again : (kind : Kind) → get_or all_kinds (number_of kind) Event ≡ kind
found_again Event = refl
found_again ProcessState = refl
found_again ProcessStateStarting = refl
found_again ProcessStateRunning = refl
found_again ProcessStateBackoff = refl
found_again ProcessStateStopping = refl
found_again ProcessStateExited = refl
found_again ProcessStateStopped = refl
found_again ProcessStateFatal = refl
found_again ProcessStateUnknown = refl
found_again ProcessCommunication = refl
found_again ProcessCommunicationStdout = refl
found_again ProcessCommunicationStderr = refl
found_again ProcessLog = refl
found_again ProcessLogStdout = refl
found_again ProcessLogStderr = refl
found_again RemoteCommunication = refl
found_again SupervisorStateChange = refl
found_again SupervisorStateChangeRunning = refl
found_again SupervisorStateChangeStopping = refl
found_again Tick = refl
found_again Tick5 = refl
found_again Tick60 = refl
found_again Tick3600 = refl
found_again ProcessGroup = refl
found_again ProcessGroupAdded = refl
found_again ProcessGroupRemoved = refl

same_kind : (a b : Kind) → is_same a b ≡ true → a ≡ b
same_kind a b e =
    sym (found_again a) ∙ ap (λ (n : ℕ). get_or all_kinds n Event) (eqb-true (number_of a) (number_of b) e) ∙ found_again b

is_itself : (a b : Kind) → a ≡ b → is_same a b ≡ true
is_itself a b e = eq-eqb (number_of a) (number_of b) (ap number_of e)

or_left : (a b : Bool) → a ≡ true → (a || b) ≡ true
or_left true b e = refl
or_left false b e = absurd (false≢true e)

or_right : (a b : Bool) → b ≡ true → (a || b) ≡ true
or_right true b e = refl
or_right false b e = e

parent_is : (upper : Kind) (parent : Option Kind) → is_parent upper parent ≡ true → parent ≡ Some upper
parent_is upper None e = absurd (false≢true e)
parent_is upper (Some parent) e = ap Some (sym (same_kind upper parent e))

three_ways : (upper lower : Kind) → covers upper lower ≡ true → IsCovering upper lower
three_ways upper lower e = elim (or_cases (is_same upper lower) (is_same upper Event || is_parent upper (parent_of lower)) e) [
  | inl h ↦ inl (same_kind upper lower h)
  | inr h ↦ elim (or_cases (is_same upper Event) (is_parent upper (parent_of lower)) h) [
    | inl h ↦ inr (inl (same_kind upper Event h))
    | inr h ↦ inr (inr (parent_is upper (parent_of lower) h))
  ]
]

each_way : (upper lower : Kind) → IsCovering upper lower → covers upper lower ≡ true
each_way upper lower (inl same) = or_left (is_same upper lower) _ (is_itself upper lower same)
each_way upper lower (inr (inl top)) =
    or_right (is_same upper lower) _ (or_left (is_same upper Event) _ (is_itself upper Event top))
each_way upper lower (inr (inr right)) =
    or_right (is_same upper lower) _ (or_right (is_same upper Event) _ (ap (is_parent upper) right ∙ is_itself upper upper refl))

-- who answers whether one covers the other answers the definition
pub covers_is : (upper lower : Kind) (b : Bool) → (IsTrue b ↔ Covers upper lower) → b ≡ covers upper lower
covers_is upper lower b e = elim (cases_Bool b) [
  | inl t ↦ t ∙ sym (each_way upper lower (covers_one_of_three (e.0 t)))
  | inr f ↦ elim (cases_Bool (covers upper lower)) [
    | inl t ↦ e.1 (three_ways_cover upper lower (three_ways upper lower t)) ∙ sym t
    | inr g ↦ f ∙ sym g
  ]
]
