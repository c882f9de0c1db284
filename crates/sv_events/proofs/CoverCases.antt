use Rattle.std.proofs.Common.{◌≡◌, ◌⊎◌, inl, inr, Some, None, refl, ap, sym, subst, ◌∙◌}
use Rattle.sv_base.specs.declared.kind.Kind.{Kind}
use Rattle.sv_base.specs.declared.kind.Kind.TheVariants.{Event, ProcessState, ProcessStateStarting, ProcessStateRunning, ProcessStateBackoff, ProcessStateStopping, ProcessStateExited, ProcessStateStopped, ProcessStateFatal, ProcessStateUnknown, ProcessCommunication, ProcessCommunicationStdout, ProcessCommunicationStderr, ProcessLog, ProcessLogStdout, ProcessLogStderr, RemoteCommunication, SupervisorStateChange, SupervisorStateChangeRunning, SupervisorStateChangeStopping, Tick, Tick5, Tick60, Tick3600, ProcessGroup, ProcessGroupAdded, ProcessGroupRemoved}
use Rattle.sv_events.specs.Covers.{Covers, parent_of}
use Rattle.sv_events.specs.Covers.Covers.{itself, above}

-- what right above means
pub covers_below : (upper lower : Kind) → parent_of lower ≡ Some upper → Covers upper lower
covers_below upper lower e = above upper lower lower e (itself lower)

two_below : (middle lower : Kind) → parent_of lower ≡ Some middle → parent_of middle ≡ Some Event → Covers Event lower
two_below middle lower e f = above Event middle lower f (covers_below middle lower e)

-- EVENT covers all
pub event_covers : (kind : Kind) → Covers Event kind
event_covers Event = itself Event
event_covers ProcessState = covers_below Event ProcessState refl
event_covers ProcessStateStarting = two_below ProcessState ProcessStateStarting refl refl
event_covers ProcessStateRunning = two_below ProcessState ProcessStateRunning refl refl
event_covers ProcessStateBackoff = two_below ProcessState ProcessStateBackoff refl refl
event_covers ProcessStateStopping = two_below ProcessState ProcessStateStopping refl refl
event_covers ProcessStateExited = two_below ProcessState ProcessStateExited refl refl
event_covers ProcessStateStopped = two_below ProcessState ProcessStateStopped refl refl
event_covers ProcessStateFatal = two_below ProcessState ProcessStateFatal refl refl
event_covers ProcessStateUnknown = two_below ProcessState ProcessStateUnknown refl refl
event_covers ProcessCommunication = covers_below Event ProcessCommunication refl
event_covers ProcessCommunicationStdout = two_below ProcessCommunication ProcessCommunicationStdout refl refl
event_covers ProcessCommunicationStderr = two_below ProcessCommunication ProcessCommunicationStderr refl refl
event_covers ProcessLog = covers_below Event ProcessLog refl
event_covers ProcessLogStdout = two_below ProcessLog ProcessLogStdout refl refl
event_covers ProcessLogStderr = two_below ProcessLog ProcessLogStderr refl refl
event_covers RemoteCommunication = covers_below Event RemoteCommunication refl
event_covers SupervisorStateChange = covers_below Event SupervisorStateChange refl
event_covers SupervisorStateChangeRunning = two_below SupervisorStateChange SupervisorStateChangeRunning refl refl
event_covers SupervisorStateChangeStopping = two_below SupervisorStateChange SupervisorStateChangeStopping refl refl
event_covers Tick = covers_below Event Tick refl
event_covers Tick5 = two_below Tick Tick5 refl refl
event_covers Tick60 = two_below Tick Tick60 refl refl
event_covers Tick3600 = two_below Tick Tick3600 refl refl
event_covers ProcessGroup = covers_below Event ProcessGroup refl
event_covers ProcessGroupAdded = two_below ProcessGroup ProcessGroupAdded refl refl
event_covers ProcessGroupRemoved = two_below ProcessGroup ProcessGroupRemoved refl refl

above_known : (known middle upper : Kind) → known ≡ middle → parent_of middle ≡ Some upper → parent_of known ≡ Some upper
above_known known middle upper e f = ap parent_of e ∙ f

-- what stands two above another is EVENT
pub top_is_event : (lower middle upper : Kind) → parent_of lower ≡ Some middle → parent_of middle ≡ Some upper → upper ≡ Event
top_is_event Event middle upper e f = cc
top_is_event ProcessState middle upper e f = cc (above_known Event middle upper (cc) f)
top_is_event ProcessStateStarting middle upper e f = cc (above_known ProcessState middle upper (cc) f)
top_is_event ProcessStateRunning middle upper e f = cc (above_known ProcessState middle upper (cc) f)
top_is_event ProcessStateBackoff middle upper e f = cc (above_known ProcessState middle upper (cc) f)
top_is_event ProcessStateStopping middle upper e f = cc (above_known ProcessState middle upper (cc) f)
top_is_event ProcessStateExited middle upper e f = cc (above_known ProcessState middle upper (cc) f)
top_is_event ProcessStateStopped middle upper e f = cc (above_known ProcessState middle upper (cc) f)
top_is_event ProcessStateFatal middle upper e f = cc (above_known ProcessState middle upper (cc) f)
top_is_event ProcessStateUnknown middle upper e f = cc (above_known ProcessState middle upper (cc) f)
top_is_event ProcessCommunication middle upper e f = cc (above_known Event middle upper (cc) f)
top_is_event ProcessCommunicationStdout middle upper e f = cc (above_known ProcessCommunication middle upper (cc) f)
top_is_event ProcessCommunicationStderr middle upper e f = cc (above_known ProcessCommunication middle upper (cc) f)
top_is_event ProcessLog middle upper e f = cc (above_known Event middle upper (cc) f)
top_is_event ProcessLogStdout middle upper e f = cc (above_known ProcessLog middle upper (cc) f)
top_is_event ProcessLogStderr middle upper e f = cc (above_known ProcessLog middle upper (cc) f)
top_is_event RemoteCommunication middle upper e f = cc (above_known Event middle upper (cc) f)
top_is_event SupervisorStateChange middle upper e f = cc (above_known Event middle upper (cc) f)
top_is_event SupervisorStateChangeRunning middle upper e f = cc (above_known SupervisorStateChange middle upper (cc) f)
top_is_event SupervisorStateChangeStopping middle upper e f = cc (above_known SupervisorStateChange middle upper (cc) f)
top_is_event Tick middle upper e f = cc (above_known Event middle upper (cc) f)
top_is_event Tick5 middle upper e f = cc (above_known Tick middle upper (cc) f)
top_is_event Tick60 middle upper e f = cc (above_known Tick middle upper (cc) f)
top_is_event Tick3600 middle upper e f = cc (above_known Tick middle upper (cc) f)
top_is_event ProcessGroup middle upper e f = cc (above_known Event middle upper (cc) f)
top_is_event ProcessGroupAdded middle upper e f = cc (above_known ProcessGroup middle upper (cc) f)
top_is_event ProcessGroupRemoved middle upper e f = cc (above_known ProcessGroup middle upper (cc) f)

-- the three ways in which one covers another
abbrev pub IsCovering : Kind → Kind → Type 0
IsCovering parent kind = (parent ≡ kind) ⊎ (parent ≡ Event) ⊎ (parent_of kind ≡ Some parent)

goes_up : (upper middle lower : Kind) → parent_of middle ≡ Some upper → IsCovering middle lower → IsCovering upper lower
goes_up upper middle lower e (inl same) = inr (inr (ap parent_of (sym same) ∙ e))
goes_up upper middle lower e (inr (inl top)) = let none : None ≡ Some upper = ap parent_of (sym top) ∙ e in cc
goes_up upper middle lower e (inr (inr right)) = inr (inl (top_is_event lower middle upper right e))

pub covers_one_of_three : {parent kind : Kind} → Covers parent kind → IsCovering parent kind
covers_one_of_three (itself kind) = inl refl
covers_one_of_three (above upper middle lower e c) = goes_up upper middle lower e (covers_one_of_three c)

pub three_ways_cover : (parent kind : Kind) → IsCovering parent kind → Covers parent kind
three_ways_cover parent kind (inl same) = subst (λ (k : Kind). Covers parent k) same (itself parent)
three_ways_cover parent kind (inr (inl top)) = subst (λ (p : Kind). Covers p kind) (sym top) (event_covers kind)
three_ways_cover parent kind (inr (inr right)) = covers_below parent kind right
