-- How often a process is tried (the manual's chapter on subprocesses, startretries): a stretch is a
-- list of edges of one child, one after the other, that all end in STARTING or BACKOFF.
use Rattle.std.specs.Prelude.{◌≡◌, ◌≤◌, ◌+◌, ◌++◌, ℕ, List, [], ◌∷◌, Bool, true, false, Option}
use Rattle.std.specs.Prelude.{Some, None, slice_get}
use Rattle.sv_base.specs.declared.config.Config.{Config}
use Rattle.sv_base.specs.declared.spec.GroupSpec.{GroupSpec}
use Rattle.sv_base.specs.declared.spec.Spec.{Spec}
use Rattle.sv_base.specs.declared.state.State.{State}
use Rattle.sv_base.specs.declared.state.State.TheVariants.{Starting, Backoff}
use Rattle.sv_child.specs.declared.step.Edge.{Edge}
use Rattle.sv_children.specs.Reported.{edges_told}
use Rattle.sv_groups.specs.StartOrder.{pairs_of}
use Rattle.sv_out.specs.declared.order.Order.{Order}

-- a process is started, or waits for its next try
abbrev pub is_trying : State → Bool
is_trying Starting = true
is_trying Backoff = true
is_trying state = false

-- all of these edges end so
abbrev pub IsStretch : List (Option Edge) → Type 0
IsStretch [] = Unit {0}
IsStretch (None ∷ edges) = IsStretch edges
IsStretch (Some edge ∷ edges) = (is_trying edge.to ≡ true) × IsStretch edges

-- an edge into STARTING is one start
abbrev pub start_by : State → ℕ
start_by Starting = 1
start_by state = 0

-- how many of these edges lead into STARTING
abbrev pub starts_in : List (Option Edge) → ℕ
starts_in [] = 0
starts_in (None ∷ edges) = starts_in edges
starts_in (Some edge ∷ edges) = start_by edge.to + starts_in edges

-- each stretch among these edges has at most one start more than are tried again
abbrev pub StretchesAreShort : ℕ → List (Option Edge) → Type 0
StretchesAreShort retries edges = (before stretch rest : List (Option Edge))
    → edges ≡ before ++ (stretch ++ rest) → IsStretch stretch → starts_in stretch ≤ retries + 1

-- for each child of the configuration, in what is reported of it
abbrev pub ChildrenTryFewTimes : Config → List Order → Type 0
ChildrenTryFewTimes config given = (place : ℕ) (group : GroupSpec) (spec : Spec)
    → slice_get (pairs_of config.groups) place ≡ Some (group, spec)
    → StretchesAreShort spec.startretries (edges_told group.name spec.name given)

-- each of these processes is tried again at most so often as a number of retries may say
abbrev pub TryFewTimes : List Spec → Type 0
TryFewTimes [] = Unit {0}
TryFewTimes (spec ∷ specs) = (spec.startretries ≤ 1000000) × TryFewTimes specs

-- each process of these groups
abbrev pub AllTryFewTimes : List GroupSpec → Type 0
AllTryFewTimes [] = Unit {0}
AllTryFewTimes (group ∷ groups) = TryFewTimes group.members × AllTryFewTimes groups
