-- The diagram of a child's states (the manual's chapter on subprocesses). The edge from BACKOFF to
-- STOPPED is ours: a stop needs not wait for the next try.
use Rattle.std.specs.Prelude.{◌≡◌, List, [], ◌∷◌, Option, Some, None}
use Rattle.sv_base.specs.declared.state.State.{State}
use Rattle.sv_base.specs.declared.state.State.TheVariants.{Stopped, Starting, Running, Backoff}
use Rattle.sv_base.specs.declared.state.State.TheVariants.{Stopping, Exited, Fatal}
use Rattle.sv_child.specs.declared.step.Edge.{Edge}

-- the twelve edges
abbrev pub IsInDiagram : State → State → Type 0
IsInDiagram Stopped Starting = Unit {0}
IsInDiagram Starting Running = Unit {0}
IsInDiagram Starting Backoff = Unit {0}
IsInDiagram Starting Stopping = Unit {0}
IsInDiagram Running Stopping = Unit {0}
IsInDiagram Running Exited = Unit {0}
IsInDiagram Backoff Starting = Unit {0}
IsInDiagram Backoff Fatal = Unit {0}
IsInDiagram Backoff Stopped = Unit {0}
IsInDiagram Stopping Stopped = Unit {0}
IsInDiagram Exited Starting = Unit {0}
IsInDiagram Fatal Starting = Unit {0}
IsInDiagram from to = ⊥

-- these edges of the diagram lead from one state to another
abbrev pub IsWalk : State → List (Option Edge) → State → Type 0
IsWalk from [] to = from ≡ to
IsWalk from (None ∷ edges) to = IsWalk from edges to
IsWalk from (Some edge ∷ edges) to =
    (edge.from ≡ from) × IsInDiagram edge.from edge.to × IsWalk edge.to edges to
