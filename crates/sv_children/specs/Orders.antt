-- The orders that a step of a child gives (the manual's chapter on subprocesses).
use Rattle.std.specs.Prelude.{ℕ, List, [], ◌∷◌, Option, Some, None, Bool, slice_get}
use Rattle.sv_base.specs.declared.ids.Run.{Run}
use Rattle.sv_base.specs.declared.signal.Signal.{Signal}
use Rattle.sv_base.specs.declared.spec.GroupSpec.{GroupSpec}
use Rattle.sv_base.specs.declared.spec.Spec.{Spec}
use Rattle.sv_child.specs.declared.child.Child.{Child}
use Rattle.sv_child.specs.declared.step.Edge.{Edge}
use Rattle.sv_children.specs.Crew.{Crew}
use Rattle.sv_groups.specs.StartOrder.{pairs_of}
use Rattle.sv_out.specs.declared.order.Order.{Order}
use Rattle.sv_out.specs.declared.order.Order.TheVariants as order
use Rattle.sv_out.specs.declared.order.SpawnOrder.{SpawnOrder}

-- a report for each edge, by the names of the group and of the process
abbrev pub reports : List ℕ → List ℕ → List (Option Edge) → List Order
reports group name [] = []
reports group name (None ∷ edges) = reports group name edges
reports group name (Some edge ∷ edges) =
    order.State group name edge.from edge.to ∷ reports group name edges

-- a process that is not there reports nothing
abbrev pub reports_of : Option (GroupSpec × Spec) → List (Option Edge) → List Order
reports_of None edges = []
reports_of (Some pair) edges = reports pair.0.name pair.1.name edges

-- the reports of the edges that the child of a place took
abbrev pub reports_at : Crew → ℕ → List (Option Edge) → List Order
reports_at crew place edges = reports_of (slice_get (pairs_of crew.roster) place) edges

-- a run's signal, where there was a run
abbrev pub kill : Option Run → Signal → Bool → List Order
kill None signal group = []
kill (Some run) signal group = order.Kill run signal group ∷ []

-- a child that is not there has none
abbrev pub kill_of : Option Child → Signal → Bool → List Order
kill_of None signal group = []
kill_of (Some child) signal group = kill child.run signal group

-- the signal of the run of the child of a place
abbrev pub kill_at : Crew → ℕ → Signal → Bool → List Order
kill_at crew place signal group = kill_of (slice_get crew.all place) signal group

-- all that is needed to start a process of the group of this name as this run
abbrev pub spawn : List ℕ → Spec → ℕ → SpawnOrder
spawn group spec run = record {
  run = record { 0 = run };
  group = group;
  name = spec.name;
  directory = spec.directory;
  umask = spec.umask;
  user = spec.user;
  words = spec.words;
  environment = spec.environment;
}

-- a process that is not there has none
abbrev pub spawn_of : Option (GroupSpec × Spec) → ℕ → Option SpawnOrder
spawn_of None run = None
spawn_of (Some pair) run = Some (spawn pair.0.name pair.1 run)

-- the spawn of the process of a place, as this run
abbrev pub spawn_at : Crew → ℕ → ℕ → Option SpawnOrder
spawn_at crew place run = spawn_of (slice_get (pairs_of crew.roster) place) run
