-- Lives written out: what befalls a child of a small program, and what it then does.
use Rattle.std.specs.Prelude.{ℕ, List, [], ◌∷◌, ◌++◌, Option, Some, None, true}
use Rattle.std.specs.List.{flat_map}
use Rattle.sv_base.specs.declared.signal.Signal.TheVariants.{Term}
use Rattle.sv_base.specs.declared.spec.Spec.{Spec}
use Rattle.sv_base.specs.declared.state.Autorestart.{Autorestart}
use Rattle.sv_base.specs.declared.state.How.{How}
use Rattle.sv_base.specs.declared.state.Mood.TheVariants as mood_is
use Rattle.sv_base.specs.declared.state.State.{State}
use Rattle.sv_child.specs.ChildTable.{Stimulus}
use Rattle.sv_child.specs.ChildTable.Stimulus.{Stop, Spawned, Spawn_failed, Ended, Time}
use Rattle.sv_child.specs.Life.{Happening, steps_of}
use Rattle.sv_child.specs.Life.Happening.{Stimulated, Rewound}
use Rattle.sv_child.specs.Moves.{new_child}
use Rattle.sv_child.specs.declared.step.ChildDeed.{ChildDeed}
use Rattle.sv_child.specs.declared.step.Edge.{Edge}
use Rattle.sv_child.specs.declared.step.Step.{Step}

-- a program that is started with the daemon, expects the exit code 0 and is stopped by TERM; the
-- rest is as it was
abbrev pub program : Spec → ℕ → ℕ → Autorestart → ℕ → Spec
program spec startsecs startretries autorestart stopwaitsecs = record spec {
  autostart = true;
  startsecs = startsecs;
  startretries = startretries;
  autorestart = autorestart;
  exitcodes = 0 ∷ [];
  stopsignal = Term;
  stopwaitsecs = stopwaitsecs;
}

-- a stimulus befalls it at a moment, while the daemon neither restarts nor shuts down
abbrev pub befallen : Stimulus → ℕ → Happening
befallen stimulus now = Stimulated stimulus mood_is.Running now

-- the clock says a moment, and the daemon looks at the child
abbrev pub tick : ℕ → List Happening
tick now = Rewound now ∷ befallen Time now ∷ []

-- the spawn that it asked for at that moment was answered with a process number
abbrev pub pid : ℕ → ℕ → ℕ → List Happening
pid run number now = befallen (Spawned (record { 0 = run }) number) now ∷ []

-- the spawn was refused
abbrev pub refused : List ℕ → ℕ → List Happening
refused fault now = befallen (Spawn_failed fault) now ∷ []

-- its process ended
abbrev pub exit : How → ℕ → List Happening
exit how now = Rewound now ∷ befallen (Ended how) now ∷ befallen Time now ∷ []

-- it was told to stop
abbrev pub stop : ℕ → List Happening
stop now = Rewound now ∷ befallen Stop now ∷ befallen Time now ∷ []

-- what a child does: it takes an edge, or has a deed done
pub data Told : Type 0 where
  Took : (from to : State) → Told
  Had : (deed : ChildDeed) → Told

-- what an edge tells, where there is one
abbrev pub told_edge : Option Edge → List Told
told_edge None = []
told_edge (Some edge) = Took edge.from edge.to ∷ []

-- what a deed tells, where there is one
abbrev pub told_deed : Option ChildDeed → List Told
told_deed None = []
told_deed (Some deed) = Had deed ∷ []

-- what a step tells: its edges, then its deed
abbrev pub told_step : Step → List Told
told_step step = flat_map told_edge step.edges ++ told_deed step.deed

-- what a new child does in such a life, in order
abbrev pub told : Spec → List Happening → List Told
told spec happenings = flat_map told_step (steps_of spec new_child happenings)
