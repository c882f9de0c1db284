-- A child's whole life: what it is, and which steps it took, after a list of happenings.
use Rattle.std.specs.Prelude.{ℕ, List, [], ◌∷◌, Option, None}
use Rattle.std.specs.List.{flat_map}
use Rattle.sv_base.specs.declared.spec.Spec.{Spec}
use Rattle.sv_base.specs.declared.state.Mood.{Mood}
use Rattle.sv_child.specs.ChildTable.{Stimulus, happens}
use Rattle.sv_child.specs.Moves.{Answer, stays}
use Rattle.sv_child.specs.Rewind.{rewound}
use Rattle.sv_child.specs.declared.child.Child.{Child}
use Rattle.sv_child.specs.declared.step.Edge.{Edge}
use Rattle.sv_child.specs.declared.step.Step.{Step}

-- what may befall a child: a stimulus, or that it is rewound
pub data Happening : Type 0 where
  Stimulated : (stimulus : Stimulus) (mood : Mood) (now : ℕ) → Happening
  Rewound : (now : ℕ) → Happening

-- what comes of one of them
abbrev pub befalls : Spec → Child → Happening → Answer
befalls spec child (Stimulated stimulus mood now) = happens spec child stimulus mood now
befalls spec child (Rewound now) = record { child = rewound spec child now; step = stays None }

-- the child after all of them
abbrev pub child_after : Spec → Child → List Happening → Child
child_after spec child [] = child
child_after spec child (h ∷ hs) = child_after spec (befalls spec child h).child hs

-- the step that it takes at each of them
abbrev pub steps_of : Spec → Child → List Happening → List Step
steps_of spec child [] = []
steps_of spec child (h ∷ hs) =
    (befalls spec child h).step ∷ steps_of spec (befalls spec child h).child hs

-- the edges of all of them
abbrev pub edges_of : Spec → Child → List Happening → List (Option Edge)
edges_of spec child happenings =
    flat_map (λ (step : Step). step.edges) (steps_of spec child happenings)
