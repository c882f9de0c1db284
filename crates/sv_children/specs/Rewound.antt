-- Rewinding of all children, for a clock that goes back.
use Rattle.std.specs.Prelude.{ℕ, zero, suc, List, [], ◌∷◌}
use Rattle.sv_base.specs.declared.spec.Spec.{Spec}
use Rattle.sv_child.specs.Rewind.{rewound}
use Rattle.sv_child.specs.declared.child.Child.{Child}
use Rattle.sv_children.specs.Crew.{Crew}
use Rattle.sv_groups.specs.StartOrder.{processes}

-- each child is rewound to a moment, by what the configuration says of the process in its place
abbrev pub all_rewound : ℕ → List Spec → List Child → List Child
all_rewound at ss [] = []
all_rewound at [] (c ∷ cs) = c ∷ cs
all_rewound at (s ∷ ss) (c ∷ cs) = rewound s c at ∷ all_rewound at ss cs

-- the children after so many, by these processes
abbrev pub rewound_from : ℕ → List Spec → ℕ → List Child → List Child
rewound_from at ss zero cs = all_rewound at ss cs
rewound_from at ss (suc n) [] = []
rewound_from at ss (suc n) (c ∷ cs) = c ∷ rewound_from at ss n cs

-- the crew, rewound
abbrev pub crew_rewound : ℕ → Crew → Crew
crew_rewound at crew = record crew { all = all_rewound at (processes crew.roster) crew.all }
