use Rattle.std.proofs.Common.{◌∷◌, [], arith, sym, ap, ◌∙◌}
use Rattle.sv_child.specs.Rewind.{rewound}
use Rattle.sv_child.specs.declared.child.Child.{Child}
use Rattle.sv_children.proofs.Rewinding.{rewound_here, rewound_past}
use Rattle.sv_children.proofs.rewind.rewind_one.Goals as goal

pub returns-then-place-children : goal.returns-then-place-children
returns-then-place-children c =
    rewound_here c.args.at c.args.place c.args.spec.now c.args.children.now c.index-children-place.result c.rewind.new.self
    c.if-place-children.true c.index-children-place.is
    (c.rewind.ensures ∙ ap (λ (x : Child). rewound c.args.spec.now x c.args.at) (sym c.index-children-place.is))

pub returns-else-place-children : goal.returns-else-place-children
returns-else-place-children c =
    sym (rewound_past c.args.at c.args.place (c.args.spec.now ∷ []) c.args.children.now (omega (arith, c.if-place-children.false)))
