use Rattle.std.proofs.Common.{List, ap, ◌∙◌}
use Rattle.sv_base.specs.declared.spec.GroupSpec.{GroupSpec}
use Rattle.sv_children.proofs.Watching.{agenda_fits, all_settled}
use Rattle.sv_children.specs.Rewound.{all_rewound}
use Rattle.sv_groups.specs.StartOrder.{pairs_of, processes}
use Rattle.sv_children.proofs.children.rewind.Goals as goal

pub rewound-requires-clause-count : goal.rewound-requires-clause-count
rewound-requires-clause-count c =
    agenda_fits (pairs_of c.args.roster.now) (processes c.groups.result.now) c.args.children.now c.rewind_all.new.children
    c.args.at c.args.watch.now c.requires c.rewind_all.ensures

pub rewound-requires-clause-settled : goal.rewound-requires-clause-settled
rewound-requires-clause-settled c =
    all_settled c.args.roster.now c.args.children.now c.rewind_all.new.children c.args.at
    (c.rewind_all.ensures
    ∙ ap (λ (gs : List GroupSpec). all_rewound c.args.at (processes gs) c.args.children.now) c.groups.ensures.value)
