use Rattle.sv_children.proofs.Waking.{rewound_settled, settled_later, settled_same}
use Rattle.sv_children.proofs.laws.settled_stay.Goals as goal

pub returns-clause-stay : goal.returns-clause-stay
returns-clause-stay c = λ spec child now later settled order. (settled_same spec child now settled, settled_later spec child now later settled order)

pub returns-clause-rewinding : goal.returns-clause-rewinding
returns-clause-rewinding c = rewound_settled
