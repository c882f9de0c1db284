use Rattle.std.proofs.Common.{List, ℕ, IsTrue, sym, subst}
use Rattle.sv_logs.specs.Sizes.{rise}
use Rattle.sv_judge.proofs.RisingNames.{rise_more}
use Rattle.sv_judge.proofs.sizes.Sizes.with.Goals as goal

pub invariant_of-result : goal.invariant_of-result
invariant_of-result c =
    subst (λ (sizes : List (List ℕ × ℕ)). IsTrue (rise sizes)) (sym c.in_ok-push.ensures.items)
    (rise_more c.self.inside.sizes.items c.args.file c.args.size c.self.invariant (rw (← c.self.view_is) at c.requires))
