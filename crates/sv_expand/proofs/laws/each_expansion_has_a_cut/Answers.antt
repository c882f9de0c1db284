use Rattle.sv_expand.proofs.ExpansionCuts.{expansion_cut}
use Rattle.sv_expand.proofs.OneExpansion.{one_expansion}
use Rattle.sv_expand.proofs.laws.each_expansion_has_a_cut.Goals as goal

pub returns : goal.returns
returns c = λ names text whole. (
  expansion_cut names text whole,
  λ cut. one_expansion names text cut.parts whole cut.cut cut.are cut.told,
)
