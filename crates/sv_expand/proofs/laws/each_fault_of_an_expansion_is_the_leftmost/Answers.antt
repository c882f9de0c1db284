use Rattle.sv_expand.proofs.ExpansionCuts.{expansion_fault, fault_expansion}
use Rattle.sv_expand.proofs.laws.each_fault_of_an_expansion_is_the_leftmost.Goals as goal

pub returns : goal.returns
returns c = λ names text fault. (expansion_fault names text fault, fault_expansion names text fault)
