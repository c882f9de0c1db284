use Rattle.sv_expand.proofs.UniquePairs.{one_cut}
use Rattle.sv_expand.proofs.laws.each_text_has_one_cut_into_pairs.Goals as goal

pub returns : goal.returns
returns c = one_cut
