use Rattle.sv_expand.proofs.PairLists.{pairs_cut, cut_pairs}
use Rattle.sv_expand.proofs.laws.each_list_of_pairs_has_a_cut.Goals as goal

pub returns : goal.returns
returns c = λ text pairs. (pairs_cut text pairs, cut_pairs text pairs)
