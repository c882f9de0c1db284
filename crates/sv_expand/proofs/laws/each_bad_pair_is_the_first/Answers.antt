use Rattle.sv_expand.proofs.PairLists.{bad_pair_cut, cut_bad_pair}
use Rattle.sv_expand.proofs.laws.each_bad_pair_is_the_first.Goals as goal

pub returns : goal.returns
returns c = λ text place. (bad_pair_cut text place, cut_bad_pair text place)
