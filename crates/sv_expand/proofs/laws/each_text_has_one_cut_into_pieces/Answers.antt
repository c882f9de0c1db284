use Rattle.sv_expand.proofs.UniqueWords.{one_cut}
use Rattle.sv_expand.proofs.laws.each_text_has_one_cut_into_pieces.Goals as goal

pub returns : goal.returns
returns c = one_cut
