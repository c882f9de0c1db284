use Rattle.sv_expand.proofs.UniqueParts.{one_cut}
use Rattle.sv_expand.proofs.laws.each_text_has_one_cut_into_parts.Goals as goal

pub returns : goal.returns
returns c = one_cut
