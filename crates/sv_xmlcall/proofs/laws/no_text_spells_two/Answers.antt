use Rattle.sv_xmlcall.proofs.SpelledLaws.{one_meaning}
use Rattle.sv_xmlcall.proofs.laws.no_text_spells_two.Goals as goal

pub returns : goal.returns
returns c = one_meaning
