use Rattle.std.proofs.Common.{◌∙◌, sym}
use Rattle.sv_base.proofs.KindWords.{found_by_name, finds_the_named}
use Rattle.sv_base.proofs.words.kind_of.Goals as goal

pub returns-clause-spells : goal.returns-clause-spells
returns-clause-spells c = λ kind. (λ found. found_by_name c.args.text.now kind (sym c.first_kind.ensures ∙ found), λ named. c.first_kind.ensures ∙ finds_the_named c.args.text.now kind named)
