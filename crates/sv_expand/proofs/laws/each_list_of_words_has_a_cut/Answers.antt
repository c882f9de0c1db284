use Rattle.std.proofs.Common.{◌∙◌, ap, sym}
use Rattle.std.specs.Prelude.{Some}
use Rattle.sv_expand.proofs.CommandCuts.{words_cut, cut_words}
use Rattle.sv_expand.proofs.laws.each_list_of_words_has_a_cut.Goals as goal

pub returns : goal.returns
returns c = λ text words. (words_cut text words, λ has. cut_words text has.parts has.cut has.are ∙ ap (λ ws. Some ws) (sym has.words_are))
