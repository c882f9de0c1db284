use Rattle.sv_expand.proofs.CommandCuts.{no_words_open, open_no_words}
use Rattle.sv_expand.proofs.laws.each_text_without_words_has_an_open_quote.Goals as goal

pub returns : goal.returns
returns c = λ text. (no_words_open text, open_no_words text)
