use Rattle.std.proofs.Common.{◌≡◌}
use Rattle.std.specs.Prelude.{Some}
use Rattle.sv_expand.proofs.Choices.{if_ok}
use Rattle.sv_expand.proofs.CommandCuts.{words_cut, no_words_open}
use Rattle.sv_expand.specs.WordCuts.{HasWords}
use Rattle.sv_expand.specs.Words.{words_of}
use Rattle.sv_expand.proofs.words.words.Goals as goal

pub returns-clause-cut : goal.returns-clause-cut
returns-clause-cut c =
    if_ok (λ words. words_of c.args.text.now ≡ Some words.items) (λ words. HasWords c.args.text.now words.items) c.read_text.result
    (λ words. words_cut c.args.text.now words.items) c.read_text.ensures.words

pub returns-clause-unclosed : goal.returns-clause-unclosed
returns-clause-unclosed c = λ is. no_words_open c.args.text.now (c.read_text.ensures.fault is)
