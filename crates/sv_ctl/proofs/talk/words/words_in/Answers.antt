use Rattle.sv_ctl.proofs.TalkLemmas.WordLists.{words_missing, words_there}
use Rattle.sv_ctl.proofs.talk.words.words_in.Goals as goal

pub returns-in_ok-words_of-in-Ok : goal.returns-in_ok-words_of-in-Ok
returns-in_ok-words_of-in-Ok c =
    words_there c.args.line.now c.in-Ok.text.now c.in_ok-words_of-in-Ok.field-0 c.in-Ok.ensures.cases.0 c.in-Ok.ensures.cases.1
    c.in_ok-words_of-in-Ok.ensures

pub returns-in-Err : goal.returns-in-Err
returns-in-Err c = words_missing c.args.line.now c.in-Err.ensures.cases.0
