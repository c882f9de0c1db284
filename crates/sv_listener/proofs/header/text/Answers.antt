use Rattle.sv_listener.proofs.Numbers.{text_good, text_bad}
use Rattle.sv_listener.proofs.header.text.Goals as goal

pub returns-in-Ok : goal.returns-in-Ok
returns-in-Ok c =
    text_good c.args.bytes.now c.in_ok-word.word.now c.in_ok-word.rest.now c.in-Ok.text.now c.in_ok-word.ensures.cut c.in-Ok.ensures.cases.1 c.in-Ok.ensures.cases.0

pub returns-in-Err : goal.returns-in-Err
returns-in-Err c = text_bad c.args.bytes.now c.in_ok-word.word.now c.in_ok-word.rest.now c.in_ok-word.ensures.cut c.in-Err.ensures.cases.0
