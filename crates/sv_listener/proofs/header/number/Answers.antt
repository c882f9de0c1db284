use Rattle.sv_listener.proofs.Numbers.{number_good}
use Rattle.sv_listener.proofs.header.number.Goals as goal

pub returns-in-Some : goal.returns-in-Some
returns-in-Some c = number_good c.args.bytes.now c.in_ok-word.word.now c.in_ok-word.rest.now c.in-Some.value c.in_ok-word.ensures.cut c.in-Some.ensures
