use Rattle.sv_journal.specs.Reading.{token_from, with_front}
use Rattle.sv_journal.specs.Reading.Stage.{Between}
use Rattle.sv_journal.proofs.Stages.{step_err}
use Rattle.sv_journal.proofs.token.spelled_behind.Goals as goal

pub returns-in-Err : goal.returns-in-Err
returns-in-Err c =
    step_err c.in-Err.bad.0 c.args.letters c.loop-byte.awaits c.loop-byte.rest.now c.loop-byte.value.items
    (with_front c.args.value.items (token_from c.args.letters (Between c.args.awaits) c.args.bytes.now)) c.in-Err.ensures.value c.loop-byte.invariant
