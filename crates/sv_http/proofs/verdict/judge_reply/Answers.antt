use Rattle.sv_http.proofs.ReplyReading.{over_limit_never, unmeasured_never}
use Rattle.sv_http.proofs.verdict.judge_reply.Goals as goal

pub returns-then-fields-gt-FIELD_LIMIT : goal.returns-then-fields-gt-FIELD_LIMIT
returns-then-fields-gt-FIELD_LIMIT c =
    let all = rw c.in-Ok-Complete.field-0-is at c.in-Ok-Complete.ensures in
    let held = all.complete in
    over_limit_never _ _ held.0 _ _ held.1.reads held.1.fields held.1.len_is c.then-fields-gt-FIELD_LIMIT.either

pub returns-in-None : goal.returns-in-None
returns-in-None c =
    let all = rw c.in-Ok-Complete.field-0-is at c.in-Ok-Complete.ensures in
    let held = all.complete in
    unmeasured_never _ _ held.0 _ _ held.1.reads held.1.fields c.body_size.ensures c.in-None.is
