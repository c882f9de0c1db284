use Rattle.sv_supervise.proofs.BeginLemmas.Told.{not_begun, told_reading, told_unread}
use Rattle.sv_supervise.proofs.begin.beginning.beginning_of.Goals as goal

pub returns-in-Err-clause-begins : goal.returns-in-Err-clause-begins
returns-in-Err-clause-begins g c =
    not_begun (g.S.Shelf.files c.args.shelf.now) c.as_str.result.now c.args.file.now c.args.host.now c.in-Err.fault c.told_of.result
    c.as_str.ensures c.in-Err.ensures.loads c.told_of.ensures

pub returns-in-Err-clause-reading : goal.returns-in-Err-clause-reading
returns-in-Err-clause-reading g c = told_reading c.args.file.now c.in-Err.fault c.told_of.result c.told_of.ensures

pub returns-in-Err-clause-cause : goal.returns-in-Err-clause-cause
returns-in-Err-clause-cause g c = record {
  later = c.in-Err.ensures.cause.later;
  rose = λ unread. c.in-Err.ensures.cause.rose (told_unread c.args.file.now c.in-Err.fault c.told_of.result c.told_of.ensures unread);
}
