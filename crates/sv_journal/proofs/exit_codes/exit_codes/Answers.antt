use Rattle.std.proofs.Common.{None}
use Rattle.sv_journal.specs.Reading.{codes_from}
use Rattle.sv_journal.proofs.Codes.{codes_more_at}
use Rattle.sv_journal.proofs.exit_codes.exit_codes.Goals as goal

pub loop-rest-preserved : goal.loop-rest-preserved
loop-rest-preserved c = record {
  read = codes_more_at c.loop-rest.codes c.push.new.self c.loop-rest.code c.in_ok-code-2.field-0-0 c.loop-rest.rest.now c.in_ok-code-2.field-0-1.now (codes_from None c.args.bytes.now) c.in-len1-up.len_at_least c.if-separator-ne44.false c.in_ok-code-2.ensures.value c.in_ok-push.ensures.ok c.loop-rest.invariant.read;
  bound = c.in_ok-code-2.ensures.bound;
}
