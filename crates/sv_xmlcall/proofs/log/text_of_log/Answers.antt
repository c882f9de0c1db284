use Rattle.sv_xmlcall.proofs.LogLaws.{end_utf8}
use Rattle.sv_xmlcall.proofs.log.text_of_log.Goals as goal

pub text_of-requires : goal.text_of-requires
text_of-requires c = end_utf8 c.loop-rest.text.items c.loop-rest.rest.now c.args.bytes.now c.loop-rest.left c.loop-rest.invariant c.in_default.len_below
