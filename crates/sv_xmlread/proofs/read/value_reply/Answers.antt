use Rattle.sv_xmlcall.specs.Trees.{view}
use Rattle.sv_xmlcall.specs.Machine.{InReply}
use Rattle.sv_xmlcall.specs.declared.stop.Stop.TheVariants as stop
use Rattle.sv_xmlcall.proofs.ReplyEnds.{value_end_goes, value_end_halts}
use Rattle.sv_xmlread.proofs.read.value_reply.Goals as goal

pub returns-in-Ok-value_end : goal.returns-in-Ok-value_end
returns-in-Ok-value_end c = value_end_goes (view c.in-Ok.one) c.value.new.opened c.in-Ok.rest.now _ (c.in-Ok.ensures.reads InReply) c.in-Ok-value_end.ensures

pub returns-in-Err-value_end : goal.returns-in-Err-value_end
returns-in-Err-value_end c =
    value_end_halts (view c.in-Ok.one) c.value.new.opened c.in-Ok.rest.now _ (stop.At c.in-Err-value_end.bad.0) (c.in-Ok.ensures.reads InReply) c.in-Err-value_end.ensures
