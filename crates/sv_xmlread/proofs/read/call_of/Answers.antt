use Rattle.sv_xmlcall.specs.Trees.{trees_view}
use Rattle.sv_xmlcall.specs.declared.stop.Stop.TheVariants as stop
use Rattle.sv_xmlcall.proofs.DocumentLaws.{done_goes, done_halts, a_call}
use Rattle.sv_xmlread.proofs.read.call_of.Goals as goal

pub returns-in-Ok-end : goal.returns-in-Ok-end
returns-in-Ok-end c = done_goes (a_call c.args.method (trees_view c.in-Ok.params.items)) c.params.new.opened _ c.in-Ok.rest.now (c.in-Ok.ensures c.args.method) c.in-Ok-end.ensures

pub returns-in-Err-end : goal.returns-in-Err-end
returns-in-Err-end c = done_halts (a_call c.args.method (trees_view c.in-Ok.params.items)) c.params.new.opened _ c.in-Ok.rest.now (stop.At c.in-Err-end.bad.0) (c.in-Ok.ensures c.args.method) c.in-Err-end.ensures
