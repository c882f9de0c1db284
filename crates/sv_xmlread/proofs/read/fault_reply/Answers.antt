use Rattle.std.proofs.Common.{◌≡◌, Ok, Err, Option, subst}
use Rattle.sv_xmlcall.specs.Trees.{Reply, view, reply_view}
use Rattle.sv_xmlcall.specs.Machine.{InFault}
use Rattle.sv_xmlcall.specs.Documents.{faulty_at}
use Rattle.sv_xmlcall.proofs.ReplyEnds.{faulty_goes, faulty_halts}
use Rattle.sv_xmlread.proofs.read.fault_reply.Goals as goal

pub returns-in-Ok-faulty : goal.returns-in-Ok-faulty
returns-in-Ok-faulty c =
    faulty_goes reply_view (view c.in-Ok.one) c.value.new.opened c.in-Ok.rest.now _ c.in-Ok-faulty.answered (c.in-Ok.ensures.reads InFault)
    (subst (λ (x : Option Reply). faulty_at x c.in-Ok.rest.now ≡ Ok (reply_view c.in-Ok-faulty.answered)) c.in-Ok-fault_of.ensures c.in-Ok-faulty.ensures)

pub returns-in-Ok-fault_of : goal.returns-in-Ok-fault_of
returns-in-Ok-fault_of c =
    faulty_halts (view c.in-Ok.one) c.value.new.opened c.in-Ok.rest.now _ c.in-Err-faulty.bad.0 (c.in-Ok.ensures.reads InFault)
    (subst (λ (x : Option Reply). faulty_at x c.in-Ok.rest.now ≡ Err c.in-Err-faulty.bad.0) c.in-Ok-fault_of.ensures c.in-Err-faulty.ensures)
