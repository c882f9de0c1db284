use Rattle.std.proofs.Common.{ℕ, subst, sym}
use Rattle.sv_xmlcall.specs.Machine.{OfReply, start, run, the_limits}
use Rattle.sv_xmlcall.specs.Running.{Halts}
use Rattle.sv_xmlcall.specs.declared.stop.Stop.TheVariants as stop
use Rattle.sv_xmlcall.proofs.DocumentLaws.{answer_halts}
use Rattle.sv_xmlread.proofs.read.reply.Goals as goal

pub returns-in-Err : goal.returns-in-Err
returns-in-Err c =
    subst (λ (n : ℕ). Halts (stop.At c.in-Err.bad.0) n (run the_limits (start OfReply) c.args.bytes.now)) (sym c.requires)
    (answer_halts (stop.At c.in-Err.bad.0) c.args.bytes.now c.in-Err.ensures)
