use Rattle.std.proofs.Common.{[], ◌≡◌, false, ◌==◌, length}
use Rattle.sv_core.specs.MachineState.{opening}
use Rattle.sv_judge.proofs.FoundLines.{go_leads}
use Rattle.sv_judge.specs.ShortHeader.{config_of, host_at}
use Rattle.sv_judge.proofs.judging.judge_go.Goals as goal

pub returns-in-Ok : goal.returns-in-Ok
returns-in-Ok c =
    let some : (length c.args.groups == 0) ≡ false = rw (← c.as_slice.ensures.value, ← c.is_empty.ensures) c.if-is_empty.false in
    rw (go_leads c.args.groups c.args.start some)
    (c.running.ensures (opening (config_of c.args.groups) [] (host_at c.args.start))
    (rw (c.config_of.ensures, c.host_at.ensures, c.new.ensures.items) at c.in-Ok.ensures))
