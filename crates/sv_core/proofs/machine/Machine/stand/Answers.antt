use Rattle.std.proofs.Common.{refl}
use Rattle.sv_core.proofs.machine.Machine.stand.Goals as goal

pub returns : goal.returns
returns c = λ older w s.
    rw (s.is, c.roster.ensures, c.as_slice.ensures, c.closed.ensures s.runs s.runs_kept, c.as_slice-2.ensures.sizes) refl
