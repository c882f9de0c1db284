use Rattle.sv_keys.proofs.Parts.{two_behind}
use Rattle.sv_keys.proofs.names.add_host.Goals as goal

pub returns : goal.returns
returns c =
    rw (c.in_ok-add_environment.ensures, c.in_ok-add_pair-2.ensures, c.in_ok-add_pair.ensures, c.as_slice.ensures)
    (two_behind _ _ _ _)
