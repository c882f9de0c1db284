use Rattle.std.proofs.Common.{refl}
use Rattle.sv_conf.proofs.once.section_pairs.Goals as goal

pub returns : goal.returns
returns c = rw (c.in_ok-add_pair.ensures, c.in_ok-pairs.ensures, c.in_ok-from_str.ensures) refl
