use Rattle.sv_loop.proofs.Says.{tells_deeds}
use Rattle.sv_loop.proofs.laws.each_row_tells_deeds.Goals as goal

pub returns : goal.returns
returns c bytes given lines at text rest read = tells_deeds lines at given read.walks
